use Rattle.std.proofs.Common.{None, Some, Err, ap, refl}
use Rattle.cscout_run.proofs.reports.queried.Goals as goal

pub returns-in-Ok : goal.returns-in-Ok
returns-in-Ok c = (Some c.in-Ok.text.items, c.in-Ok.ensures.answer, refl)

pub returns-in-Err-NoName : goal.returns-in-Err-NoName
returns-in-Err-NoName c = (None, c.in-Err-NoName.ensures.no_name (ap (λ e. Err e) c.in-Err-NoName.field-0-is), refl)
