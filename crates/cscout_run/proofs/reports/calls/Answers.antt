use Rattle.std.proofs.Common.{refl}
use Rattle.cscout_run.proofs.reports.calls.Goals as goal

pub returns : goal.returns
returns c = (c.in_ok-calls.calls, c.in_ok-calls.ensures, rw c.in_ok-print_calls.ensures refl)
