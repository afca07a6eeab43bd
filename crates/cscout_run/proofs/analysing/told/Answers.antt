use Rattle.std.proofs.Common.{refl, subst}
use Rattle.command_words.specs.Asking.{report_value}
use Rattle.cscout_run.specs.Asks.{IsReportAnswer}
use Rattle.cscout_run.specs.Shapes.{Answer}
use Rattle.cscout_run.proofs.OverLemmas.{handed_tells, shows}
use Rattle.cscout_run.proofs.analysing.told.Goals as goal

pub returns-in_err-text : goal.returns-in_err-text
returns-in_err-text c =
    handed_tells (λ (a : Answer). a) (IsReportAnswer (report_value c.args.report.now) c.args.a.now.value) c.in_err-text.field-0.0
    c.from_residual.result c.from_residual.ensures.1 c.in_err-text.ensures

pub returns : goal.returns
returns c =
    subst (λ (answer : Answer). IsReportAnswer (report_value c.args.report.now) c.args.a.now.value answer)
    (shows c.to_show.result c.in_ok-text.text.items (rw c.to_show.ensures.text refl) c.to_show.ensures.edits c.to_show.ensures.refused) c.in_ok-text.ensures
