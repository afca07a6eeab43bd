use Rattle.std.proofs.Common.{true}
use Rattle.kept_analysis.proofs.PlannedLemmas.{planned_is_followed}
use Rattle.library_rows.proofs.advance_tests.planned.Goals as goal

pub advance-requires : goal.advance-requires
advance-requires c =
    planned_is_followed c.requires.accepted.0 c.args.a.value c.args.path.now c.args.line c.args.column c.args.part c.args.name.now true _
    c.requires.accepted.1 c.requires.named c.in-Ok.ensures.answer
