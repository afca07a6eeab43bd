use Rattle.offences.specs.Moves.{renaming_by}
use Rattle.rename_rules.proofs.GnuLemmas.{kept_quiet}
use Rattle.rename_rules.proofs.failing_units.at_begin.Goals as goal

pub returns-then-branch : goal.returns-then-branch
returns-then-branch c u at gnu begins =
    kept_quiet c.args.a.now.value.table (renaming_by c.args.moves.now) u c.args.first c.in_ok-is_kept.field-0 (c.in_ok-is_kept.ensures u at) c.if-branch.true
