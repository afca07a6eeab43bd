use Rattle.std.proofs.Common.{List, subst, sym}
use Rattle.cs_base.specs.declared.causes.Cause.TheVariants as cause
use Rattle.cs_base.specs.declared.positions.Pos.{Pos}
use Rattle.offences.specs.First.{standing, FirstThen}
use Rattle.offences.proofs.FirstLemmas.{then_none}
use Rattle.rename_rules.proofs.GnuLemmas.{no_failing}
use Rattle.rename_rules.proofs.failing_units.failing.Goals as goal

pub returns-else-has_gnu : goal.returns-else-has_gnu
returns-else-has_gnu c =
    let class = c.args.renaming.now.class in
    let a = class.analysis.value in
    let same = rw c.class.ensures at c.analysis-a.ensures in
    let none = rw same at (sym c.if-has_gnu.ensures) in
    subst (λ (ps : List Pos). FirstThen a.table (standing cause.Syntax ps) c.args.first c.args.first) (sym (no_failing a class.members c.args.renaming.now.name none))
    (then_none a.table c.args.first)
