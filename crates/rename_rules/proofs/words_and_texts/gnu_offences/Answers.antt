use Rattle.std.proofs.Common.{List, subst, sym}
use Rattle.offences.specs.declared.firsts.Offence.{Offence}
use Rattle.offences.specs.First.{FirstThen}
use Rattle.offences.proofs.FirstLemmas.{then_none}
use Rattle.rename_rules.proofs.GnuLemmas.{no_gnu}
use Rattle.rename_rules.proofs.words_and_texts.gnu_offences.Goals as goal

pub returns-else-has_gnu : goal.returns-else-has_gnu
returns-else-has_gnu c =
    let class = c.args.renaming.now.class in
    let a = class.analysis.value in
    let same = rw c.class.ensures at c.analysis-a.ensures in
    let none = rw same at (sym c.if-has_gnu.ensures) in
    subst (λ (os : List Offence). FirstThen a.table os c.args.first c.args.first) (sym (no_gnu a class.members c.args.renaming.now.name none)) (then_none a.table c.args.first)
