use Rattle.std.proofs.Common.{Option, None, subst, sym}
use Rattle.offences.specs.declared.firsts.Offence.{Offence}
use Rattle.offences.specs.First.{FirstThen}
use Rattle.rename_rules.proofs.InUnitLemmas.{then_first, then_no}
use Rattle.rename_rules.proofs.unit_offences.and_first.Goals as goal

pub returns-in-Some : goal.returns-in-Some
returns-in-Some c = λ others known.
    let table = c.args.renaming.now.class.analysis.value.table in
    then_first table others c.in-Some.offence c.args.first c.first_with.result
    (subst (λ (o : Option Offence). FirstThen table others None o) c.in-Some.is known)
    (rw (rw c.class.ensures at c.analysis-a.ensures) at c.first_with.ensures)

pub returns-in-None : goal.returns-in-None
returns-in-None c = λ others known.
    let table = c.args.renaming.now.class.analysis.value.table in
    then_no table others c.args.first (subst (λ (o : Option Offence). FirstThen table others None o) c.in-None.is known)
