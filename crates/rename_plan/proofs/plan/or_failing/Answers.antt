use Rattle.std.proofs.Common.{List, None, Option, subst}
use Rattle.cs_base.specs.declared.causes.Cause.TheVariants as cause
use Rattle.offences.specs.declared.firsts.Offence.{Offence}
use Rattle.offences.specs.First.{standing, FirstThen, IsFirst}
use Rattle.rename_rules.specs.GnuOffences.{failing_places, with_failing}
use Rattle.rename_rules.proofs.FailingLemmas.{first_known, first_failing, if_ok}
use Rattle.rename_plan.proofs.plan.or_failing.Goals as goal

pub returns-in-Some : goal.returns-in-Some
returns-in-Some c =
    let class = c.args.renaming.now.class in
    let a = class.analysis.value in
    λ offences first.
    first_known a class.members c.args.renaming.now.name a.table c.in-Some.offence offences
    (subst (λ (o : Option Offence). IsFirst a.table offences o) c.in-Some.is first)

pub returns-in-None : goal.returns-in-None
returns-in-None c =
    let class = c.args.renaming.now.class in
    let a = class.analysis.value in
    let name = c.args.renaming.now.name in
    if_ok c.failing.result (FirstThen a.table (standing cause.Syntax (failing_places a class.members name)) None)
    (λ (now : Option Offence). (offences : List Offence) → IsFirst a.table offences c.args.known → IsFirst a.table (with_failing a class.members name offences) now)
    (λ now then_ offences first.
    first_failing a class.members name a.table now then_ offences (subst (λ (o : Option Offence). IsFirst a.table offences o) c.in-None.is first))
    c.failing.ensures
