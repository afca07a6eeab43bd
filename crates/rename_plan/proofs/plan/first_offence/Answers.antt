use Rattle.std.proofs.Common.{◌++◌, List, [], Option, refl}
use Rattle.offences.specs.declared.firsts.Offence.{Offence}
use Rattle.offences.specs.First.{IsFirst}
use Rattle.rename_rules.specs.GnuOffences.{with_failing}
use Rattle.rename_rules.specs.Offences.{member_offences, offences_of, spelling_offences}
use Rattle.rename_rules.proofs.FailingLemmas.{if_ok}
use Rattle.rename_plan.proofs.plan.first_offence.Goals as goal

pub returns : goal.returns
returns c =
    let class = c.args.renaming.now.class in
    let a = class.analysis.value in
    let name = c.args.renaming.now.name in
    let members : List Offence = member_offences a class.members name c.args.strings in
    let spellings : List Offence = spelling_offences a class.members name in
    let at_members = c.in_ok-at_members.ensures in
    let spelled = c.in_ok-known.ensures in
    if_ok c.or_failing.result
    (λ (now : Option Offence). (offences : List Offence) → IsFirst a.table offences c.in_ok-known.known → IsFirst a.table (with_failing a class.members name offences) now)
    (IsFirst a.table (offences_of a class.members name c.args.strings))
    (λ now first.
    first (members ++ spellings)
    ((spelled c.args.strings c.in_ok-found.ensures).goes_on members ((at_members c.args.strings c.in_ok-found.ensures).goes_on [] refl)))
    c.or_failing.ensures
