use Rattle.cs_base.specs.declared.causes.Cause.TheVariants as cause
use Rattle.std.proofs.Common.{◌++◌, None}
use Rattle.offences.specs.First.{standing}
use Rattle.rename_rules.specs.Offences.{member_offences}
use Rattle.rename_rules.specs.Offences.{read_only_places, reserved_places, kept_string_places, header_places, no_identifier_places}
use Rattle.offences.proofs.FirstLemmas.{then_both}
use Rattle.rename_plan.proofs.plan.member_offences.Goals as goal

pub returns : goal.returns
unfolding member_offences
returns c = λ strings found.
    let class = c.args.renaming.now.class in
    let a = class.analysis.value in
    let ms = class.members in
    let name = c.args.renaming.now.name in
    let s1 = standing cause.ReadOnly (read_only_places a ms) in
    let s2 = standing cause.Reserved (reserved_places a ms name) in
    let s3 = standing cause.Stringized (kept_string_places a ms strings) in
    let s4 = standing cause.HeaderName (header_places a ms) in
    let s5 = standing cause.NotIdentifier (no_identifier_places a ms) in
    let t = a.table in
    then_both t (s1 ++ s2 ++ s3 ++ s4) s5 None _ _
    (then_both t (s1 ++ s2 ++ s3) s4 None _ _
    (then_both t (s1 ++ s2) s3 None _ _ (then_both t s1 s2 None _ _ c.read_only-kept.ensures c.in_ok-words.ensures) (c.and_first-made.ensures s3 found.kept))
    (c.and_first-headers.ensures s4 found.headers))
    c.no_identifiers.ensures
