use Rattle.cs_base.specs.declared.causes.Cause.TheVariants as cause
use Rattle.std.proofs.Common.{◌++◌, Bool, Option}
use Rattle.std.specs.List.{flat_map}
use Rattle.offences.specs.declared.firsts.Offence.{Offence}
use Rattle.offences.specs.First.{standing, FirstThen}
use Rattle.rename_rules.specs.GnuOffences.{gnu_offences}
use Rattle.rename_rules.specs.InUnits.{AreInUnits}
use Rattle.rename_rules.specs.Offences.{spelling_offences}
use Rattle.rename_rules.specs.Offences.{occurring_place, occurring_places, clashing_places, too_large_places, shadowed_places}
use Rattle.rename_rules.specs.Tokens.{holders, pasted_tokens}
use Rattle.offences.proofs.FirstLemmas.{then_both}
use Rattle.rename_rules.proofs.FailingLemmas.{if_ok}
use Rattle.rename_rules.proofs.OccurrenceLemmas.{all_occurring}
use Rattle.rename_plan.proofs.plan.spelling_offences.Goals as goal

pub returns : goal.returns
unfolding spelling_offences
returns c =
    let class = c.args.renaming.now.class in
    let a = class.analysis.value in
    let ms = class.members in
    let name = c.args.renaming.now.name in
    let s1 = standing cause.Occurs (occurring_places a ms name) in
    let s2 = standing cause.Clash (clashing_places a ms name) in
    let s3 = standing cause.TooLarge (too_large_places a ms name) in
    let s4 = standing cause.ShadowedTypedef (shadowed_places a ms) in
    let s5 = gnu_offences a ms name in
    let made = standing cause.Occurs (flat_map (occurring_place ms name (holders a ms)) (pasted_tokens a)) in
    let t = a.table in
    if_ok c.gnu_offences.result (FirstThen t s5 c.and_first-hidden.result)
    (λ (now : Option Offence). (strings : Bool) → AreInUnits a ms name strings c.args.found.now → FirstThen t (s1 ++ s2 ++ s3 ++ s4 ++ s5) c.args.first now)
    (λ now last strings found.
    let words = all_occurring a ms name c.args.first c.occurring-words.result c.and_first-all.result c.occurring-words.ensures (c.and_first-all.ensures made found.pasted) in
    then_both t (s1 ++ s2 ++ s3 ++ s4) s5 _ _ now
    (then_both t (s1 ++ s2 ++ s3) s4 _ _ _
    (then_both t (s1 ++ s2) s3 _ _ _ (then_both t s1 s2 _ _ _ words c.in_ok-pairs.ensures) c.in_ok-sizes.ensures)
    (c.and_first-hidden.ensures s4 found.bare))
    last)
    c.gnu_offences.ensures
