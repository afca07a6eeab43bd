use Rattle.std.proofs.Common.{◌<◌, length, ap, arith, subst}
use Rattle.eclass_map.specs.ClassTable.{Table}
use Rattle.eclass_map.specs.Kept.{IsKept}
use Rattle.eclass_map.proofs.LinkedFacts.{number_within}
use Rattle.eclass_map.proofs.class_table.Classes.class_of_character.Goals as goal

pub spot_of-spot-requires : goal.spot_of-spot-requires
spot_of-spot-requires c =
    let t = c.args.self.now in
    let P : Table → Type 0 = λ v. IsKept v in
    let kept = subst P c.self.view_is c.self.invariant in
    let within : c.args.index < length t.labels.spots = number_within t kept c.args.part.start c.args.index c.requires in
    omega (arith, ap (λ (v : Table). length v.labels.spots) c.self.view_is)
