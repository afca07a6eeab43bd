use Rattle.std.proofs.Common.{◌≡◌, ◌<◌, length, sym, ◌∙◌, ap, arith, subst, Some}
use Rattle.std.specs.Prelude.{slice_get}
use Rattle.class_labels.specs.Labels.{length_at}
use Rattle.eclass_map.specs.ClassTable.{Table}
use Rattle.eclass_map.specs.Kept.{IsKept}
use Rattle.eclass_map.proofs.LinkedFacts.{number_within, label_of}
use Rattle.eclass_map.proofs.PartLaws.{class_found, part_first}
use Rattle.eclass_map.proofs.class_table.Classes.found_character.Goals as goal

pub spot_of-spot-requires : goal.spot_of-spot-requires
spot_of-spot-requires c =
    let t = c.args.self.now in
    let P : Table → Type 0 = λ v. IsKept v in
    let kept = subst P c.self.view_is c.self.invariant in
    let within : c.args.index < length t.labels.spots = number_within t kept c.args.pos c.args.index c.requires in
    omega (arith, ap (λ (v : Table). length v.labels.spots) c.self.view_is)

pub overflow_sub-start : goal.overflow_sub-start
overflow_sub-start c =
    let t = c.args.self.now in
    let P : Table → Type 0 = λ v. IsKept v in
    let kept = subst P c.self.view_is c.self.invariant in
    let at : slice_get t.labels.spots c.args.index ≡ Some c.spot_of-spot.result = ap (λ (v : Table). slice_get v.labels.spots c.args.index) (sym c.self.view_is) ∙ c.spot_of-spot.ensures.answer in
    (part_first t kept c.args.pos c.spot_of-spot.result (label_of t c.args.pos c.args.index c.requires ∙ at)).0

pub returns-clause-class : goal.returns-clause-class
returns-clause-class c =
    let t = c.args.self.now in
    let P : Table → Type 0 = λ v. IsKept v in
    let kept = subst P c.self.view_is c.self.invariant in
    let at : slice_get t.labels.spots c.args.index ≡ Some c.spot_of-spot.result = ap (λ (v : Table). slice_get v.labels.spots c.args.index) (sym c.self.view_is) ∙ c.spot_of-spot.ensures.answer in
    class_found t kept c.args.pos c.spot_of-spot.result c.length_of.result (label_of t c.args.pos c.args.index c.requires ∙ at)
    (ap (λ (v : Table). length_at v.labels c.spot_of-spot.result.class) (sym c.self.view_is) ∙ sym c.length_of.ensures)
