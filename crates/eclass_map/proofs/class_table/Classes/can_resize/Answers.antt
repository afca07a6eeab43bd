use Rattle.std.proofs.Common.{◌≡◌, ◌*◌, ◌<◌, ◌^◌, length, ap, subst, ◌∙◌, arith}
use Rattle.eclass_map.specs.ClassTable.{Table}
use Rattle.eclass_map.specs.Kept.{IsKept}
use Rattle.eclass_map.proofs.PartLaws.{has_parts}
use Rattle.eclass_map.proofs.ResizingFacts.{product_fits, within_by}
use Rattle.eclass_map.proofs.class_table.Classes.can_resize.Goals as goal

pub member_count-requires : goal.member_count-requires
member_count-requires c = let P : Table → Type 0 = λ v. IsKept v in has_parts c.args.self.now (subst P c.self.view_is c.self.invariant)

pub overflow_mul-more : goal.overflow_mul-more
overflow_mul-more c =
    let few = c.member_count.ensures.few in
    let short = c.self.invariant.short in
    let same : length c.self.inside.places.list ≡ length c.args.self.now.places = ap (λ (t : Table). length t.places) c.self.view_is in
    let fits = product_fits c.member_count.result c.args.len (omega (arith, few, short, same)) c.ranges.len.fits in
    omega (arith, fits)

pub returns-clause-within : goal.returns-clause-within
returns-clause-within c =
    within_by c.are_near.result c.args.self.now c.args.class c.args.len _ c.member_count.result c.deref.result.now (λ i. c.member_count.result * c.args.len) c.member_count.ensures.answer
    (c.deref.ensures.value ∙ ap (λ (t : Table). t.tokens) c.self.view_is) c.are_near.ensures
