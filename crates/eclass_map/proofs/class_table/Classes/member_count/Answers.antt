use Rattle.std.proofs.Common.{◌≡◌, ◌<◌, ◌≤◌, length, sym, ap, ◌∙◌, arith, Some}
use Rattle.std.specs.Prelude.{slice_get}
use Rattle.std.proofs.lemmas.Option.{slice_get_within}
use Rattle.eclass_map.specs.ClassTable.{Table, members_of}
use Rattle.eclass_map.proofs.ResizingFacts.{counted}
use Rattle.eclass_map.proofs.class_table.Classes.member_count.Goals as goal

pub overflow_add-count : goal.overflow_add-count
overflow_add-count c =
    let members = members_of c.args.self.now c.args.class in
    let at : slice_get members c.loop-next.count ≡ Some c.in-Some.part = sym c.loop-next.invariant.0 ∙ c.in-Some.is in
    let within = slice_get_within members c.loop-next.count c.in-Some.part at in
    let few = c.first_member-next.ensures.few in
    let short = c.self.invariant.short in
    let same : length c.self.inside.places.list ≡ length c.args.self.now.places = ap (λ (t : Table). length t.places) c.self.view_is in
    omega (arith, within, few, short, same)

pub loop-next-smaller : goal.loop-next-smaller
loop-next-smaller c =
    let members = members_of c.args.self.now c.args.class in
    let at : slice_get members c.loop-next.count ≡ Some c.in-Some.part = sym c.loop-next.invariant.0 ∙ c.in-Some.is in
    let within = slice_get_within members c.loop-next.count c.in-Some.part at in
    omega (arith, within)

pub loop-next-preserved : goal.loop-next-preserved
loop-next-preserved c =
    let members = members_of c.args.self.now c.args.class in
    let at : slice_get members c.loop-next.count ≡ Some c.in-Some.part = sym c.loop-next.invariant.0 ∙ c.in-Some.is in
    let within = slice_get_within members c.loop-next.count c.in-Some.part at in
    let class = c.requires.walked c.in-Some.part c.args.class c.loop-next.count at in
    (c.next_member-next.ensures.answer c.args.class c.loop-next.count class at, omega (arith, within))

pub returns-clause-answer : goal.returns-clause-answer
returns-clause-answer c =
    counted (members_of c.args.self.now c.args.class) c.loop-next.count c.loop-next.next c.loop-next.invariant.0 c.loop-next.invariant.1 c.in_default.not-Some
