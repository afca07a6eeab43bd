use Rattle.std.proofs.Common.{◌≡◌, ℕ, ◌<◌, ◌≤◌, [], length, inl, inr, sym, ◌∙◌, ap, arith, subst, Some, None}
use Rattle.std.proofs.lemmas.Bool.{cases_lt}
use Rattle.std.proofs.lemmas.List.{length-map, get_or_past}
use Rattle.eclass_map.specs.Kept.{IsKept}
use Rattle.std.specs.Prelude.{slice_get}
use Rattle.std.proofs.lemmas.Option.{slice_get_within}
use Rattle.cs_base.proofs.ListLemmas.{none_mapped as past_map}
use Rattle.class_labels.specs.Labels.{spot, walk_at}
use Rattle.eclass_map.specs.ClassTable.{Table, part_with, members_of}
use Rattle.class_labels.proofs.ListFacts.{now_at}
use Rattle.class_labels.proofs.FieldFacts.{member_at, walk_short}
use Rattle.class_labels.proofs.NextFacts.{In-slice_get}
use Rattle.eclass_map.proofs.PartLaws.{walk_known}
use Rattle.eclass_map.proofs.class_table.Classes.first_member.Goals as goal

-- a class has no more members than there are characters
few_of : (v t : Table) (c : ℕ) → v ≡ t → IsKept t → length (members_of v c) ≤ length v.places
few_of v t c e kept =
    let size : length (members_of t c) ≡ length (walk_at t.labels c) = length-map (walk_at t.labels c) (part_with t c) in
    let long = kept.long in
    let few : length (walk_at t.labels c) ≤ length t.labels.spots = elim (cases_lt c (length t.labels.walks)) [
      | inl less ↦ walk_short t.labels c kept.table less
      | inr most ↦ let none : length (walk_at t.labels c) ≡ 0 = ap length (get_or_past t.labels.walks c [] most) in omega arith
    ] in
    let P : Table → Type 0 = λ u. length (members_of u c) ≤ length u.places in
    subst P (sym e) (omega arith)

pub member-requires-clause-held : goal.member-requires-clause-held
member-requires-clause-held c =
    let labels = c.self.inside.labels in
    let class = c.args.class in
    let x = c.in-Some.x in
    let at : slice_get (walk_at labels class) 0 ≡ Some x = sym c.in-Some.ensures in
    let start = member_at labels class x c.self.invariant.table (walk_known labels class 0 x at) (In-slice_get (walk_at labels class) 0 x at) in
    let within : x < length labels.spots = slice_get_within labels.spots x (spot class 0) start in
    omega (arith, ap (λ (v : Table). length v.labels.spots) c.self.view_is)

pub returns-in-Some : goal.returns-in-Some
returns-in-Some c =
    let t = c.args.self.now in
    let class = c.args.class in
    let at : slice_get (walk_at t.labels class) 0 ≡ Some c.in-Some.x = ap (λ (v : Table). slice_get (walk_at v.labels class) 0) (sym c.self.view_is) ∙ sym c.in-Some.ensures in
    record { answer = ap Some c.member.ensures ∙ sym (now_at (part_with t class) (walk_at t.labels class) 0 c.in-Some.x at); few = few_of c.args.self.now _ class (sym c.self.view_is) c.self.invariant }

pub returns-in-None : goal.returns-in-None
returns-in-None c =
    let t = c.args.self.now in
    let class = c.args.class in
    let none : slice_get (walk_at t.labels class) 0 ≡ None = ap (λ (v : Table). slice_get (walk_at v.labels class) 0) (sym c.self.view_is) ∙ sym c.in-None.ensures in
    record { answer = sym (past_map (part_with t class) (walk_at t.labels class) 0 none); few = few_of c.args.self.now _ class (sym c.self.view_is) c.self.invariant }
