-- Tokens, parts, characters and weight once each part of one class has another length.
use Rattle.std.proofs.Common.{◌≡◌, ℕ, ◌+◌, ◌-◌, ◌*◌, ◌<◌, cond, eqb, List, [], ◌∷◌, suc, length, map, get_or, set, refl, ap, sym, ◌∙◌, inl, inr, arith, subst, Some}
use Rattle.std.specs.Prelude.{slice_get}
use Rattle.std.specs.List.{sum_by}
use Rattle.std.proofs.lemmas.Option.{same_Some, slice_get_within, get_or_from_slice_get}
use Rattle.std.proofs.lemmas.Bool.{cases_eq, cases_lt, cond-true, cond-false, eq-eqb, ne_eqb}
use Rattle.std.proofs.lemmas.List.{length-map, get_or_past, get_or-set_same, get_or-set_other}
use Rattle.std.proofs.lemmas.List.Sums.{sum_by-cons}
use Rattle.cs_base.specs.declared.positions.Pos.{Pos}
use Rattle.cs_base.specs.declared.positions.Part.{Part}
use Rattle.cs_base.proofs.ListLemmas.{map-map as map_of_map}
use Rattle.eclass_map.specs.declared.token_list.Added.{Added}
use Rattle.class_labels.specs.Labels.{Labels, spot, walk_at, length_at}
use Rattle.class_labels.specs.Table.{In}
use Rattle.eclass_map.specs.Positions.{along, end_of}
use Rattle.eclass_map.specs.ClassTable.{Table, part_with, members_of, added_tokens, nowhere}
use Rattle.class_labels.specs.Weight.{weight, weight_of}
use Rattle.class_labels.specs.Regrown.{place, regrown}
use Rattle.eclass_map.specs.Resized.{moved_to, moved_token, moved_part, count_after, Resizes}
use Rattle.class_labels.proofs.FieldFacts.{member_at}
use Rattle.eclass_map.proofs.LinkedFacts.{token_within}
use Rattle.eclass_map.proofs.TokenFacts.{holding, along_of}
use Rattle.class_labels.proofs.RegrownFacts.{place_next, place_grows, walk-regrown}
use Rattle.class_labels.proofs.RegrownRows.{share_first}
use Rattle.class_labels.proofs.TallyFacts.{tally, below}
use Rattle.class_labels.proofs.PlaceCounts.{place_at, place_end}
use Rattle.eclass_map.proofs.MovedPlaces.{holder}
use Rattle.eclass_map.proofs.ResizedTokens.{ResizeIn, stands, moves, moved_at}
use Rattle.eclass_map.proofs.ResizedOrder.{new_tokens, length-settled, came, end_at, start_at}
use Rattle.eclass_map.proofs.ResizedKept.{ResizedIn, new_table, IsKept-resized}
use Rattle.class_labels.proofs.ListFacts.{now_at}
use Rattle.eclass_map.proofs.PartLaws.{has_parts}

in_maps_same : (f : ℕ → Part) (g : ℕ → ℕ) (h : Part → Part) (k : ℕ → Part) (xs : List ℕ) → ((x : ℕ) → In x xs → f (g x) ≡ h (k x)) → map f (map g xs) ≡ map h (map k xs)
in_maps_same f g h k [] same = refl
in_maps_same f g h k (x ∷ xs) same = ap (λ v. v ∷ map f (map g xs)) (same x (inl refl)) ∙ ap (λ v. h (k x) ∷ v) (in_maps_same f g h k xs (λ y i. same y (inr i)))

mapped_alike : {A B C : Type 0} (f : A → C) (g : B → C) (xs : List A) (ys : List B) → length xs ≡ length ys → ((i : ℕ) (x : A) (y : B) → slice_get xs i ≡ Some x → slice_get ys i ≡ Some y → f x ≡ g y) → map f xs ≡ map g ys
mapped_alike f g [] [] long same = refl
mapped_alike f g [] (y ∷ ys) long same = absurd (omega arith)
mapped_alike f g (x ∷ xs) [] long same = absurd (omega arith)
mapped_alike f g (x ∷ xs) (y ∷ ys) long same = ap (λ v. v ∷ map f xs) (same 0 x y refl refl) ∙ ap (λ v. g y ∷ v) (mapped_alike f g xs ys (omega arith) (λ i u v at at'. same (suc i) u v at at'))

-- a token is where its begin and its end move to
token_moved : (c m : ℕ) (numbers : List ℕ) (t : Table) → ResizeIn c m numbers t → (k : ℕ) (now r : Added) → slice_get (new_tokens numbers t) k ≡ Some now → slice_get t.tokens k ≡ Some r → now.place ≡ moved_token c m t r.place
token_moved c m numbers t h k now r at_now at_r =
    let w = came c m numbers t h k now at_now in
    let start = start_at c m numbers t k now w in
    let end = end_at c m numbers t k now w in
    let len : now.place.len ≡ (moved_to c m t (end_of w.was.place)).at - (moved_to c m t w.was.place.start).at = omega arith in
    let here : now.place ≡ moved_token c m t w.was.place = λ i. record { start = record { file = w.file i; at = sym start i }; len = len i } in
    here ∙ ap (λ (v : Added). moved_token c m t v.place) (same_Some w.was r (sym w.at ∙ at_r))

tokens_moved : (c m : ℕ) (numbers : List ℕ) (t : Table) → ResizeIn c m numbers t → map (λ (r : Added). r.place) (new_tokens numbers t) ≡ map (moved_token c m t) (added_tokens t)
tokens_moved c m numbers t h =
    mapped_alike (λ (r : Added). r.place) (λ (r : Added). moved_token c m t r.place) (new_tokens numbers t) t.tokens (length-settled numbers _ 0 t.tokens) (λ k now r at_now at_r. token_moved c m numbers t h k now r at_now at_r)
    ∙ sym (map_of_map (moved_token c m t) (λ (r : Added). r.place) t.tokens)

-- the position of what begins a part
position_moved : (c m : ℕ) (numbers : List ℕ) (t : Table) (places : List Pos) → ResizedIn c m numbers t places → (d x : ℕ) → slice_get t.labels.spots x ≡ Some (spot d 0)
    → get_or places (place c m t.labels.spots x) nowhere ≡ moved_to c m t (get_or t.places x nowhere)
position_moved c m numbers t places h d x at =
    let spots = t.labels.spots in
    let g = h.given in
    let within : x < length spots = slice_get_within spots x (spot d 0) at in
    let w = holder t g.kept x within in
    let r = w.token in
    let held = holding r.place w.position w.held in
    let near = held.less in
    let is = w.is in
    let o = w.position.at - r.place.start.at in
    let s = stands c m numbers t g w.index r w.at in
    let now = s.now in
    let begin = s.first in
    let len = s.len in
    let fits = token_within t g.kept w.index r w.at in
    let long = g.kept.long in
    let next = place_next c m spots x (spot d 0) at in
    let share = share_first c m d g.some in
    let high = place_grows c m spots (suc x) (r.first + r.place.len) (omega arith) (omega arith) in
    let there = place_at t.labels c m d x g.kept.table g.known at in
    let number : r.first + o ≡ x = is in
    let P : ℕ → Type 0 = λ v. place c m spots v + tally (below v) (walk_at t.labels c) * length_at t.labels c ≡ v + tally (below v) (walk_at t.labels c) * m in
    let landing = moves c m numbers t g w.index r w.at s o (omega arith) (subst P (sym number) there) in
    let place_same : place c m spots (r.first + o) ≡ place c m spots x = ap (place c m spots) number in
    let grows = landing.grows in
    let deep = place c m spots (r.first + o) - place c m spots r.first in
    let new : now.first + deep ≡ place c m spots x = omega arith in
    let here = h.placed w.index now deep s.at (omega arith) in
    let Q : ℕ → Type 0 = λ v. slice_get places v ≡ Some (along now.place.start deep) in
    let target = moved_at c m t (along r.place.start o) (now.place.start.at + deep) landing.moved in
    let old : get_or t.places x nowhere ≡ along r.place.start o = get_or_from_slice_get t.places x w.position nowhere w.there ∙ sym (along_of r.place w.position held) in
    get_or_from_slice_get places (place c m spots x) (along now.place.start deep) nowhere (subst Q new here)
    ∙ (λ i. record { file = s.file i; at = now.place.start.at + deep })
    ∙ sym target ∙ ap (λ v. moved_to c m t v) (sym old)

length_moved : (c m : ℕ) (t : Labels) (d : ℕ) → c < length t.lengths → length_at (regrown c m t) d ≡ cond (eqb d c) m (length_at t d)
unfolding regrown
length_moved c m t d known = elim (cases_eq d c) [
  | inl e ↦ ap (λ v. get_or (set t.lengths c m) v 0) e ∙ get_or-set_same t.lengths c m 0 known ∙ sym (cond-true (eqb d c) m (length_at t d) (eq-eqb d c e))
  | inr ne ↦ get_or-set_other t.lengths c d m 0 ne ∙ sym (cond-false (eqb d c) m (length_at t d) (ne_eqb d c ne))
]

part_moved : (c m : ℕ) (numbers : List ℕ) (t : Table) (places : List Pos) → ResizedIn c m numbers t places → (d x : ℕ) → In x (walk_at t.labels d)
    → part_with (new_table c m numbers t places) d (place c m t.labels.spots x) ≡ moved_part c m t d (part_with t d x)
part_moved c m numbers t places h d x i =
    let g = h.given in
    let known : d < length t.labels.walks = elim (cases_lt d (length t.labels.walks)) [
      | inl less ↦ less
      | inr most ↦ let P : List ℕ → Type 0 = λ v. In x v in absurd (subst P (get_or_past t.labels.walks d [] most) i)
    ] in
    let each = g.kept.table.each in
    let c_known = g.known in
    let start = position_moved c m numbers t places h d x (member_at t.labels d x g.kept.table known i) in
    let len = length_moved c m t.labels d (omega arith) in
    λ j. record { start = start j; len = len j }

members_moved : (c m : ℕ) (numbers : List ℕ) (t : Table) (places : List Pos) → ResizedIn c m numbers t places → (d : ℕ) → members_of (new_table c m numbers t places) d ≡ map (moved_part c m t d) (members_of t d)
members_moved c m numbers t places h d =
    ap (λ v. map (part_with (new_table c m numbers t places) d) v) (walk-regrown c m t.labels d)
    ∙ in_maps_same (part_with (new_table c m numbers t places) d) (place c m t.labels.spots) (moved_part c m t d) (part_with t d) (walk_at t.labels d) (λ x i. part_moved c m numbers t places h d x i)

classes_kept : (c m : ℕ) (t : Labels) → length (regrown c m t).walks ≡ length t.walks
unfolding regrown
classes_kept c m t = length-map t.walks _

pub resizes : (c m : ℕ) (numbers : List ℕ) (t : Table) (places : List Pos) → ResizedIn c m numbers t places → Resizes c m t (new_table c m numbers t places)
resizes c m numbers t places h = record {
  tokens = tokens_moved c m numbers t h.given;
  members = λ d. members_moved c m numbers t places h d;
  parts = λ part d e.
      let old = has_parts t h.given.kept in
      let member = old.member part d e in
      let now : slice_get (members_of (new_table c m numbers t places) d) member.0 ≡ Some (moved_part c m t d part) =
      ap (λ v. slice_get v member.0) (members_moved c m numbers t places h d) ∙ now_at (moved_part c m t d) (members_of t d) member.0 part member.1 in
      (has_parts (new_table c m numbers t places) (IsKept-resized c m numbers t places h)).walked (moved_part c m t d part) d member.0 now;
  classes = classes_kept c m t.labels;
}

weights_same : (f : List ℕ → List ℕ) → ((xs : List ℕ) → length (f xs) ≡ length xs) → (walks : List (List ℕ)) → sum_by (λ (walk : List ℕ). weight_of (length walk)) (map f walks) ≡ sum_by (λ (walk : List ℕ). weight_of (length walk)) walks
weights_same f long [] = refl
weights_same f long (x ∷ xs) =
    sum_by-cons (λ (walk : List ℕ). weight_of (length walk)) (f x) (map f xs)
    ∙ ap (λ v. weight_of v + sum_by (λ (walk : List ℕ). weight_of (length walk)) (map f xs)) (long x)
    ∙ ap (λ v. weight_of (length x) + v) (weights_same f long xs)
    ∙ sym (sum_by-cons (λ (walk : List ℕ). weight_of (length walk)) x xs)

pub weight-regrown : (c m : ℕ) (t : Labels) → weight (regrown c m t) ≡ weight t
unfolding weight regrown
weight-regrown c m t = weights_same (λ walk. map (place c m t.spots) walk) (λ xs. length-map xs (place c m t.spots)) t.walks

-- how many characters there are
pub count_is : (c m : ℕ) (numbers : List ℕ) (t : Table) → ResizeIn c m numbers t → count_after c m t ≡ place c m t.labels.spots (length t.labels.spots)
count_is c m numbers t h =
    let all = place_end t.labels c m h.kept.table h.known in
    let long = h.kept.long in
    let size : length (members_of t c) ≡ length (walk_at t.labels c) = length-map (walk_at t.labels c) (part_with t c) in
    let old : length (members_of t c) * length_at t.labels c ≡ length (walk_at t.labels c) * length_at t.labels c = ap (λ v. v * length_at t.labels c) size in
    let new : length (members_of t c) * m ≡ length (walk_at t.labels c) * m = ap (λ v. v * m) size in
    omega arith
