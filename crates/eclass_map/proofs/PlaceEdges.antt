-- The new numbers of the characters that begin tokens, and of what is behind the last.
use Rattle.std.proofs.Common.{◌≡◌, ℕ, ◌+◌, ◌*◌, ◌<◌, ◌≤◌, ◌⊎◌, length, ap, ◌∙◌, inl, inr, arith, Some}
use Rattle.std.specs.Prelude.{slice_get}
use Rattle.std.proofs.lemmas.Option.{slice_get_within, slice_get_past}
use Rattle.class_labels.specs.Labels.{spot, walk_at, length_at}
use Rattle.eclass_map.specs.Positions.{Begins}
use Rattle.eclass_map.specs.ClassTable.{Table}
use Rattle.eclass_map.specs.Kept.{IsKept}
use Rattle.class_labels.specs.Regrown.{place}
use Rattle.class_labels.proofs.LookFacts.{look_below}
use Rattle.class_labels.proofs.FieldFacts.{member_at}
use Rattle.eclass_map.proofs.LinkedFacts.{token_within}
use Rattle.class_labels.proofs.TallyFacts.{tally, below}
use Rattle.class_labels.proofs.PlaceCounts.{place_at, place_count, class_walk, to_come}
use Rattle.eclass_map.proofs.MovedPlaces.{AreCharacters}

pub walk_characters : (t : Table) → IsKept t → (c : ℕ) → c < length t.labels.walks → AreCharacters t (walk_at t.labels c)
walk_characters t kept c known w i = slice_get_within t.labels.spots w (spot c 0) (member_at t.labels c w kept.table known i)

-- what begins a token begins a part
pub begins_spot : (t : Table) → IsKept t → (x : ℕ) → Begins t.tokens x → (d : ℕ) × (slice_get t.labels.spots x ≡ Some (spot d 0))
begins_spot t kept x b =
    let r = b.1 in
    let fits = token_within t kept b.0 r b.2 in
    let some = kept.tokens.some b.0 r b.2 in
    let long = kept.long in
    let is = b.3 in
    let s = look_below t.labels.spots x (omega arith) in
    let none = kept.opens x s.0 b s.1 in
    (s.0.class, s.1 ∙ ap Some (λ i. record { class = s.0.class; offset = none i }))

-- the first character of a token, or what is behind the last token
abbrev pub IsEdge : Table → ℕ → Type 0
IsEdge t x = (x ≡ length t.places) ⊎ Begins t.tokens x

pub place_edge : (c m : ℕ) (t : Table) → IsKept t → c < length t.labels.walks → (x : ℕ) → x ≤ length t.labels.spots → IsEdge t x
    → place c m t.labels.spots x + tally (below x) (walk_at t.labels c) * length_at t.labels c ≡ x + tally (below x) (walk_at t.labels c) * m
place_edge c m t kept known x within (inr b) = let s = begins_spot t kept x b in place_at t.labels c m s.0 x kept.table known s.1
place_edge c m t kept known x within (inl e) =
    let long = kept.long in
    let count = place_count c m (length_at t.labels c) (walk_at t.labels c) t.labels.spots (class_walk t.labels c kept.table known) x within in
    let come : to_come c (length_at t.labels c) (slice_get t.labels.spots x) ≡ 0 = ap (to_come c (length_at t.labels c)) (slice_get_past t.labels.spots x (omega arith)) in
    omega arith
