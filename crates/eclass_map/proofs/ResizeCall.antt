-- What the call that gives a class another length knows on its way.
use Rattle.std.proofs.Common.{◌≡◌, ℕ, ◌*◌, ◌<◌, ◌^◌, List, [], length, get_or, sym, ◌∙◌, ap, inl, inr, arith, subst}
use Rattle.std.proofs.lemmas.Bool.{cases_lt}
use Rattle.std.proofs.lemmas.List.{get_or_past, length-map}
use Rattle.std.proofs.lemmas.Option.{get_or_from_slice_get}
use Rattle.cs_base.specs.declared.positions.Pos.{Pos}
use Rattle.cs_base.specs.declared.positions.Part.{Part}
use Rattle.eclass_map.specs.declared.token_list.Added.{Added}
use Rattle.class_labels.specs.Labels.{Labels, walk_at, length_at}
use Rattle.eclass_map.specs.Positions.{end_of}
use Rattle.eclass_map.specs.ClassTable.{Table, part_with, members_of, IsAdded, HasParts}
use Rattle.eclass_map.specs.Kept.{IsKept}
use Rattle.class_labels.specs.Weight.{weight}
use Rattle.class_labels.specs.Regrown.{place, regrown, ArePlaces}
use Rattle.eclass_map.specs.Settled.{no_text, settled, ArePlaced, Fits}
use Rattle.eclass_map.specs.Resized.{moved_to, count_after, Resizes}
use Rattle.eclass_map.proofs.KeptFacts.{table_of}
use Rattle.eclass_map.proofs.PartLaws.{has_parts}
use Rattle.class_labels.proofs.PlaceCounts.{place_end}
use Rattle.eclass_map.proofs.ResizedTokens.{ResizeIn}
use Rattle.eclass_map.proofs.ResizedOrder.{new_tokens, new_fits}
use Rattle.eclass_map.proofs.ResizedKept.{ResizedIn, new_table, IsKept-resized}
use Rattle.eclass_map.proofs.ResizedLaws.{resizes, weight-regrown, count_is}

-- what the caller says of the value v, where it is the table t
pub record Asked (c m : ℕ) (v t : Table) : Type 0 where
  pub is : v ≡ t
  pub kept : IsKept t
  pub held : 0 < length (members_of v c)
  pub some : 0 < m
  pub short : count_after c m v < 2 ^ 32
  pub within : (token : Part) → IsAdded v token → (moved_to c m v (end_of token)).at < 2 ^ 32

known_of : (c m : ℕ) (v t : Table) → Asked c m v t → c < length t.labels.walks
known_of c m v t a =
    let P : Table → Type 0 = λ u. 0 < length (members_of u c) in
    let held = subst P a.is a.held in
    let size : length (members_of t c) ≡ length (walk_at t.labels c) = length-map (walk_at t.labels c) (part_with t c) in
    elim (cases_lt c (length t.labels.walks)) [
      | inl less ↦ less
      | inr most ↦ let none : length (walk_at t.labels c) ≡ 0 = ap length (get_or_past t.labels.walks c [] most) in absurd (omega arith)
    ]

-- so many characters afterwards
pub all_short : (c m : ℕ) (v t : Table) → Asked c m v t → place c m t.labels.spots (length t.labels.spots) < 2 ^ 32
all_short c m v t a =
    let known = known_of c m v t a in
    let all = place_end t.labels c m a.kept.table known in
    let long = a.kept.long in
    let size : length (members_of t c) ≡ length (walk_at t.labels c) = length-map (walk_at t.labels c) (part_with t c) in
    let old : length (members_of t c) * length_at t.labels c ≡ length (walk_at t.labels c) * length_at t.labels c = ap (λ v. v * length_at t.labels c) size in
    let new : length (members_of t c) * m ≡ length (walk_at t.labels c) * m = ap (λ v. v * m) size in
    let same = ap (λ u. count_after c m u) a.is in
    let short = a.short in
    omega arith

pub given : (c m : ℕ) (numbers : List ℕ) (v t : Table) → Asked c m v t → ArePlaces c m t.labels.spots numbers → ResizeIn c m numbers t
given c m numbers v t a are = record { kept = a.kept; some = a.some; known = known_of c m v t a; numbers_are = are }

pub fits_of : (c m : ℕ) (numbers : List ℕ) (v t : Table) → Asked c m v t → ArePlaces c m t.labels.spots numbers → Fits (new_tokens numbers t)
fits_of c m numbers v t a are =
    let P : Table → Type 0 = λ u. (token : Part) → IsAdded u token → (moved_to c m u (end_of token)).at < 2 ^ 32 in
    new_fits c m numbers t (given c m numbers v t a are) (subst P a.is a.within)

pub settled_as : (numbers others : List ℕ) (t : Table) (tokens : List Added) → others ≡ numbers → tokens ≡ t.tokens → settled others no_text 0 tokens ≡ new_tokens numbers t
settled_as numbers others t tokens e f = ap (λ v. settled v no_text 0 tokens) e ∙ ap (λ v. settled numbers no_text 0 v) f

pub total_of : (c m : ℕ) (numbers : List ℕ) (t : Table) (n : ℕ) → IsKept t → ArePlaces c m t.labels.spots numbers → n ≡ length t.places → get_or numbers n 0 ≡ place c m t.labels.spots (length t.labels.spots)
total_of c m numbers t n kept are e =
    let long = kept.long in
    let f : n ≡ length t.labels.spots = e ∙ long in
    ap (λ v. get_or numbers v 0) f ∙ get_or_from_slice_get numbers (length t.labels.spots) _ 0 (are.each (length t.labels.spots) (omega arith))

-- what the call has made
pub record Made (c m : ℕ) (numbers : List ℕ) (v t : Table) (tokens : List Added) (places : List Pos) (labels : Labels) : Type 0 where
  pub asked : Asked c m v t
  pub numbers_are : ArePlaces c m t.labels.spots numbers
  pub tokens_are : tokens ≡ new_tokens numbers t
  pub long : length places ≡ place c m t.labels.spots (length t.labels.spots)
  pub placed : ArePlaced tokens places
  pub labels_are : labels ≡ regrown c m t.labels

resized_in : (c m : ℕ) (numbers : List ℕ) (v t : Table) (tokens : List Added) (places : List Pos) (labels : Labels) → Made c m numbers v t tokens places labels → ResizedIn c m numbers t places
resized_in c m numbers v t tokens places labels h =
    let P : List Added → Type 0 = λ u. ArePlaced u places in
    record {
      given = given c m numbers v t h.asked h.numbers_are;
      short = all_short c m v t h.asked;
      fits = fits_of c m numbers v t h.asked h.numbers_are;
      long = h.long;
      placed = subst P h.tokens_are h.placed;
    }

table_is : (c m : ℕ) (numbers : List ℕ) (v t : Table) (tokens : List Added) (places : List Pos) (labels : Labels) → Made c m numbers v t tokens places labels → table_of tokens places labels ≡ new_table c m numbers t places
table_is c m numbers v t tokens places labels h = ap (λ u. table_of u places labels) h.tokens_are ∙ ap (λ u. table_of (new_tokens numbers t) places u) h.labels_are

pub kept_made : (c m : ℕ) (numbers : List ℕ) (v t : Table) (tokens : List Added) (places : List Pos) (labels : Labels) → Made c m numbers v t tokens places labels → IsKept (table_of tokens places labels)
kept_made c m numbers v t tokens places labels h =
    let P : Table → Type 0 = λ u. IsKept u in
    subst P (sym (table_is c m numbers v t tokens places labels h)) (IsKept-resized c m numbers t places (resized_in c m numbers v t tokens places labels h))

pub parts_made : (c m : ℕ) (numbers : List ℕ) (v t : Table) (tokens : List Added) (places : List Pos) (labels : Labels) → Made c m numbers v t tokens places labels → HasParts (table_of tokens places labels)
parts_made c m numbers v t tokens places labels h = has_parts (table_of tokens places labels) (kept_made c m numbers v t tokens places labels h)

pub resizes_made : (c m : ℕ) (numbers : List ℕ) (v t : Table) (tokens : List Added) (places : List Pos) (labels : Labels) → Made c m numbers v t tokens places labels → Resizes c m v (table_of tokens places labels)
resizes_made c m numbers v t tokens places labels h =
    let P : Table → Type 0 = λ u. Resizes c m t u in
    let Q : Table → Type 0 = λ u. Resizes c m u (table_of tokens places labels) in
    subst Q (sym h.asked.is) (subst P (sym (table_is c m numbers v t tokens places labels h)) (resizes c m numbers t places (resized_in c m numbers v t tokens places labels h)))

pub count_made : (c m : ℕ) (numbers : List ℕ) (v t : Table) (tokens : List Added) (places : List Pos) (labels : Labels) → Made c m numbers v t tokens places labels → length places ≡ count_after c m v
count_made c m numbers v t tokens places labels h =
    let same = ap (λ u. count_after c m u) h.asked.is in
    h.long ∙ sym (count_is c m numbers t (given c m numbers v t h.asked h.numbers_are)) ∙ sym same

pub weight_made : (c m : ℕ) (numbers : List ℕ) (v t : Table) (tokens : List Added) (places : List Pos) (labels : Labels) → Made c m numbers v t tokens places labels → weight labels ≡ weight v.labels
weight_made c m numbers v t tokens places labels h = ap weight h.labels_are ∙ weight-regrown c m t.labels ∙ ap (λ (u : Table). weight u.labels) (sym h.asked.is)
