-- A table with one part more.
use Rattle.std.proofs.Common.{◌≡◌, ℕ, ◌+◌, ◌-◌, ◌<◌, ◌≤◌, ◌^◌, List, [], ◌∷◌, ◌++◌, zero, suc, length, map, get_or, replicate, refl, ap, sym, ◌∙◌, inl, inr, arith, subst, length-append, Some}
use Rattle.std.specs.Prelude.{slice_get}
use Rattle.std.proofs.lemmas.Option.{same_Some, slice_get_within}
use Rattle.std.proofs.lemmas.Bool.{cases_eq, cases_lt}
use Rattle.std.proofs.lemmas.List.{length-replicate, get_or_append_left, map-append}
use Rattle.cs_base.proofs.ListLemmas.{get-front as slice_get-append_left}
use Rattle.class_labels.specs.declared.partition.Row.{Row}
use Rattle.class_labels.specs.declared.spots.Spot.{Spot}
use Rattle.class_labels.specs.Labels.{Labels, spot, fresh_part, added, walk_at, length_at}
use Rattle.class_labels.specs.Table.{In, Distinct, IsClass, IsTable, inner}
use Rattle.class_labels.specs.Links.{last_of}
use Rattle.class_labels.specs.Held.{row_walk, labels_of, KnowsLast, no_row, AreFields}
use Rattle.class_labels.proofs.ListFacts.{get_or-append_last}
use Rattle.class_labels.proofs.MemberFacts.{members_same}
use Rattle.class_labels.proofs.FieldFacts.{walk_of, rows_counted, member_at}
use Rattle.class_labels.proofs.CutFacts.{class_as}

pub fresh_part_none : (c : ℕ) → fresh_part c 0 ≡ []
unfolding fresh_part
fresh_part_none c = refl

pub fresh_part_more : (c n : ℕ) → fresh_part c (n + 1) ≡ fresh_part c n ++ spot c n ∷ []
unfolding fresh_part
fresh_part_more c n = let e : n + 1 ≡ suc n = omega arith in ap (λ v. fresh_part c v) e

pub length-fresh_part : (c n : ℕ) → length (fresh_part c n) ≡ n
unfolding fresh_part
length-fresh_part c zero = refl
length-fresh_part c (suc n) =
    let a : length (fresh_part c n ++ spot c n ∷ []) ≡ length (fresh_part c n) + 1 = length-append (fresh_part c n) (spot c n ∷ []) in
    omega (arith, length-fresh_part c n)

pub slice_get-append_right : {X : Type 0} (xs ys : List X) (k j : ℕ) → k ≡ length xs + j → slice_get (xs ++ ys) k ≡ slice_get ys j
slice_get-append_right [] ys k j e = ap (λ v. slice_get ys v) (let f : k ≡ j = omega arith in f)
slice_get-append_right (x ∷ xs) ys zero j e = absurd (omega arith)
slice_get-append_right (x ∷ xs) ys (suc k) j e = slice_get-append_right xs ys k j (omega arith)

pub fresh_part-at : (c n o : ℕ) → o < n → slice_get (fresh_part c n) o ≡ Some (spot c o)
unfolding fresh_part
fresh_part-at c zero o h = absurd (omega arith)
fresh_part-at c (suc n) o h = elim (cases_eq o n) [
  | inl e ↦
      let P : ℕ → Type 0 = λ v. slice_get (fresh_part c n ++ spot c n ∷ []) o ≡ Some (spot c v) in
      subst P (sym e) (slice_get-append_right (fresh_part c n) (spot c n ∷ []) o 0 (omega (arith, length-fresh_part c n)))
  | inr ne ↦ slice_get-append_left (fresh_part c n) (spot c n ∷ []) o (omega (arith, length-fresh_part c n)) ∙ fresh_part-at c n o (omega arith)
]

pub inner-append : (xs ys : List Spot) → inner (xs ++ ys) ≡ inner xs + inner ys
inner-append [] ys = let e : inner ys ≡ 0 + inner ys = omega arith in e
inner-append (s ∷ xs) ys = omega (arith, inner-append xs ys)

inner-fresh_part : (c n : ℕ) → inner (fresh_part c (suc n)) ≡ n
unfolding fresh_part
inner-fresh_part c zero = refl
inner-fresh_part c (suc n) = omega (arith, inner-append (fresh_part c (suc n)) (spot c (suc n) ∷ []), inner-fresh_part c n)

pub inner-fresh : (c n : ℕ) → 0 < n → inner (fresh_part c n) + 1 ≡ n
inner-fresh c zero h = absurd (omega arith)
inner-fresh c (suc n) h = omega (arith, inner-fresh_part c n)

-- a character of the longer list
pub data AddedAt (t : Labels) (n j : ℕ) (s : Spot) : Type 0 where
  old : slice_get t.spots j ≡ Some s → AddedAt t n j s
  new : (o : ℕ) → o < n → length t.spots + o ≡ j → s ≡ spot (length t.walks) o → AddedAt t n j s

pub added_at : (t : Labels) (n j : ℕ) (s : Spot) → slice_get (t.spots ++ fresh_part (length t.walks) n) j ≡ Some s → AddedAt t n j s
added_at t n j s at =
    let part = fresh_part (length t.walks) n in
    elim (cases_lt j (length t.spots)) [
      | inl less ↦ old (sym (slice_get-append_left t.spots part j less) ∙ at)
      | inr most ↦
          let o = j - length t.spots in
          let there : slice_get part o ≡ Some s = sym (slice_get-append_right t.spots part j o (omega arith)) ∙ at in
          let below : o < length part = slice_get_within part o s there in
          let less : o < n = omega (arith, length-fresh_part (length t.walks) n) in
          new o less (omega arith) (same_Some s (spot (length t.walks) o) (sym there ∙ fresh_part-at (length t.walks) n o less))
    ]

pub data AddedCase (n : ℕ) (t : Labels) (d : ℕ) : Type 0 where
  fresh : d ≡ length t.walks → walk_at (added n t) d ≡ length t.spots ∷ [] → length_at (added n t) d ≡ n → AddedCase n t d
  other : d < length t.walks → walk_at (added n t) d ≡ walk_at t d → length_at (added n t) d ≡ length_at t d → AddedCase n t d

pub added_cases : (n : ℕ) (t : Labels) (d : ℕ) → length t.lengths ≡ length t.walks → d < length (added n t).walks → AddedCase n t d
unfolding added
added_cases n t d each below =
    let grown : length (t.walks ++ (length t.spots ∷ []) ∷ []) ≡ length t.walks + 1 = length-append t.walks ((length t.spots ∷ []) ∷ []) in
    elim (cases_eq d (length t.walks)) [
      | inl e ↦ fresh e (get_or-append_last t.walks (length t.spots ∷ []) [] d e) (get_or-append_last t.lengths n 0 d (omega arith))
      | inr ne ↦
          let less : d < length t.walks = omega arith in
          other less (get_or_append_left t.walks ((length t.spots ∷ []) ∷ []) [] d less) (get_or_append_left t.lengths (n ∷ []) 0 d (omega arith))
    ]

class_added : (n : ℕ) (t : Labels) → IsTable t → IsClass (length t.walks) n (length t.spots ∷ []) (t.spots ++ fresh_part (length t.walks) n)
class_added n t table =
    let m = length t.walks in
    let part = fresh_part m n in
    record {
      whole = λ x o i less. elim i [
        | inl f ↦ slice_get-append_right t.spots part (x + o) o (omega arith) ∙ fresh_part-at m n o less
        | inr h ↦ absurd h
      ];
      found = λ j o at. elim (added_at t n j (spot m o) at) [
        | old was ↦ let k : m < m = table.known j (spot m o) was in absurd (omega arith)
        | new p less there is ↦
            let same : o ≡ p = ap (λ (u : Spot). u.offset) is in
            record { start = length t.spots; among = inl refl; there = omega arith; inside = omega arith }
      ];
    }

class_before : (n : ℕ) (t : Labels) → IsTable t → (d : ℕ) → d < length t.walks → IsClass d (length_at t d) (walk_at t d) (t.spots ++ fresh_part (length t.walks) n)
class_before n t table d less =
    let m = length t.walks in
    let part = fresh_part m n in
    let class = table.classes d less in
    record {
      whole = λ x o i inside.
          let at = class.whole x o i inside in
          slice_get-append_left t.spots part (x + o) (slice_get_within t.spots (x + o) (spot d o) at) ∙ at;
      found = λ j o at. elim (added_at t n j (spot d o) at) [
        | old was ↦ class.found j o was
        | new p near there is ↦ let e : d ≡ m = ap (λ (u : Spot). u.class) is in absurd (omega arith)
      ];
    }

pub IsTable-added : (n : ℕ) (t : Labels) → 0 < n → IsTable t → IsTable (added n t)
unfolding added
IsTable-added n t some table =
    let m = length t.walks in
    let part = fresh_part m n in
    let grown : length (t.walks ++ (length t.spots ∷ []) ∷ []) ≡ m + 1 = length-append t.walks ((length t.spots ∷ []) ∷ []) in
    let each = table.each in
    record {
      each = let both : length (t.lengths ++ n ∷ []) ≡ length t.lengths + 1 = length-append t.lengths (n ∷ []) in omega arith;
      some = λ d below. elim (added_cases n t d each below) [
        | fresh e walk len ↦ omega (arith, len)
        | other less walk len ↦ let s = table.some d less in omega (arith, len)
      ];
      known = λ j s at. elim (added_at t n j s at) [
        | old was ↦ let k = table.known j s was in omega arith
        | new o less there is ↦ let e : s.class ≡ m = ap (λ (u : Spot). u.class) is in omega arith
      ];
      once = λ d below. let P : List ℕ → Type 0 = λ v. Distinct v in elim (added_cases n t d each below) [
        | fresh e walk len ↦ subst P (sym walk) (λ i. i, tt)
        | other less walk len ↦ subst P (sym walk) (table.once d less)
      ];
      counted =
          let count = table.counted in
          omega (arith, inner-append t.spots part, inner-fresh m n some, length-append t.spots part, length-fresh_part m n);
      classes = λ d below. elim (added_cases n t d each below) [
        | fresh e walk len ↦ class_as d m _ n _ (length t.spots ∷ []) _ e len walk (class_added n t table)
        | other less walk len ↦ class_as d d _ (length_at t d) _ (walk_at t d) _ refl len walk (class_before n t table d less)
      ];
    }

-- the fields with one part more
abbrev pub row_added : ℕ → ℕ → Row
row_added first n = record { size = 1; first = first; last = first; len = n }

walk_stays : (spots : List Spot) (nexts : List ℕ) (rows : List Row) (room n d : ℕ) → AreFields spots nexts rows room → d < length rows
    → row_walk (nexts ++ replicate n 0) (get_or rows d no_row) ≡ row_walk nexts (get_or rows d no_row)
walk_stays spots nexts rows room n d h below =
    let row = get_or rows d no_row in
    let t = labels_of spots nexts rows in
    let known : d < length t.walks = omega (arith, rows_counted spots nexts rows) in
    members_same row.size nexts (nexts ++ replicate n 0) row.first (λ y i.
    let P : List ℕ → Type 0 = λ v. In y v in
    let at = member_at t d y h.table known (subst P (sym (walk_of spots nexts rows d)) i) in
    let within : y < length spots = slice_get_within spots y (spot d 0) at in
    get_or_append_left nexts (replicate n 0) 0 y (let l = h.linked in omega arith))

map_same : {X Y : Type 0} (f g : X → Y) (xs : List X) (d : X) → ((k : ℕ) → k < length xs → f (get_or xs k d) ≡ g (get_or xs k d)) → map f xs ≡ map g xs
map_same f g [] d h = refl
map_same f g (x ∷ xs) d h = ap (λ v. v ∷ map f xs) (h 0 (omega arith)) ∙ ap (λ v. g x ∷ v) (map_same f g xs d (λ k below. h (suc k) (omega arith)))

pub add_labels : (spots : List Spot) (nexts : List ℕ) (rows : List Row) (room n : ℕ) → AreFields spots nexts rows room
    → labels_of (spots ++ fresh_part (length rows) n) (nexts ++ replicate n 0) (rows ++ row_added (length spots) n ∷ []) ≡ added n (labels_of spots nexts rows)
unfolding added
add_labels spots nexts rows room n h =
    let links = nexts ++ replicate n 0 in
    let row = row_added (length spots) n in
    let new_spots : spots ++ fresh_part (length rows) n ≡ spots ++ fresh_part (length (map (row_walk nexts) rows)) n = ap (λ v. spots ++ fresh_part v n) (sym (rows_counted spots nexts rows)) in
    let new_walks : map (row_walk links) (rows ++ row ∷ []) ≡ map (row_walk nexts) rows ++ (length spots ∷ []) ∷ [] =
    map-append (row_walk links) rows (row ∷ [])
    ∙ ap (λ v. v ++ (length spots ∷ []) ∷ []) (map_same (row_walk links) (row_walk nexts) rows no_row (λ k below. walk_stays spots nexts rows room n k h below)) in
    let new_lengths : map (λ (r : Row). r.len) (rows ++ row ∷ []) ≡ map (λ (r : Row). r.len) rows ++ n ∷ [] = map-append (λ (r : Row). r.len) rows (row ∷ []) in
    λ i. record { spots = new_spots i; walks = new_walks i; lengths = new_lengths i }

pub add_fields : (spots : List Spot) (nexts : List ℕ) (rows : List Row) (room more n : ℕ) → 0 < n → length spots + n < 2 ^ 32 → length spots + n ≤ more → AreFields spots nexts rows room
    → AreFields (spots ++ fresh_part (length rows) n) (nexts ++ replicate n 0) (rows ++ row_added (length spots) n ∷ []) more
add_fields spots nexts rows room more n some short roomy h =
    let links = nexts ++ replicate n 0 in
    let row = row_added (length spots) n in
    let P : Labels → Type 0 = λ v. IsTable v in
    let long : length (spots ++ fresh_part (length rows) n) ≡ length spots + n = omega (arith, length-append spots (fresh_part (length rows) n), length-fresh_part (length rows) n) in
    let linked = h.linked in
    record {
      table = subst P (sym (add_labels spots nexts rows room n h)) (IsTable-added n (labels_of spots nexts rows) some h.table);
      linked = let a : length links ≡ length nexts + length (replicate {A = ℕ} n 0) = length-append nexts (replicate n 0) in let b : length (replicate {A = ℕ} n 0) ≡ n = length-replicate {A = ℕ} n 0 in omega arith;
      lasts = λ d below.
          let Q : Row → Type 0 = λ v. KnowsLast links v in
          let grown : length (rows ++ row ∷ []) ≡ length rows + 1 = length-append rows (row ∷ []) in
          elim (cases_lt d (length rows)) [
            | inl less ↦ subst Q (sym (get_or_append_left rows (row ∷ []) no_row d less)) (λ size. h.lasts d less size ∙ ap last_of (sym (walk_stays spots nexts rows room n d h less)))
            | inr most ↦ subst Q (sym (get_or-append_last rows row no_row d (omega arith))) (λ size. refl)
          ];
      short = omega arith;
      roomy = omega arith;
    }
