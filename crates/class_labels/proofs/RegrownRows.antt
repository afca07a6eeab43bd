-- Links and rows with other numbers tell the walks with other numbers.
use Rattle.std.proofs.Common.{◌≡◌, ℕ, ◌+◌, ◌<◌, ◌≤◌, ◌^◌, List, [], ◌∷◌, ◌++◌, zero, suc, length, map, replicate, get_or, set, refl, ap, sym, ◌∙◌, inl, inr, arith, subst, Some, length-append, length-set}
use Rattle.std.specs.Prelude.{slice_get}
use Rattle.std.specs.List.{flat_map}
use Rattle.std.proofs.lemmas.Option.{none-some, same_Some, slice_get_within, get_or_from_slice_get}
use Rattle.std.proofs.lemmas.List.{length-map, length-replicate, get_or-map, get_or-replicate, get_or_append_left, get_or-set_same, get_or-set_other, ext_get_or}
use Rattle.std.proofs.lemmas.Bool.{cases_eq}
use Rattle.class_labels.specs.declared.partition.Row.{Row}
use Rattle.class_labels.specs.declared.spots.Spot.{Spot}
use Rattle.class_labels.specs.Labels.{Labels, spot}
use Rattle.class_labels.specs.Table.{In, IsTable}
use Rattle.class_labels.specs.Links.{members, last_of}
use Rattle.class_labels.specs.Held.{row_walk, labels_of, no_row, AreFields}
use Rattle.class_labels.specs.Regrown.{piece, share, place, regrown, ArePlaces, regrown_links, moved_row, regrown_rows}
use Rattle.class_labels.proofs.MemberFacts.{length-members}
use Rattle.class_labels.proofs.FieldFacts.{walk_of, rows_counted, member_at, get_or-map_any}
use Rattle.class_labels.proofs.RegrownFacts.{first, gone, itself, piece_cases, length-piece, IsTable-regrown}

-- what an append holds past its first list
get_or_append_past : {X : Type 0} (xs ys : List X) (d : X) (k j : ℕ) → k ≡ length xs + j → get_or (xs ++ ys) k d ≡ get_or ys j d
get_or_append_past [] ys d k j e = ap (λ v. get_or ys v d) (let f : k ≡ j = omega arith in f)
get_or_append_past (x ∷ xs) ys d zero j e = absurd (omega arith)
get_or_append_past (x ∷ xs) ys d (suc k) j e = get_or_append_past xs ys d k j (omega arith)

-- a character that stands for one leads where that one led
pub links_at : (c m : ℕ) (numbers : List ℕ) (spots : List Spot) (nexts : List ℕ) (i : ℕ) (s : Spot) → length nexts ≡ length spots → slice_get spots i ≡ Some s → 0 < share c m s
    → get_or (regrown_links c m numbers spots nexts) (place c m spots i) 0 ≡ get_or numbers (get_or nexts i 0) 0
unfolding place regrown_links
links_at c m numbers [] nexts i s long at some = absurd (none-some s at)
links_at c m numbers (r ∷ spots) [] i s long at some = absurd (omega arith)
links_at c m numbers (r ∷ spots) (x ∷ nexts) zero s long at some =
    let copies = replicate (share c m r) (get_or numbers x 0) in
    let e : share c m r ≡ share c m s = ap (share c m) (same_Some r s at) in
    let many : length copies ≡ share c m r = length-replicate (share c m r) (get_or numbers x 0) in
    get_or_append_left copies (regrown_links c m numbers spots nexts) 0 0 (omega arith) ∙ get_or-replicate (share c m r) 0 (get_or numbers x 0) 0 (omega arith)
links_at c m numbers (r ∷ spots) (x ∷ nexts) (suc i) s long at some =
    let copies = replicate (share c m r) (get_or numbers x 0) in
    let many : length copies ≡ share c m r = length-replicate (share c m r) (get_or numbers x 0) in
    get_or_append_past copies (regrown_links c m numbers spots nexts) 0 (share c m r + place c m spots i) (place c m spots i) (omega arith)
    ∙ links_at c m numbers spots nexts i s (omega arith) at some

pub length-regrown_links : (c m : ℕ) (numbers : List ℕ) (spots : List Spot) (nexts : List ℕ) → length nexts ≡ length spots → length (regrown_links c m numbers spots nexts) ≡ place c m spots (length spots)
unfolding place regrown_links
length-regrown_links c m numbers [] nexts long = refl
length-regrown_links c m numbers (s ∷ spots) [] long = absurd (omega arith)
length-regrown_links c m numbers (s ∷ spots) (x ∷ nexts) long =
    let copies = replicate (share c m s) (get_or numbers x 0) in
    let many : length copies ≡ share c m s = length-replicate (share c m s) (get_or numbers x 0) in
    let both : length (copies ++ regrown_links c m numbers spots nexts) ≡ length copies + length (regrown_links c m numbers spots nexts) = length-append copies (regrown_links c m numbers spots nexts) in
    omega (arith, length-regrown_links c m numbers spots nexts (omega arith))

pub length-regrown : (c m : ℕ) (spots : List Spot) → length (flat_map (piece c m) spots) ≡ place c m spots (length spots)
unfolding place
length-regrown c m [] = refl
length-regrown c m (s ∷ spots) =
    let both : length (piece c m s ++ flat_map (piece c m) spots) ≡ length (piece c m s) + length (flat_map (piece c m) spots) = length-append (piece c m s) (flat_map (piece c m) spots) in
    omega (arith, length-piece c m s, length-regrown c m spots)

-- the first character of a part stands for one or more
pub share_first : (c m d : ℕ) → 0 < m → 0 < share c m (spot d 0)
share_first c m d some = elim (piece_cases c m (spot d 0)) [
  | first e p n ↦ omega arith
  | gone class inner p n ↦ absurd (omega arith)
  | itself other p n ↦ omega arith
]

-- x begins a part
abbrev pub IsFirst : List Spot → ℕ → Type 0
IsFirst spots x = (d : ℕ) × (slice_get spots x ≡ Some (spot d 0))

pub number_of_first : (c m : ℕ) (numbers : List ℕ) (spots : List Spot) (x : ℕ) → ArePlaces c m spots numbers → IsFirst spots x → get_or numbers x 0 ≡ place c m spots x
number_of_first c m numbers spots x are begin =
    let within : x < length spots = slice_get_within spots x (spot begin.0 0) begin.1 in
    get_or_from_slice_get numbers x (place c m spots x) 0 (are.each x (omega arith))

pub members_moved : (c m : ℕ) (numbers : List ℕ) (spots : List Spot) (nexts : List ℕ) (n x : ℕ) → 0 < m → length nexts ≡ length spots → ArePlaces c m spots numbers
    → ((y : ℕ) → In y (members n nexts x) → IsFirst spots y) → members n (regrown_links c m numbers spots nexts) (get_or numbers x 0) ≡ map (place c m spots) (members n nexts x)
members_moved c m numbers spots nexts zero x some long are firsts = refl
members_moved c m numbers spots nexts (suc n) x some long are firsts =
    let links = regrown_links c m numbers spots nexts in
    let begin = firsts x (inl refl) in
    let here = number_of_first c m numbers spots x are begin in
    let next : get_or links (get_or numbers x 0) 0 ≡ get_or numbers (get_or nexts x 0) 0 =
    ap (λ v. get_or links v 0) here ∙ links_at c m numbers spots nexts x (spot begin.0 0) long begin.1 (share_first c m begin.0 some) in
    ap (λ v. v ∷ members n links (get_or links (get_or numbers x 0) 0)) here
    ∙ ap (λ v. place c m spots x ∷ members n links v) next
    ∙ ap (λ v. place c m spots x ∷ v) (members_moved c m numbers spots nexts n (get_or nexts x 0) some long are (λ y i. firsts y (inr i)))

-- what a row becomes
pub record RowAt (numbers : List ℕ) (len : ℕ) (row now : Row) : Type 0 where
  pub size : now.size ≡ row.size
  pub first : now.first ≡ get_or numbers row.first 0
  pub last : now.last ≡ get_or numbers row.last 0
  pub length : now.len ≡ len

length-rows : (c m : ℕ) (numbers : List ℕ) (rows : List Row) → length (regrown_rows c m numbers rows) ≡ length rows
length-rows c m numbers rows = length-set (map (moved_row numbers) rows) c _ ∙ length-map rows (moved_row numbers)

row_at : (c m : ℕ) (numbers : List ℕ) (rows : List Row) (d : ℕ) → c < length rows → d < length rows → RowAt numbers (get_or (set (map (λ (r : Row). r.len) rows) c m) d 0) (get_or rows d no_row) (get_or (regrown_rows c m numbers rows) d no_row)
row_at c m numbers rows d known below =
    let moved = map (moved_row numbers) rows in
    let lens = map (λ (r : Row). r.len) rows in
    let many : length moved ≡ length rows = length-map rows (moved_row numbers) in
    let few : length lens ≡ length rows = length-map rows (λ (r : Row). r.len) in
    let was : get_or moved d no_row ≡ moved_row numbers (get_or rows d no_row) = get_or-map (moved_row numbers) rows d no_row no_row below in
    elim (cases_eq d c) [
      | inl e ↦
          let row = get_or moved c no_row in
          let now : get_or (regrown_rows c m numbers rows) d no_row ≡ record { size = row.size; first = row.first; last = row.last; len = m } =
          ap (λ v. get_or (regrown_rows c m numbers rows) v no_row) e ∙ get_or-set_same moved c _ no_row (omega arith) in
          let there : row ≡ moved_row numbers (get_or rows d no_row) = ap (λ v. get_or moved v no_row) (sym e) ∙ was in
          record {
            size = ap (λ (r : Row). r.size) now ∙ ap (λ (r : Row). r.size) there;
            first = ap (λ (r : Row). r.first) now ∙ ap (λ (r : Row). r.first) there;
            last = ap (λ (r : Row). r.last) now ∙ ap (λ (r : Row). r.last) there;
            length = ap (λ (r : Row). r.len) now ∙ sym (ap (λ v. get_or (set lens c m) v 0) e ∙ get_or-set_same lens c m 0 (omega arith));
          }
      | inr ne ↦
          let now : get_or (regrown_rows c m numbers rows) d no_row ≡ moved_row numbers (get_or rows d no_row) = get_or-set_other moved c d _ no_row ne ∙ was in
          record {
            size = ap (λ (r : Row). r.size) now;
            first = ap (λ (r : Row). r.first) now;
            last = ap (λ (r : Row). r.last) now;
            length = ap (λ (r : Row). r.len) now ∙ sym (get_or-set_other lens c d m 0 ne ∙ get_or-map_any (λ (r : Row). r.len) rows d no_row);
          }
    ]

-- what the rows and links are given
pub record RegrowIn (c m : ℕ) (numbers : List ℕ) (spots : List Spot) (nexts : List ℕ) (rows : List Row) (room : ℕ) : Type 0 where
  pub fields : AreFields spots nexts rows room
  pub some : 0 < m
  pub known : c < length rows
  pub numbers_are : ArePlaces c m spots numbers

firsts_of : (spots : List Spot) (nexts : List ℕ) (rows : List Row) (room d : ℕ) → AreFields spots nexts rows room → d < length rows → (y : ℕ) → In y (row_walk nexts (get_or rows d no_row)) → IsFirst spots y
firsts_of spots nexts rows room d h below y i =
    let t = labels_of spots nexts rows in
    let P : List ℕ → Type 0 = λ v. In y v in
    let many = rows_counted spots nexts rows in
    (d, member_at t d y h.table (omega arith) (subst P (sym (walk_of spots nexts rows d)) i))

walk_moved : (c m : ℕ) (numbers : List ℕ) (spots : List Spot) (nexts : List ℕ) (rows : List Row) (room d : ℕ) → RegrowIn c m numbers spots nexts rows room → d < length rows
    → row_walk (regrown_links c m numbers spots nexts) (get_or (regrown_rows c m numbers rows) d no_row) ≡ map (place c m spots) (row_walk nexts (get_or rows d no_row))
walk_moved c m numbers spots nexts rows room d h below =
    let row = get_or rows d no_row in
    let now = get_or (regrown_rows c m numbers rows) d no_row in
    let links = regrown_links c m numbers spots nexts in
    let at = row_at c m numbers rows d h.known below in
    ap (λ v. members v links now.first) at.size ∙ ap (λ v. members row.size links v) at.first
    ∙ members_moved c m numbers spots nexts row.size row.first h.some h.fields.linked h.numbers_are (firsts_of spots nexts rows room d h.fields below)

pub regrow_labels : (c m : ℕ) (numbers : List ℕ) (spots : List Spot) (nexts : List ℕ) (rows : List Row) (room : ℕ) → RegrowIn c m numbers spots nexts rows room
    → labels_of (flat_map (piece c m) spots) (regrown_links c m numbers spots nexts) (regrown_rows c m numbers rows) ≡ regrown c m (labels_of spots nexts rows)
unfolding regrown
regrow_labels c m numbers spots nexts rows room h =
    let links = regrown_links c m numbers spots nexts in
    let all = regrown_rows c m numbers rows in
    let lens = map (λ (r : Row). r.len) rows in
    let old_walks = map (row_walk nexts) rows in
    let f : List ℕ → List ℕ = λ walk. map (place c m spots) walk in
    let many : length all ≡ length rows = length-rows c m numbers rows in
    let walks_many : length (map (row_walk links) all) ≡ length all = length-map all (row_walk links) in
    let lens_many : length (map (λ (r : Row). r.len) all) ≡ length all = length-map all (λ (r : Row). r.len) in
    let new_walks : map (row_walk links) all ≡ map f old_walks =
    ext_get_or [] (map (row_walk links) all) (map f old_walks)
    (walks_many ∙ many ∙ sym (length-map rows (row_walk nexts)) ∙ sym (length-map old_walks f))
    (λ d below. get_or-map_any (row_walk links) all d no_row ∙ walk_moved c m numbers spots nexts rows room d h (omega arith)
    ∙ ap f (sym (get_or-map_any (row_walk nexts) rows d no_row)) ∙ sym (get_or-map_any f old_walks d [])) in
    let new_lengths : map (λ (r : Row). r.len) all ≡ set lens c m =
    ext_get_or 0 (map (λ (r : Row). r.len) all) (set lens c m)
    (lens_many ∙ many ∙ sym (length-map rows (λ (r : Row). r.len)) ∙ sym (length-set lens c m))
    (λ d below. get_or-map_any (λ (r : Row). r.len) all d no_row ∙ (row_at c m numbers rows d h.known (omega arith)).length) in
    λ i. record { spots = flat_map (piece c m) spots; walks = new_walks i; lengths = new_lengths i }

last_of-map_any : (f : ℕ → ℕ) (xs : List ℕ) → 0 < length xs → last_of (map f xs) ≡ f (last_of xs)
last_of-map_any f [] h = absurd (omega arith)
last_of-map_any f (x ∷ []) h = refl
last_of-map_any f (x ∷ y ∷ ys) h = last_of-map_any f (y ∷ ys) (omega arith)

last_of-in : (xs : List ℕ) → 0 < length xs → In (last_of xs) xs
last_of-in [] h = absurd (omega arith)
last_of-in (x ∷ []) h = inl refl
last_of-in (x ∷ y ∷ ys) h = inr (last_of-in (y ∷ ys) (omega arith))

table_regrown : (c m : ℕ) (spots : List Spot) (nexts : List ℕ) (rows : List Row) (room : ℕ) → 0 < m → c < length rows → AreFields spots nexts rows room → IsTable (regrown c m (labels_of spots nexts rows))
table_regrown c m spots nexts rows room some known h = let many = rows_counted spots nexts rows in IsTable-regrown c m (labels_of spots nexts rows) some (omega arith) h.table

-- there are no more numbers of classes than characters
pub rows_few : (c m : ℕ) (spots : List Spot) (nexts : List ℕ) (rows : List Row) (room : ℕ) → 0 < m → c < length rows → AreFields spots nexts rows room → length rows ≤ place c m spots (length spots)
unfolding regrown
rows_few c m spots nexts rows room some known h =
    let t = table_regrown c m spots nexts rows room some known h in
    let counted = t.counted in
    let old = map (row_walk nexts) rows in
    let many : length old ≡ length rows = length-map rows (row_walk nexts) in
    let moved : length (map (λ walk. map (place c m spots) walk) old) ≡ length old = length-map old (λ walk. map (place c m spots) walk) in
    let long = length-regrown c m spots in
    omega arith

pub regrow_fields : (c m : ℕ) (numbers : List ℕ) (spots : List Spot) (nexts : List ℕ) (rows : List Row) (room more : ℕ) → RegrowIn c m numbers spots nexts rows room
    → place c m spots (length spots) < 2 ^ 32 → place c m spots (length spots) ≤ more
    → AreFields (flat_map (piece c m) spots) (regrown_links c m numbers spots nexts) (regrown_rows c m numbers rows) more
regrow_fields c m numbers spots nexts rows room more h short roomy =
    let links = regrown_links c m numbers spots nexts in
    let P : Labels → Type 0 = λ v. IsTable v in
    let long : length (flat_map (piece c m) spots) ≡ place c m spots (length spots) = length-regrown c m spots in
    let as_long : length links ≡ place c m spots (length spots) = length-regrown_links c m numbers spots nexts h.fields.linked in
    let many : length (regrown_rows c m numbers rows) ≡ length rows = length-rows c m numbers rows in
    record {
      table = subst P (sym (regrow_labels c m numbers spots nexts rows room h)) (table_regrown c m spots nexts rows room h.some h.known h.fields);
      linked = omega arith;
      lasts = λ d below size.
          let within : d < length rows = omega arith in
          let row = get_or rows d no_row in
          let walk = row_walk nexts row in
          let at = row_at c m numbers rows d h.known within in
          let at_size = at.size in
          let some : 0 < row.size = omega arith in
          let held : 0 < length walk = omega (arith, length-members row.size nexts row.first) in
          let last : row.last ≡ last_of walk = h.fields.lasts d within some in
          let begin = firsts_of spots nexts rows room d h.fields within (last_of walk) (last_of-in walk held) in
          at.last ∙ ap (λ v. get_or numbers v 0) last ∙ number_of_first c m numbers spots (last_of walk) h.numbers_are begin
          ∙ sym (last_of-map_any (place c m spots) walk held) ∙ ap last_of (sym (walk_moved c m numbers spots nexts rows room d h within));
      short = omega arith;
      roomy = omega arith;
    }
