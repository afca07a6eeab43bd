-- What the fields of a partition say of its labels.
use Rattle.std.proofs.Common.{◌≡◌, ℕ, ◌+◌, ◌-◌, ◌<◌, ◌≤◌, List, [], ◌∷◌, zero, suc, length, map, get_or, refl, ap, sym, ◌∙◌, arith, subst, Some}
use Rattle.std.specs.Prelude.{slice_get}
use Rattle.std.proofs.lemmas.Option.{same_Some, slice_get_within}
use Rattle.std.proofs.lemmas.List.{length-map, ext_get_or}
use Rattle.class_labels.specs.declared.partition.Row.{Row}
use Rattle.class_labels.specs.declared.spots.Spot.{Spot}
use Rattle.class_labels.specs.Labels.{Labels, spot, walk_at, length_at}
use Rattle.class_labels.specs.Table.{In, IsTable}
use Rattle.class_labels.specs.Held.{row_walk, labels_of, no_row, AreFields}
use Rattle.class_labels.proofs.MemberFacts.{length-members}
use Rattle.class_labels.proofs.Pigeons.{length-distinct}

-- a default that the map keeps
pub get_or-map_any : {A B : Type 0} (f : A → B) (xs : List A) (i : ℕ) (d : A) → get_or (map f xs) i (f d) ≡ f (get_or xs i d)
get_or-map_any f [] i d = refl
get_or-map_any f (x ∷ xs) zero d = refl
get_or-map_any f (x ∷ xs) (suc i) d = get_or-map_any f xs i d

pub walk_of : (spots : List Spot) (nexts : List ℕ) (rows : List Row) (c : ℕ) → walk_at (labels_of spots nexts rows) c ≡ row_walk nexts (get_or rows c no_row)
walk_of spots nexts rows c = get_or-map_any (row_walk nexts) rows c no_row

pub length_of : (spots : List Spot) (nexts : List ℕ) (rows : List Row) (c : ℕ) → length_at (labels_of spots nexts rows) c ≡ (get_or rows c no_row).len
length_of spots nexts rows c = get_or-map_any (λ (r : Row). r.len) rows c no_row

pub size_of : (spots : List Spot) (nexts : List ℕ) (rows : List Row) (c : ℕ) → length (walk_at (labels_of spots nexts rows) c) ≡ (get_or rows c no_row).size
size_of spots nexts rows c =
    let row = get_or rows c no_row in
    ap length (walk_of spots nexts rows c) ∙ length-members row.size nexts row.first

pub rows_counted : (spots : List Spot) (nexts : List ℕ) (rows : List Row) → length (labels_of spots nexts rows).walks ≡ length rows
rows_counted spots nexts rows = length-map rows (row_walk nexts)

-- a member's part lies within the characters
pub member_fits : (t : Labels) (c x : ℕ) → IsTable t → c < length t.walks → In x (walk_at t c) → x + length_at t c ≤ length t.spots
member_fits t c x table known i =
    let l = length_at t c in
    let some : 1 ≤ l = table.some c known in
    let last = (table.classes c known).whole x (l - 1) i (omega arith) in
    let within : x + (l - 1) < length t.spots = slice_get_within t.spots (x + (l - 1)) (spot c (l - 1)) last in
    omega arith

pub member_at : (t : Labels) (c x : ℕ) → IsTable t → c < length t.walks → In x (walk_at t c) → slice_get t.spots x ≡ Some (spot c 0)
member_at t c x table known i =
    let P : ℕ → Type 0 = λ v. slice_get t.spots v ≡ Some (spot c 0) in
    let e : x + 0 ≡ x = omega arith in
    subst P e ((table.classes c known).whole x 0 i (table.some c known))

-- a walk has at most as many members as there are characters
pub walk_short : (t : Labels) (c : ℕ) → IsTable t → c < length t.walks → length (walk_at t c) ≤ length t.spots
walk_short t c table known = length-distinct (length t.spots) (walk_at t c) (table.once c known) (λ x i. slice_get_within t.spots x (spot c 0) (member_at t c x table known i))

-- members of two classes are different
pub members_apart : (t : Labels) (c d x : ℕ) → IsTable t → c < length t.walks → d < length t.walks → (c ≡ d → ⊥) → In x (walk_at t c) → In x (walk_at t d) → ⊥
members_apart t c d x table known_c known_d apart i j =
    apart (ap (λ (u : Spot). u.class) (same_Some (spot c 0) (spot d 0) (sym (member_at t c x table known_c i) ∙ member_at t d x table known_d j)))

pub same_by_get_or : {X : Type 0} (d : X) (xs ys : List X) → length xs ≡ length ys → ((i : ℕ) → get_or xs i d ≡ get_or ys i d) → xs ≡ ys
same_by_get_or d xs ys long same = ext_get_or d xs ys long (λ i below. same i)

-- the fields told by equal lists
pub fields_as : (s s' : List Spot) (n n' : List ℕ) (r r' : List Row) (room : ℕ) → s ≡ s' → n ≡ n' → r ≡ r' → AreFields s' n' r' room → AreFields s n r room
fields_as s s' n n' r r' room e f g h =
    let P : List Spot → Type 0 = λ v. AreFields v n' r' room in
    let Q : List ℕ → Type 0 = λ v. AreFields s v r' room in
    let R : List Row → Type 0 = λ v. AreFields s n v room in
    subst R (sym g) (subst Q (sym f) (subst P (sym e) h))

pub labels_as : (s s' : List Spot) (n n' : List ℕ) (r r' : List Row) → s ≡ s' → n ≡ n' → r ≡ r' → labels_of s n r ≡ labels_of s' n' r'
labels_as s s' n n' r r' e f g = ap (λ v. labels_of v n r) e ∙ ap (λ v. labels_of s' v r) f ∙ ap (λ v. labels_of s' n' v) g

pub fields_room : (s : List Spot) (n : List ℕ) (r : List Row) (room more : ℕ) → room ≤ more → AreFields s n r room → AreFields s n r more
fields_room s n r room more le h = record {
  table = h.table;
  linked = h.linked;
  lasts = h.lasts;
  short = h.short;
  roomy = let roomy = h.roomy in omega arith;
}
