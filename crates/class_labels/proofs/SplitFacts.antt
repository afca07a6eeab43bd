-- The fields after a cut.
use Rattle.std.proofs.Common.{◌≡◌, ℕ, ◌+◌, ◌-◌, ◌<◌, ◌≤◌, List, [], ◌∷◌, ◌++◌, zero, suc, length, map, get_or, set, refl, ap, sym, ◌∙◌, inl, inr, arith, subst, length-set, length-append, Some}
use Rattle.std.specs.Prelude.{slice_get}
use Rattle.std.proofs.lemmas.Option.{same_Some}
use Rattle.std.proofs.lemmas.List.{length-map, ext_get_or, get_or_past, get_or_append_left, get_or-set_same, get_or-set_other, map-append, map-set}
use Rattle.std.proofs.lemmas.Bool.{cases_eq, cases_lt}
use Rattle.class_labels.specs.declared.partition.Row.{Row}
use Rattle.class_labels.specs.declared.spots.Spot.{Spot}
use Rattle.class_labels.specs.Labels.{Labels, spot, moved, cut, walk_at, length_at}
use Rattle.class_labels.specs.Table.{In, Distinct, IsTable, IsCut}
use Rattle.class_labels.specs.Links.{members, last_of, with_parts, with_links}
use Rattle.class_labels.specs.Held.{row_walk, labels_of, KnowsLast, no_row, AreFields}
use Rattle.class_labels.proofs.ListFacts.{get_or-append_last}
use Rattle.class_labels.proofs.MemberFacts.{length-members, members_same, members_shifted, length-with_links, with_links_other, last_of-held, last_of-map}
use Rattle.class_labels.proofs.FieldFacts.{get_or-map_any, walk_of, length_of, rows_counted, member_fits, member_at}
use Rattle.class_labels.proofs.CutFacts.{IsTable-cut}
use Rattle.class_labels.proofs.PartFacts.{with_parts-moved, length-with_parts}

-- the row of the first halves, and that of the second halves
abbrev pub first_row : ℕ → Row → Row
first_row k row = record { size = row.size; first = row.first; last = row.last; len = k }

abbrev pub second_row : ℕ → Row → Row
second_row k row = record { size = row.size; first = row.first + k; last = row.last + k; len = row.len - k }

abbrev pub rows_cut : ℕ → ℕ → List Row → List Row
rows_cut c k rows = set rows c (first_row k (get_or rows c no_row)) ++ second_row k (get_or rows c no_row) ∷ []

abbrev pub links_cut : ℕ → ℕ → List Row → List ℕ → List ℕ
links_cut c k rows nexts = with_links k (row_walk nexts (get_or rows c no_row)) nexts

abbrev pub spots_cut : ℕ → ℕ → List Row → List ℕ → List Spot → List Spot
spots_cut c k rows nexts spots =
    with_parts (length rows) k ((get_or rows c no_row).len - k) (row_walk nexts (get_or rows c no_row)) spots

-- what a cut is given
pub record SplitIn (c k : ℕ) (spots : List Spot) (nexts : List ℕ) (rows : List Row) (room : ℕ) : Type 0 where
  pub fields : AreFields spots nexts rows room
  pub asked : IsCut c k (labels_of spots nexts rows)

-- plain facts of that
pub record SplitKnown (c k : ℕ) (spots : List Spot) (nexts : List ℕ) (rows : List Row) : Type 0 where
  pub within : c < length rows
  pub size : 0 < (get_or rows c no_row).size
  pub less : k < (get_or rows c no_row).len
  pub last : (get_or rows c no_row).last ≡ last_of (row_walk nexts (get_or rows c no_row))
  pub last_in : In (get_or rows c no_row).last (row_walk nexts (get_or rows c no_row))
  pub first_in : In (get_or rows c no_row).first (row_walk nexts (get_or rows c no_row))
  pub fits : (x : ℕ) → In x (row_walk nexts (get_or rows c no_row)) → x + (get_or rows c no_row).len ≤ length spots
  -- no member of any class is the first of a second half
  pub clear : (d x y : ℕ) → In x (row_walk nexts (get_or rows c no_row)) → In y (row_walk nexts (get_or rows d no_row)) → y ≡ x + k → ⊥
  pub distinct : Distinct (row_walk nexts (get_or rows c no_row))
  pub room : length rows < length spots

split_room : (c k : ℕ) (t : Labels) (n : ℕ) → length (cut c k t).walks ≤ length (cut c k t).spots → length t.walks ≡ n → n < length t.spots
unfolding cut
split_room c k t n more many =
    let grown : length (t.walks ++ map (λ x. x + k) (walk_at t c) ∷ []) ≡ length t.walks + 1 = length-append t.walks (map (λ x. x + k) (walk_at t c) ∷ []) in
    let long : length (map (moved c k (length t.walks)) t.spots) ≡ length t.spots = length-map t.spots (moved c k (length t.walks)) in
    omega arith

first_of : (n : ℕ) (nexts : List ℕ) (x : ℕ) → 0 < n → In x (members n nexts x)
first_of zero nexts x h = absurd (omega arith)
first_of (suc n) nexts x h = inl refl

pub split_known : (c k : ℕ) (spots : List Spot) (nexts : List ℕ) (rows : List Row) (room : ℕ) → SplitIn c k spots nexts rows room → SplitKnown c k spots nexts rows
split_known c k spots nexts rows room h =
    let t = labels_of spots nexts rows in
    let row = get_or rows c no_row in
    let table = h.asked.table in
    let many : length t.walks ≡ length rows = rows_counted spots nexts rows in
    let within : c < length rows = let w = h.asked.within in omega arith in
    let walk : walk_at t c ≡ row_walk nexts row = walk_of spots nexts rows c in
    let len : length_at t c ≡ row.len = length_of spots nexts rows c in
    let sized : length (row_walk nexts row) ≡ row.size = length-members row.size nexts row.first in
    let held : 0 < length (walk_at t c) = h.asked.held in
    let size : 0 < row.size = omega (arith, ap length walk) in
    let last = h.fields.lasts c within size in
    let back : (x : ℕ) → In x (row_walk nexts row) → In x (walk_at t c) = λ x i. let P : List ℕ → Type 0 = λ v. In x v in subst P (sym walk) i in
    let class = table.classes c h.asked.within in
    record {
      within = within;
      size = size;
      less = let l = h.asked.less in omega arith;
      last = last;
      last_in = let P : ℕ → Type 0 = λ v. In v (row_walk nexts row) in subst P (sym last) (last_of-held (row_walk nexts row) (omega arith));
      first_in = first_of row.size nexts row.first size;
      fits = λ x i. let f : x + length_at t c ≤ length spots = member_fits t c x table h.asked.within (back x i) in omega arith;
      clear = λ d x y i j e. elim (cases_lt d (length rows)) [
        | inl below ↦
            let P : List ℕ → Type 0 = λ v. In y v in
            let start : slice_get spots y ≡ Some (spot d 0) = member_at t d y table (omega arith) (subst P (sym (walk_of spots nexts rows d)) j) in
            let inner : slice_get spots (x + k) ≡ Some (spot c k) = class.whole x k (back x i) h.asked.less in
            let Q : ℕ → Type 0 = λ v. slice_get spots v ≡ Some (spot d 0) in
            let same : spot d 0 ≡ spot c k = same_Some (spot d 0) (spot c k) (sym (subst Q e start) ∙ inner) in
            let none : 0 ≡ k = ap (λ (u : Spot). u.offset) same in
            let some = h.asked.some in
            omega arith
        | inr most ↦
            let P : Row → Type 0 = λ v. In y (row_walk nexts v) in
            subst P (get_or_past rows d no_row most) j
      ];
      distinct = let P : List ℕ → Type 0 = λ v. Distinct v in subst P walk (table.once c h.asked.within);
      room =
          let more : length (cut c k t).walks ≤ length (cut c k t).spots = let count = (IsTable-cut c k t h.asked).counted in omega arith in
          split_room c k t (length rows) more many;
    }

-- what stands in the rows afterwards
pub data RowCase (c k : ℕ) (rows : List Row) (d : ℕ) : Type 0 where
  fresh : d ≡ length rows → get_or (rows_cut c k rows) d no_row ≡ second_row k (get_or rows c no_row) → RowCase c k rows d
  first : d ≡ c → d < length rows → get_or (rows_cut c k rows) d no_row ≡ first_row k (get_or rows c no_row) → RowCase c k rows d
  other : d < length rows → get_or (rows_cut c k rows) d no_row ≡ get_or rows d no_row → RowCase c k rows d

pub length-rows_cut : (c k : ℕ) (rows : List Row) → length (rows_cut c k rows) ≡ length rows + 1
length-rows_cut c k rows =
    let row = get_or rows c no_row in
    let a : length (set rows c (first_row k row) ++ second_row k row ∷ []) ≡ length (set rows c (first_row k row)) + 1 = length-append (set rows c (first_row k row)) (second_row k row ∷ []) in
    let b : length (set rows c (first_row k row)) ≡ length rows = length-set rows c (first_row k row) in
    omega arith

pub row_cases : (c k : ℕ) (rows : List Row) (d : ℕ) → c < length rows → d < length rows + 1 → RowCase c k rows d
row_cases c k rows d within below =
    let row = get_or rows c no_row in
    let once = set rows c (first_row k row) in
    let as_long : length once ≡ length rows = length-set rows c (first_row k row) in
    elim (cases_eq d (length rows)) [
      | inl e ↦ fresh e (get_or-append_last once (second_row k row) no_row d (omega arith))
      | inr ne ↦
          let old : d < length rows = omega arith in
          let left : get_or (rows_cut c k rows) d no_row ≡ get_or once d no_row = get_or_append_left once (second_row k row ∷ []) no_row d (omega arith) in
          elim (cases_eq d c) [
            | inl e ↦ let P : ℕ → Type 0 = λ v. get_or once v no_row ≡ first_row k row in first e old (left ∙ subst P (sym e) (get_or-set_same rows c (first_row k row) no_row within))
            | inr apart ↦ other old (left ∙ get_or-set_other rows c d (first_row k row) no_row apart)
          ]
    ]

walk_stays : (c k : ℕ) (spots : List Spot) (nexts : List ℕ) (rows : List Row) (d : ℕ) → SplitKnown c k spots nexts rows
    → row_walk (links_cut c k rows nexts) (get_or rows d no_row) ≡ row_walk nexts (get_or rows d no_row)
walk_stays c k spots nexts rows d known =
    let row = get_or rows d no_row in
    members_same row.size nexts (links_cut c k rows nexts) row.first (λ y i. with_links_other k (row_walk nexts (get_or rows c no_row)) nexts y (λ x j e. known.clear d x y j i e))

walk_second : (c k : ℕ) (spots : List Spot) (nexts : List ℕ) (rows : List Row) → length nexts ≡ length spots → SplitKnown c k spots nexts rows
    → row_walk (links_cut c k rows nexts) (second_row k (get_or rows c no_row)) ≡ map (λ x. x + k) (row_walk nexts (get_or rows c no_row))
walk_second c k spots nexts rows linked known =
    let row = get_or rows c no_row in
    members_shifted k row.size nexts nexts row.first known.distinct (λ y i. let f = known.fits y i in let l = known.less in omega arith)

pub split_labels : (c k : ℕ) (spots : List Spot) (nexts : List ℕ) (rows : List Row) (room : ℕ) → SplitIn c k spots nexts rows room
    → labels_of (spots_cut c k rows nexts spots) (links_cut c k rows nexts) (rows_cut c k rows) ≡ cut c k (labels_of spots nexts rows)
unfolding cut
split_labels c k spots nexts rows room h =
    let t = labels_of spots nexts rows in
    let known = split_known c k spots nexts rows room h in
    let row = get_or rows c no_row in
    let links = links_cut c k rows nexts in
    let new_rows = rows_cut c k rows in
    let n = length t.walks in
    let many : n ≡ length rows = rows_counted spots nexts rows in
    let walk : walk_at t c ≡ row_walk nexts row = walk_of spots nexts rows c in
    let len : length_at t c ≡ row.len = length_of spots nexts rows c in
    let class = h.asked.table.classes c h.asked.within in
    let new_spots : spots_cut c k rows nexts spots ≡ map (moved c k n) spots =
    let moves = with_parts-moved c k n (length_at t c) (walk_at t c) spots class h.asked.less (λ x i. member_fits t c x h.asked.table h.asked.within i) in
    ap (λ v. with_parts v k (row.len - k) (row_walk nexts row) spots) (sym many)
    ∙ ap (λ v. with_parts n k (v - k) (row_walk nexts row) spots) (sym len)
    ∙ ap (λ v. with_parts n k (length_at t c - k) v spots) (sym walk) ∙ moves in
    let long : length new_rows ≡ length rows + 1 = length-rows_cut c k rows in
    let seconds = map (λ x. x + k) (walk_at t c) in
    let walks_long : length (t.walks ++ seconds ∷ []) ≡ n + 1 = length-append t.walks (seconds ∷ []) in
    let new_walks : map (row_walk links) new_rows ≡ t.walks ++ seconds ∷ [] = ext_get_or [] (map (row_walk links) new_rows) (t.walks ++ seconds ∷ [])
    (let m : length (map (row_walk links) new_rows) ≡ length new_rows = length-map new_rows (row_walk links) in omega arith)
    (λ d below.
    let m : length (map (row_walk links) new_rows) ≡ length new_rows = length-map new_rows (row_walk links) in
    get_or-map_any (row_walk links) new_rows d no_row ∙ (elim (row_cases c k rows d known.within (omega arith)) [
      | fresh e is ↦ ap (row_walk links) is ∙ walk_second c k spots nexts rows h.fields.linked known ∙ ap (λ v. map (λ x. x + k) v) (sym walk)
          ∙ sym (get_or-append_last t.walks seconds [] d (omega arith))
      | first e old is ↦ ap (row_walk links) is ∙ walk_stays c k spots nexts rows c known ∙ sym walk ∙ ap (λ v. walk_at t v) (sym e)
          ∙ sym (get_or_append_left t.walks (seconds ∷ []) [] d (omega arith))
      | other old is ↦ ap (row_walk links) is ∙ walk_stays c k spots nexts rows d known ∙ sym (walk_of spots nexts rows d)
          ∙ sym (get_or_append_left t.walks (seconds ∷ []) [] d (omega arith))
    ])) in
    let new_lengths : map (λ (r : Row). r.len) new_rows ≡ set t.lengths c k ++ (length_at t c - k) ∷ [] =
    map-append (λ (r : Row). r.len) (set rows c (first_row k row)) (second_row k row ∷ [])
    ∙ ap (λ v. v ++ (row.len - k) ∷ []) (map-set (λ (r : Row). r.len) rows c (first_row k row))
    ∙ ap (λ v. set t.lengths c k ++ (v - k) ∷ []) (sym len) in
    λ i. record { spots = new_spots i; walks = new_walks i; lengths = new_lengths i }

pub split_fields : (c k : ℕ) (spots : List Spot) (nexts : List ℕ) (rows : List Row) (room : ℕ) → SplitIn c k spots nexts rows room
    → AreFields (spots_cut c k rows nexts spots) (links_cut c k rows nexts) (rows_cut c k rows) room
split_fields c k spots nexts rows room h =
    let known = split_known c k spots nexts rows room h in
    let row = get_or rows c no_row in
    let links = links_cut c k rows nexts in
    let P : Labels → Type 0 = λ v. IsTable v in
    let long : length (spots_cut c k rows nexts spots) ≡ length spots = length-with_parts (length rows) k (row.len - k) (row_walk nexts row) spots in
    let as_linked : length links ≡ length nexts = length-with_links k (row_walk nexts row) nexts in
    let many : length (rows_cut c k rows) ≡ length rows + 1 = length-rows_cut c k rows in
    let linked = h.fields.linked in
    let short = h.fields.short in
    let roomy = h.fields.roomy in
    record {
      table = subst P (sym (split_labels c k spots nexts rows room h)) (IsTable-cut c k (labels_of spots nexts rows) h.asked);
      linked = omega arith;
      lasts = λ d below. let Q : Row → Type 0 = λ v. KnowsLast links v in elim (row_cases c k rows d known.within (omega arith)) [
        | fresh e is ↦ subst Q (sym is) (λ some.
            ap (λ v. v + k) known.last ∙ sym (last_of-map k (row_walk nexts row) (let s : length (row_walk nexts row) ≡ row.size = length-members row.size nexts row.first in omega arith))
            ∙ ap last_of (sym (walk_second c k spots nexts rows linked known)))
        | first e old is ↦ subst Q (sym is) (λ some. known.last ∙ ap last_of (sym (walk_stays c k spots nexts rows c known)))
        | other old is ↦ subst Q (sym is) (λ some. h.fields.lasts d old some ∙ ap last_of (sym (walk_stays c k spots nexts rows d known)))
      ];
      short = omega arith;
      roomy = omega arith;
    }
