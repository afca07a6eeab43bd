-- The fields after a union.
use Rattle.std.proofs.Common.{◌≡◌, ℕ, ◌+◌, ◌-◌, ◌<◌, ◌≤◌, List, [], ◌++◌, zero, suc, length, map, get_or, set, refl, ap, sym, ◌∙◌, inl, inr, arith, subst, length-set, length-append}
use Rattle.std.proofs.lemmas.Option.{slice_get_within}
use Rattle.std.proofs.lemmas.List.{length-map, get_or_past, get_or-set_same, get_or-set_other}
use Rattle.std.proofs.lemmas.Bool.{cases_eq, cases_lt}
use Rattle.class_labels.specs.declared.partition.Row.{Row}
use Rattle.class_labels.specs.declared.spots.Spot.{Spot}
use Rattle.class_labels.specs.Labels.{Labels, spot, moved, united, walk_at, length_at}
use Rattle.class_labels.specs.Table.{In, Distinct, IsTable, IsUnion}
use Rattle.class_labels.specs.Links.{members, last_of, with_parts}
use Rattle.class_labels.specs.Held.{row_walk, labels_of, KnowsLast, no_row, AreFields}
use Rattle.class_labels.proofs.MemberFacts.{length-members, members_same, members_joined, last_of-held, last_of-append}
use Rattle.class_labels.proofs.FieldFacts.{get_or-map_any, walk_of, length_of, size_of, rows_counted, member_fits, member_at, walk_short, members_apart, same_by_get_or}
use Rattle.class_labels.proofs.UnionFacts.{IsTable-united, length-united, union_cases}
use Rattle.class_labels.proofs.UnionFacts.UnionCase.{gone as case_gone, grown as case_grown, other as case_other}
use Rattle.class_labels.proofs.PartFacts.{with_parts-moved, length-with_parts}

-- the row of the class that is kept, and of the one that is given up
abbrev pub grown_row : Row → Row → Row
grown_row stays gone = record { size = stays.size + gone.size; first = stays.first; last = gone.last; len = stays.len }

abbrev pub empty_row : Row → Row
empty_row gone = record { size = 0; first = gone.first; last = gone.last; len = gone.len }

abbrev pub rows_united : ℕ → ℕ → List Row → List Row
rows_united a b rows = set (set rows a (grown_row (get_or rows a no_row) (get_or rows b no_row))) b (empty_row (get_or rows b no_row))

abbrev pub links_united : ℕ → ℕ → List Row → List ℕ → List ℕ
links_united a b rows nexts = set nexts (get_or rows a no_row).last (get_or rows b no_row).first

abbrev pub spots_united : ℕ → ℕ → List Row → List ℕ → List Spot → List Spot
spots_united a b rows nexts spots =
    with_parts a 0 (get_or rows b no_row).len (row_walk nexts (get_or rows b no_row)) spots

-- what a union is given
pub record UniteIn (a b : ℕ) (spots : List Spot) (nexts : List ℕ) (rows : List Row) (room : ℕ) : Type 0 where
  pub fields : AreFields spots nexts rows room
  pub asked : IsUnion a b (labels_of spots nexts rows)
  pub kept_held : 0 < length (walk_at (labels_of spots nexts rows) a)
  pub lost_held : 0 < length (walk_at (labels_of spots nexts rows) b)

-- plain facts of that
pub record UniteKnown (a b : ℕ) (spots : List Spot) (nexts : List ℕ) (rows : List Row) : Type 0 where
  pub kept : a < length rows
  pub lost : b < length rows
  pub kept_size : 0 < (get_or rows a no_row).size
  pub lost_size : 0 < (get_or rows b no_row).size
  pub kept_last : (get_or rows a no_row).last ≡ last_of (row_walk nexts (get_or rows a no_row))
  pub lost_last : (get_or rows b no_row).last ≡ last_of (row_walk nexts (get_or rows b no_row))
  pub last_in : In (get_or rows a no_row).last (walk_at (labels_of spots nexts rows) a)
  pub last_within : (get_or rows a no_row).last < length nexts
  pub apart : (d : ℕ) → (d ≡ a → ⊥) → In (get_or rows a no_row).last (row_walk nexts (get_or rows d no_row)) → ⊥
  pub fits : (x : ℕ) → In x (row_walk nexts (get_or rows b no_row)) → x + (get_or rows b no_row).len ≤ length spots
  pub sum : (get_or rows a no_row).size + (get_or rows b no_row).size ≤ length spots

unite_sum : (a b : ℕ) (t : Labels) → IsUnion a b t → length (walk_at t a) + length (walk_at t b) ≤ length t.spots
unfolding united
unite_sum a b t asked =
    let kept = asked.kept in
    let as_many = length-united a b t in
    let short : length (walk_at (united a b t) a) ≤ length (united a b t).spots = walk_short (united a b t) a (IsTable-united a b t asked) (omega arith) in
    let long : length (united a b t).spots ≡ length t.spots = length-map t.spots (moved b 0 a) in
    elim (union_cases a b t a asked.apart asked.kept asked.lost) [
      | case_gone e walk ↦ absurd (asked.apart e)
      | case_grown e walk ↦ omega (arith, ap length walk, length-append (walk_at t a) (walk_at t b))
      | case_other na nb walk ↦ absurd (na refl)
    ]

pub unite_known : (a b : ℕ) (spots : List Spot) (nexts : List ℕ) (rows : List Row) (room : ℕ) → UniteIn a b spots nexts rows room → UniteKnown a b spots nexts rows
unite_known a b spots nexts rows room h =
    let t = labels_of spots nexts rows in
    let table = h.asked.table in
    let many : length t.walks ≡ length rows = rows_counted spots nexts rows in
    let kept : a < length rows = let k = h.asked.kept in omega arith in
    let lost : b < length rows = let k = h.asked.lost in omega arith in
    let size_a : length (walk_at t a) ≡ (get_or rows a no_row).size = size_of spots nexts rows a in
    let size_b : length (walk_at t b) ≡ (get_or rows b no_row).size = size_of spots nexts rows b in
    let kept_size : 0 < (get_or rows a no_row).size = let k = h.kept_held in omega arith in
    let lost_size : 0 < (get_or rows b no_row).size = let k = h.lost_held in omega arith in
    let kept_last = h.fields.lasts a kept kept_size in
    let last_in : In (get_or rows a no_row).last (walk_at t a) =
    let P : ℕ → Type 0 = λ v. In v (walk_at t a) in
    subst P (ap last_of (walk_of spots nexts rows a) ∙ sym kept_last) (last_of-held (walk_at t a) h.kept_held) in
    let linked : length nexts ≡ length spots = h.fields.linked in
    record {
      kept = kept;
      lost = lost;
      kept_size = kept_size;
      lost_size = lost_size;
      kept_last = kept_last;
      lost_last = h.fields.lasts b lost lost_size;
      last_in = last_in;
      last_within =
          let below : (get_or rows a no_row).last < length spots = slice_get_within spots (get_or rows a no_row).last (spot a 0) (member_at t a (get_or rows a no_row).last table h.asked.kept last_in) in
          omega arith;
      apart = λ d ne i. elim (cases_lt d (length rows)) [
        | inl below ↦
            let P : List ℕ → Type 0 = λ v. In (get_or rows a no_row).last v in
            members_apart t a d (get_or rows a no_row).last table h.asked.kept (omega arith) (λ e. ne (sym e)) last_in (subst P (sym (walk_of spots nexts rows d)) i)
        | inr most ↦
            let P : Row → Type 0 = λ v. In (get_or rows a no_row).last (row_walk nexts v) in
            let none : get_or rows d no_row ≡ no_row = get_or_past rows d no_row most in
            subst P none i
      ];
      fits = λ x i.
          let P : List ℕ → Type 0 = λ v. In x v in
          let f : x + length_at t b ≤ length spots = member_fits t b x table h.asked.lost (subst P (sym (walk_of spots nexts rows b)) i) in
          omega (arith, length_of spots nexts rows b);
      sum = omega (arith, unite_sum a b t h.asked);
    }

-- what stands in the rows and walks afterwards
pub data RowCase (a b : ℕ) (nexts : List ℕ) (rows : List Row) (d : ℕ) : Type 0 where
  empty : d ≡ b → get_or (rows_united a b rows) d no_row ≡ empty_row (get_or rows b no_row) → RowCase a b nexts rows d
  grown : d ≡ a → get_or (rows_united a b rows) d no_row ≡ grown_row (get_or rows a no_row) (get_or rows b no_row) → RowCase a b nexts rows d
  other : (d ≡ a → ⊥) → (d ≡ b → ⊥) → get_or (rows_united a b rows) d no_row ≡ get_or rows d no_row → RowCase a b nexts rows d

pub row_cases : (a b : ℕ) (nexts : List ℕ) (rows : List Row) (d : ℕ) → (a ≡ b → ⊥) → a < length rows → b < length rows → RowCase a b nexts rows d
row_cases a b nexts rows d apart kept lost =
    let bigger = grown_row (get_or rows a no_row) (get_or rows b no_row) in
    let smaller = empty_row (get_or rows b no_row) in
    let once = set rows a bigger in
    let as_long : length once ≡ length rows = length-set rows a bigger in
    elim (cases_eq d b) [
      | inl e ↦ let P : ℕ → Type 0 = λ v. get_or (set once b smaller) v no_row ≡ smaller in empty e (subst P (sym e) (get_or-set_same once b smaller no_row (omega arith)))
      | inr not_b ↦
          let second : get_or (set once b smaller) d no_row ≡ get_or once d no_row = get_or-set_other once b d smaller no_row not_b in
          elim (cases_eq d a) [
            | inl e ↦ let P : ℕ → Type 0 = λ v. get_or once v no_row ≡ bigger in grown e (second ∙ subst P (sym e) (get_or-set_same rows a bigger no_row kept))
            | inr not_a ↦ other not_a not_b (second ∙ get_or-set_other rows a d bigger no_row not_a)
          ]
    ]

walk_joined : (m n : ℕ) (nexts : List ℕ) (x first last : ℕ) → 0 < m → Distinct (members m nexts x) → last ≡ last_of (members m nexts x)
    → last < length nexts → (In last (members n nexts first) → ⊥)
    → members (m + n) (set nexts last first) x ≡ members m nexts x ++ members n nexts first
walk_joined zero n nexts x first last some distinct is within apart = absurd (omega arith)
walk_joined (suc m) n nexts x first last some distinct is within apart = members_joined m n nexts x first last distinct is within apart

walk_kept : (a b : ℕ) (spots : List Spot) (nexts : List ℕ) (rows : List Row) (room : ℕ) → UniteIn a b spots nexts rows room
    → row_walk (links_united a b rows nexts) (grown_row (get_or rows a no_row) (get_or rows b no_row)) ≡ row_walk nexts (get_or rows a no_row) ++ row_walk nexts (get_or rows b no_row)
walk_kept a b spots nexts rows room h =
    let k = unite_known a b spots nexts rows room h in
    let stays = get_or rows a no_row in
    let gone = get_or rows b no_row in
    let P : List ℕ → Type 0 = λ v. Distinct v in
    walk_joined stays.size gone.size nexts stays.first gone.first stays.last k.kept_size (subst P (walk_of spots nexts rows a) (h.asked.table.once a h.asked.kept)) k.kept_last k.last_within (k.apart b (λ e. h.asked.apart (sym e)))

walk_stays : (a b : ℕ) (spots : List Spot) (nexts : List ℕ) (rows : List Row) (room d : ℕ) → UniteIn a b spots nexts rows room → (d ≡ a → ⊥)
    → row_walk (links_united a b rows nexts) (get_or rows d no_row) ≡ row_walk nexts (get_or rows d no_row)
walk_stays a b spots nexts rows room d h not_a =
    let k = unite_known a b spots nexts rows room h in
    let stays = get_or rows a no_row in
    let gone = get_or rows b no_row in
    let row = get_or rows d no_row in
    members_same row.size nexts (links_united a b rows nexts) row.first (λ y i.
    get_or-set_other nexts stays.last y gone.first 0 (λ e. let P : ℕ → Type 0 = λ v. In v (row_walk nexts row) in k.apart d not_a (subst P e i)))

pub unite_labels : (a b : ℕ) (spots : List Spot) (nexts : List ℕ) (rows : List Row) (room : ℕ) → UniteIn a b spots nexts rows room
    → labels_of (spots_united a b rows nexts spots) (links_united a b rows nexts) (rows_united a b rows) ≡ united a b (labels_of spots nexts rows)
unfolding united
unite_labels a b spots nexts rows room h =
    let t = labels_of spots nexts rows in
    let k = unite_known a b spots nexts rows room h in
    let links = links_united a b rows nexts in
    let new_rows = rows_united a b rows in
    let gone = get_or rows b no_row in
    let class = h.asked.table.classes b h.asked.lost in
    let new_spots : spots_united a b rows nexts spots ≡ map (moved b 0 a) spots =
    let P : ℕ → Type 0 = λ v. with_parts a 0 v (row_walk nexts gone) spots ≡ map (moved b 0 a) spots in
    let Q : List ℕ → Type 0 = λ v. with_parts a 0 (length_at t b - 0) v spots ≡ map (moved b 0 a) spots in
    let none : length_at t b - 0 ≡ gone.len = omega (arith, length_of spots nexts rows b) in
    subst P none (subst Q (walk_of spots nexts rows b) (with_parts-moved b 0 a (length_at t b) (walk_at t b) spots class (h.asked.table.some b h.asked.lost) (λ x i. member_fits t b x h.asked.table h.asked.lost i))) in
    let many : length new_rows ≡ length rows =
    length-set (set rows a (grown_row (get_or rows a no_row) gone)) b (empty_row gone) ∙ length-set rows a (grown_row (get_or rows a no_row) gone) in
    let new_walks : map (row_walk links) new_rows ≡ (united a b t).walks = same_by_get_or [] (map (row_walk links) new_rows) (united a b t).walks
    (length-map new_rows (row_walk links) ∙ many ∙ sym (rows_counted spots nexts rows) ∙ sym (length-united a b t))
    (λ d.
    let there : get_or (map (row_walk links) new_rows) d [] ≡ row_walk links (get_or new_rows d no_row) = get_or-map_any (row_walk links) new_rows d no_row in
    let case = union_cases a b t d h.asked.apart h.asked.kept h.asked.lost in
    there ∙ (elim (row_cases a b nexts rows d h.asked.apart k.kept k.lost) [
      | empty e row ↦ ap (row_walk links) row ∙ (elim case [
        | case_gone _ walk ↦ sym walk
        | case_grown f walk ↦ absurd (h.asked.apart (sym f ∙ e))
        | case_other not_a not_b walk ↦ absurd (not_b e)
      ])
      | grown e row ↦ ap (row_walk links) row ∙ walk_kept a b spots nexts rows room h ∙ (elim case [
        | case_gone f walk ↦ absurd (h.asked.apart (sym e ∙ f))
        | case_grown _ walk ↦ ap (λ v. v ++ row_walk nexts gone) (sym (walk_of spots nexts rows a)) ∙ ap (λ v. walk_at t a ++ v) (sym (walk_of spots nexts rows b)) ∙ sym walk
        | case_other not_a not_b walk ↦ absurd (not_a e)
      ])
      | other not_a not_b row ↦ ap (row_walk links) row ∙ walk_stays a b spots nexts rows room d h not_a ∙ sym (walk_of spots nexts rows d) ∙ (elim case [
        | case_gone f walk ↦ absurd (not_b f)
        | case_grown f walk ↦ absurd (not_a f)
        | case_other _ _ walk ↦ sym walk
      ])
    ])) in
    let new_lengths : map (λ (r : Row). r.len) new_rows ≡ map (λ (r : Row). r.len) rows = same_by_get_or 0 (map (λ (r : Row). r.len) new_rows) (map (λ (r : Row). r.len) rows)
    (length-map new_rows (λ (r : Row). r.len) ∙ many ∙ sym (length-map rows (λ (r : Row). r.len)))
    (λ d. get_or-map_any (λ (r : Row). r.len) new_rows d no_row ∙ (elim (row_cases a b nexts rows d h.asked.apart k.kept k.lost) [
      | empty e row ↦ ap (λ (r : Row). r.len) row ∙ ap (λ v. (get_or rows v no_row).len) (sym e)
      | grown e row ↦ ap (λ (r : Row). r.len) row ∙ ap (λ v. (get_or rows v no_row).len) (sym e)
      | other not_a not_b row ↦ ap (λ (r : Row). r.len) row
    ]) ∙ sym (get_or-map_any (λ (r : Row). r.len) rows d no_row)) in
    λ i. record { spots = new_spots i; walks = new_walks i; lengths = new_lengths i }

pub unite_fields : (a b : ℕ) (spots : List Spot) (nexts : List ℕ) (rows : List Row) (room : ℕ) → UniteIn a b spots nexts rows room
    → AreFields (spots_united a b rows nexts spots) (links_united a b rows nexts) (rows_united a b rows) room
unite_fields a b spots nexts rows room h =
    let k = unite_known a b spots nexts rows room h in
    let links = links_united a b rows nexts in
    let gone = get_or rows b no_row in
    let P : Labels → Type 0 = λ v. IsTable v in
    let long : length (spots_united a b rows nexts spots) ≡ length spots = length-with_parts a 0 gone.len (row_walk nexts gone) spots in
    let as_linked : length links ≡ length nexts = length-set nexts (get_or rows a no_row).last gone.first in
    let many : length (rows_united a b rows) ≡ length rows =
    length-set (set rows a (grown_row (get_or rows a no_row) gone)) b (empty_row gone) ∙ length-set rows a (grown_row (get_or rows a no_row) gone) in
    let linked = h.fields.linked in
    let short = h.fields.short in
    let roomy = h.fields.roomy in
    record {
      table = subst P (sym (unite_labels a b spots nexts rows room h)) (IsTable-united a b (labels_of spots nexts rows) h.asked);
      linked = omega arith;
      lasts = λ d below. let Q : Row → Type 0 = λ v. KnowsLast links v in elim (row_cases a b nexts rows d h.asked.apart k.kept k.lost) [
        | empty e row ↦ subst Q (sym row) (λ some. absurd (omega arith))
        | grown e row ↦ subst Q (sym row) (λ some.
            k.lost_last ∙ sym (last_of-append (row_walk nexts (get_or rows a no_row)) (row_walk nexts gone) (let s : length (row_walk nexts gone) ≡ gone.size = length-members gone.size nexts gone.first in let t = k.lost_size in omega arith))
            ∙ ap last_of (sym (walk_kept a b spots nexts rows room h)))
        | other not_a not_b row ↦ subst Q (sym row) (λ some. h.fields.lasts d (omega arith) some ∙ ap last_of (sym (walk_stays a b spots nexts rows room d h not_a)))
      ];
      short = omega arith;
      roomy = omega arith;
    }
