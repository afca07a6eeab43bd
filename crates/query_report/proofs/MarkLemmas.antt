-- Marks that are set one after another, and what they say in the end.
use Rattle.std.proofs.Common.{◌≡◌, ℕ, zero, suc, ◌<◌, ◌≤◌, Bool, true, false, ◌||◌, List, [], ◌∷◌, length, get_or, take, refl, sym, ap, ◌∙◌, ⊎_elim, arith}
use Rattle.std.specs.Prelude.{◌==◌, slice_set, Some, slice_get}
use Rattle.std.specs.List.{fold, list_any}
use Rattle.std.proofs.Math.Bool.{or_assoc, or-false, or-true}
use Rattle.std.proofs.lemmas.Bool.{cases_eq, cases_lt, eq-eqb, ne_eqb}
use Rattle.std.proofs.lemmas.List.{length-set, get_or-set_same, get_or-set_other, get_or-replicate, length-replicate}
use Rattle.std.proofs.lemmas.Option.{slice_get_past}
use Rattle.analysis.specs.Below.unit_steps.declared.events.Reached.{Reached}
use Rattle.analysis.specs.Below.source_files.Files.{Table}
use Rattle.analysis.specs.Below.unit_steps.Texts.{UnitTextValue}
use Rattle.analysis.specs.Texts.{TextsValue}
use Rattle.query_report.specs.Skipped.{is_item, reaches, is_reached}
use Rattle.query_report.specs.Marks.{count_at, is_marked, marked, marked_by, AreBlank, AreMarked}

-- a row with one mark more
row-set : (row : List Bool) (i k : ℕ) → k < length row → get_or (slice_set row i true) k false ≡ (get_or row k false || (i == k))
row-set row i k within =
    ⊎_elim
    (λ (e : i ≡ k). rw (e, get_or-set_same row k true false within, eq-eqb k k refl) (sym (or-true (get_or row k false))))
    (λ (ne : i ≡ k → ⊥). rw (get_or-set_other row i k true false (λ q. ne (sym q)), ne_eqb i k ne) (sym (or-false (get_or row k false))))
    (cases_eq i k)

-- the rows with another row of the same length: each row has its length still
rows-set_length : (rows : List (List Bool)) (f file : ℕ) (row : List Bool) → length row ≡ length (get_or rows f [])
    → length (get_or (slice_set rows f row) file []) ≡ length (get_or rows file [])
rows-set_length [] f file row same = refl
rows-set_length (x ∷ rows) zero zero row same = same
rows-set_length (x ∷ rows) zero (suc file) row same = refl
rows-set_length (x ∷ rows) (suc f) zero row same = refl
rows-set_length (x ∷ rows) (suc f) (suc file) row same = rows-set_length rows f file row same

-- two tables of marks for the same items
record AreAlike (rows rows' : List (List Bool)) : Type 0 where
  files : length rows' ≡ length rows
  items : (file : ℕ) → length (get_or rows' file []) ≡ length (get_or rows file [])

alike-itself : (rows : List (List Bool)) → AreAlike rows rows
alike-itself rows = record { files = refl; items = λ file. refl }

alike-then : (a b c : List (List Bool)) → AreAlike a b → AreAlike b c → AreAlike a c
alike-then a b c ab bc = record { files = bc.files ∙ ab.files; items = λ file. bc.items file ∙ ab.items file }

marked-alike : (rows : List (List Bool)) (r : Reached) → AreAlike rows (marked rows r)
marked-alike rows r = record {
  files = length-set rows r.file (slice_set (get_or rows r.file []) r.item true);
  items = λ file. rows-set_length rows r.file file (slice_set (get_or rows r.file []) r.item true) (length-set (get_or rows r.file []) r.item true);
}

-- the marks with one more
marked-at : (rows : List (List Bool)) (r : Reached) (file item : ℕ) → file < length rows → item < length (get_or rows file [])
    → is_marked (marked rows r) file item ≡ (is_marked rows file item || is_item file item r)
marked-at rows r file item within below =
    ⊎_elim
    (λ (e : r.file ≡ file).
    rw (e, get_or-set_same rows file (slice_set (get_or rows file []) r.item true) [] within, eq-eqb file file refl)
    (row-set (get_or rows file []) r.item item below))
    (λ (ne : r.file ≡ file → ⊥).
    rw (get_or-set_other rows r.file file (slice_set (get_or rows r.file []) r.item true) [] (λ q. ne (sym q)), ne_eqb r.file file ne)
    (sym (or-false (is_marked rows file item))))
    (cases_eq r.file file)

unit-alike : (rs : List Reached) (rows : List (List Bool)) → AreAlike rows (fold marked rows rs)
unit-alike [] rows = alike-itself rows
unit-alike (r ∷ rs) rows = alike-then rows (marked rows r) (fold marked (marked rows r) rs) (marked-alike rows r) (unit-alike rs (marked rows r))

-- the marks with those of a unit
unit-at : (rs : List Reached) (rows : List (List Bool)) (file item : ℕ) → file < length rows → item < length (get_or rows file [])
    → is_marked (fold marked rows rs) file item ≡ (is_marked rows file item || list_any (is_item file item) rs)
unit-at [] rows file item within below = sym (or-false (is_marked rows file item))
unit-at (r ∷ rs) rows file item within below =
    let alike = marked-alike rows r in
    let within' : file < length (marked rows r) = rw alike.files within in
    let below' : item < length (get_or (marked rows r) file []) = rw (alike.items file) below in
    unit-at rs (marked rows r) file item within' below'
    ∙ ap (λ (b : Bool). b || list_any (is_item file item) rs) (marked-at rows r file item within below)
    ∙ or_assoc (is_marked rows file item) (is_item file item r) (list_any (is_item file item) rs)

-- the marks with those of units
units-at : (units : List UnitTextValue) (rows : List (List Bool)) (file item : ℕ) → file < length rows → item < length (get_or rows file [])
    → is_marked (fold marked_by rows units) file item ≡ (is_marked rows file item || is_reached units file item)
units-at [] rows file item within below = sym (or-false (is_marked rows file item))
units-at (u ∷ units) rows file item within below =
    let alike = unit-alike u.reached rows in
    let within' : file < length (marked_by rows u) = rw alike.files within in
    let below' : item < length (get_or (marked_by rows u) file []) = rw (alike.items file) below in
    units-at units (marked_by rows u) file item within' below'
    ∙ ap (λ (b : Bool). b || is_reached units file item) (unit-at u.reached rows file item within below)
    ∙ or_assoc (is_marked rows file item) (reaches file item u) (is_reached units file item)

-- a file with items is in the table
count-within : (table : Table) (file item : ℕ) → item < count_at table file → file < length table
count-within table file item below =
    ⊎_elim
    (λ (h : file < length table). h)
    (λ (past : length table ≤ file). absurd (let none : item < 0 = rw (slice_get_past table file past) at below in omega arith))
    (cases_lt file (length table))

-- marks that begin blank are set where items are reached
pub marks-told : (t : TextsValue) (blank rows : List (List Bool)) → length blank ≡ length t.table → AreBlank t.table blank
    → rows ≡ fold marked_by blank t.texts → AreMarked t rows
marks-told t blank rows each none is = λ file item below.
    let within : file < length blank = rw each (count-within t.table file item below) in
    let room : item < length (get_or blank file []) = rw (none file within, length-replicate (count_at t.table file) false) below in
    let unmarked : is_marked blank file item ≡ false = rw (none file within) (get_or-replicate (count_at t.table file) item false false below) in
    rw is (units-at t.texts blank file item within room ∙ ap (λ (b : Bool). b || is_reached t.texts file item) unmarked)

-- the marks with those of one unit more
pub units-more : (units : List UnitTextValue) (rows : List (List Bool)) (k : ℕ) (u : UnitTextValue) → slice_get units k ≡ Some u
    → fold marked_by rows (take (suc k) units) ≡ marked_by (fold marked_by rows (take k units)) u
units-more [] rows k u there = cc
units-more (x ∷ units) rows zero u there = let same : x ≡ u = cc in ap (marked_by rows) same
units-more (x ∷ units) rows (suc k) u there = units-more units (marked_by rows x) k u there
