-- The position at a place is the one that has this place.
use Rattle.std.proofs.Common.{◌≡◌, ℕ, zero, suc, ◌+◌, ◌-◌, ◌*◌, ◌/◌, ◌%◌, ◌^◌, ◌<◌, ◌≤◌, true, false, not, List, [], ◌∷◌, Option, None, Some, is_some, slice_get, unwrap_or, refl, sym, ap, subst, ◌∙◌, inl, inr, arith}
use Rattle.std.specs.List.{list_any}
use Rattle.std.specs.Option.{option_map, option_map_or, option_and_then}
use Rattle.std.specs.Str.{bytes_eq}
use Rattle.std.proofs.lemmas.Bool.{cases_Bool, and_parts, le-leb, false_from_ne_true}
use Rattle.std.proofs.lemmas.Bool.Decides.{nat_tests}
use Rattle.std.proofs.lemmas.Nat.{div-mul-add, mod-mul-add, div-add-mod', div_below, mod_below}
use Rattle.std.proofs.lemmas.Option.{same_Some}
use Rattle.cs_base.specs.declared.positions.Place.{Place}
use Rattle.cs_base.specs.declared.positions.Pos.{Pos}
use Rattle.cs_base.proofs.FileMapLemmas.{bytes_eq-same, bytes_eq-equal}
use Rattle.cs_base.proofs.ListLemmas.{any_at as any_from}
use Rattle.include_tree.specs.Below.line_shape.MacroLine.{are_distinct}
use Rattle.lexer.proofs.InverseLemmas.{characters_placed, places_inverse}
use Rattle.lexer.specs.Lines.{byte_offset_of, line_column_of, offset_of, place_of_byte}
use Rattle.lexer.specs.Places.{pos}
use Rattle.include_tree.specs.Below.source_files.Faults.{place_of}
use Rattle.include_tree.specs.Below.source_files.Files.{Entry, Table, Lines, entry, lines_path}
use Rattle.include_tree.specs.Below.source_files.KeptFiles.{KeptValue, kept, kept_bytes, kept_in, kept_at}
use Rattle.include_tree.specs.Below.source_files.Tables.{paths_in, BeginsWithLines, HasEachOnce}
use Rattle.analysis.specs.Naming.{character_of, file_named}
use Rattle.analysis.specs.Places.{place_at, place_in_file, place_in_lines}
use Rattle.analysis.specs.Placing.{StandsIn, IsPositionAt, byte_at, byte_in_file, has_place_in_lines, position_at, position_in_lines}
use Rattle.analysis.proofs.NamingLemmas.{map_at}
use Rattle.analysis.proofs.PlaceNameLemmas.{kept_number, mapped_some, named_kept, then_some}

-- ---- the pseudo file of lines

pub lines_not_kept : (table : Table) → BeginsWithLines table → kept_at table 0 ≡ None
lines_not_kept table first = ap (λ (o : Option Entry). option_and_then (kept_in 0) o) first

place_in_first : (table : Table) (p : Pos) → BeginsWithLines table → p.file ≡ 0 → place_at table p ≡ place_in_lines p
place_in_first table p first zero_is =
    ap (λ (o : Option KeptValue). option_map_or (place_in_file p) o (place_in_lines p))
    (ap (λ (n : ℕ). kept_at table n) zero_is ∙ lines_not_kept table first)

-- What a place in it tells.
record Tells (line column : ℕ) (p : Pos) : Type 0 where
  file : p.file ≡ 0
  at : p.at ≡ (line - 1) * 8 + (column - 1)
  first_line : 1 ≤ line
  last_line : line ≤ 2 ^ 29
  first_column : 1 ≤ column
  last_column : column ≤ 8

-- what the test says
record IsIn (line column : ℕ) : Type 0 where
  first_line : 1 ≤ line
  last_line : line ≤ 2 ^ 29
  first_column : 1 ≤ column
  last_column : column ≤ 8

is_in : (line column : ℕ) → has_place_in_lines line column ≡ true → IsIn line column
is_in line column e = record {
  first_line = grind (arith, nat_tests);
  last_line = grind (arith, nat_tests);
  first_column = grind (arith, nat_tests);
  last_column = grind (arith, nat_tests);
}

tells : (line column : ℕ) (p : Pos) → position_in_lines line column ≡ Some p → Tells line column p
tells line column p e = elim (cases_Bool (has_place_in_lines line column)) [
  | inl has ↦
      let is = is_in line column has in
      let same : pos 0 ((line - 1) * 8 + (column - 1)) ≡ p = same_Some _ p (rw has at e) in
      record {
        file = sym (ap (λ (q : Pos). q.file) same);
        at = sym (ap (λ (q : Pos). q.at) same);
        first_line = is.first_line;
        last_line = is.last_line;
        first_column = is.first_column;
        last_column = is.last_column;
      }
  | inr none ↦ absurd (let wrong : None ≡ Some p = rw none at e in cc)
]

lines_placed : (line column : ℕ) (p : Pos) → Tells line column p → place_in_lines p ≡ place_of lines_path (line, column)
lines_placed line column p t =
    let short : column - 1 < 8 = omega (arith, t.first_column, t.last_column) in
    let l : p.at / 8 ≡ line - 1 = ap (λ (n : ℕ). n / 8) t.at ∙ div-mul-add (line - 1) 8 (column - 1) short in
    let c : p.at % 8 ≡ column - 1 = ap (λ (n : ℕ). n % 8) t.at ∙ mod-mul-add (line - 1) 8 (column - 1) short in
    let line_is : p.at / 8 + 1 ≡ line = ap (λ (n : ℕ). n + 1) l ∙ omega (arith, t.first_line) in
    let column_is : p.at % 8 + 1 ≡ column = ap (λ (n : ℕ). n + 1) c ∙ omega (arith, t.first_column) in
    ap (λ (n : ℕ). place_of lines_path (n, p.at % 8 + 1)) line_is ∙ ap (λ (n : ℕ). place_of lines_path (line, n)) column_is

lines_small : (line column : ℕ) (p : Pos) → Tells line column p → p.at < 2 ^ 32
lines_small line column p t = omega (arith, t.at, t.first_line, t.last_line, t.first_column, t.last_column)

-- a position of the pseudo file is found at its place
lines_found : (line column : ℕ) (p : Pos) → p.file ≡ 0 → p.at < 2 ^ 32 → p.at / 8 + 1 ≡ line → p.at % 8 + 1 ≡ column
    → position_in_lines line column ≡ Some p
lines_found line column p zero_is small l c =
    let low : p.at / 8 < 2 ^ 29 = div_below p.at 8 (2 ^ 29) (omega arith) (omega (arith, small)) in
    let short : p.at % 8 < 8 = mod_below p.at 8 (omega arith) in
    let whole : p.at / 8 * 8 + p.at % 8 ≡ p.at = div-add-mod' p.at 8 in
    let line_is : line - 1 ≡ p.at / 8 = omega (arith, l) in
    let column_is : column - 1 ≡ p.at % 8 = omega (arith, c) in
    let at : (line - 1) * 8 + (column - 1) ≡ p.at =
    ap (λ (n : ℕ). n * 8 + (column - 1)) line_is ∙ ap (λ (n : ℕ). p.at / 8 * 8 + n) column_is ∙ whole in
    let has : has_place_in_lines line column ≡ true =
    rw (le-leb 1 line (omega (arith, l)), le-leb line (2 ^ 29) (omega (arith, l, low)), le-leb 1 column (omega (arith, c)), le-leb column 8 (omega (arith, c, short))) refl in
    rw has (ap (λ (n : ℕ). Some (pos 0 n)) at ∙ ap (λ (n : ℕ). Some (pos n p.at)) (sym zero_is))

-- ---- kept files

path_of_kept : (n : ℕ) (e : Entry) (f : KeptValue) → kept_in n e ≡ Some f → f.path ≡ e.path
path_of_kept n e f h =
    let m = mapped_some (kept n e.path) (kept_bytes e.found) f h in
    ap (λ (g : KeptValue). g.path) m.2

-- the file of a path has this path
named_path : (path : List ℕ) (n : ℕ) (table : Table) (f : KeptValue) → file_named path n table ≡ Some f → f.path ≡ path
unfolding file_named
named_path path n [] f h = absurd cc
named_path path n (e ∷ table) f h = elim (cases_Bool (bytes_eq path e.path)) [
  | inl same ↦ path_of_kept n e f (rw same at h) ∙ sym (bytes_eq-equal path e.path same)
  | inr other ↦ named_path path (n + 1) table f (rw other at h)
]

first_of_all : (e : Entry) (table : Table) → HasEachOnce (e ∷ table) → list_any (bytes_eq e.path) (paths_in table) ≡ false
first_of_all e table once =
    let parts = and_parts (not (list_any (bytes_eq e.path) (paths_in table))) (are_distinct (paths_in table)) once in
    false_from_ne_true (list_any (bytes_eq e.path) (paths_in table)) (λ again. let wrong : not true ≡ true = rw again at parts.0 in cc)

rest_of_all : (e : Entry) (table : Table) → HasEachOnce (e ∷ table) → HasEachOnce table
rest_of_all e table once = (and_parts (not (list_any (bytes_eq e.path) (paths_in table))) (are_distinct (paths_in table)) once).1

-- no later entry has the path of the first one
not_later : (e : Entry) (table : Table) (k : ℕ) (x : Entry) → HasEachOnce (e ∷ table) → slice_get table k ≡ Some x → x.path ≡ e.path → ⊥
not_later e table k x once at same =
    let there : list_any (bytes_eq e.path) (paths_in table) ≡ true =
    any_from (bytes_eq e.path) (paths_in table) k x.path (map_at (λ (y : Entry). y.path) x table k at) (ap (bytes_eq e.path) same ∙ bytes_eq-same e.path) in
    let none = first_of_all e table once in
    let wrong : true ≡ false = sym there ∙ none in
    absurd cc

-- the entry of a kept file
kept_entry : (table : Table) (m k : ℕ) (f : KeptValue) → option_and_then (kept_in m) (slice_get table k) ≡ Some f
    → (x : Entry) × (slice_get table k ≡ Some x) × (f.path ≡ x.path)
kept_entry table m k f h =
    let r = then_some (kept_in m) (slice_get table k) f h in (r.0, r.1, path_of_kept m r.0 f r.2)

-- the file that is kept under a number is the one of its path
named_once : (path : List ℕ) (n k : ℕ) (table : Table) (f : KeptValue) → HasEachOnce table → f.path ≡ path
    → option_and_then (kept_in (n + k)) (slice_get table k) ≡ Some f → file_named path n table ≡ Some f
unfolding file_named
named_once path n k [] f once own h = absurd cc
named_once path n zero (e ∷ table) f once own h =
    let none_more : n + 0 ≡ n = omega arith in
    let here : kept_in n e ≡ Some f = subst (λ (m : ℕ). kept_in m e ≡ Some f) none_more h in
    let same : path ≡ e.path = sym own ∙ path_of_kept n e f here in
    let test : bytes_eq path e.path ≡ true = ap (bytes_eq path) (sym same) ∙ bytes_eq-same path in
    rw test here
named_once path n (suc k) (e ∷ table) f once own h =
    let x = kept_entry table (n + suc k) k f h in
    let other : bytes_eq path e.path ≡ false = false_from_ne_true (bytes_eq path e.path) (λ same.
    not_later e table k x.0 once x.1 (sym x.2 ∙ own ∙ bytes_eq-equal path e.path same)) in
    let on : n + suc k ≡ (n + 1) + k = omega arith in
    rw other (named_once path (n + 1) k table f (rest_of_all e table once) own
    (subst (λ (m : ℕ). option_and_then (kept_in m) (slice_get table k) ≡ Some f) on h))

named_number : (path : List ℕ) (table : Table) (n : ℕ) (f : KeptValue) → HasEachOnce table → f.path ≡ path → kept_at table n ≡ Some f
    → file_named path 0 table ≡ Some f
named_number path table n f once own h =
    let from_first : n ≡ 0 + n = omega arith in
    named_once path 0 n table f once own (subst (λ (m : ℕ). option_and_then (kept_in m) (slice_get table n) ≡ Some f) from_first h)

-- no kept file has the path of the pseudo file of lines
not_lines : (table : Table) (n : ℕ) (f : KeptValue) → HasEachOnce table → BeginsWithLines table → kept_at table n ≡ Some f → f.path ≡ lines_path → ⊥
not_lines [] n f once first h own = absurd cc
not_lines (e ∷ table) zero f once first h own =
    let none : kept_at (e ∷ table) 0 ≡ None = lines_not_kept (e ∷ table) first in
    let wrong : None ≡ Some f = sym none ∙ h in
    absurd cc
not_lines (e ∷ table) (suc k) f once first h own =
    let x = kept_entry table (suc k) k f h in
    let same : e ≡ entry lines_path Lines = same_Some e (entry lines_path Lines) first in
    let path : lines_path ≡ e.path = sym (ap (λ (y : Entry). y.path) same) in
    not_later e table k x.0 once x.1 (sym x.2 ∙ own ∙ path)

-- ---- places

-- A character of a kept file, with its line and its column.
record Stands (table : Table) (p : Pos) : Type 0 where
  file : KeptValue
  is_kept : kept_at table p.file ≡ Some file
  line : ℕ
  column : ℕ
  placed : line_column_of file.bytes p.at ≡ Some (line, column)

some_pair : (o : Option (ℕ × ℕ)) → is_some o ≡ true → (l : ℕ) × (c : ℕ) × (o ≡ Some (l, c))
some_pair None e = absurd cc
some_pair (Some x) e = (x.0, x.1, refl)

stands_by : (table : Table) (p : Pos) (o : Option KeptValue) → kept_at table p.file ≡ o → is_some (option_and_then (byte_in_file p) o) ≡ true → Stands table p
stands_by table p None is e = absurd cc
stands_by table p (Some f) is e =
    let place = some_pair (line_column_of f.bytes p.at) (characters_placed f.bytes p.at e) in
    record { file = f; is_kept = is; line = place.0; column = place.1; placed = place.2 }

-- its place
place_of_kept : (table : Table) (p : Pos) (f : KeptValue) (line column : ℕ) → kept_at table p.file ≡ Some f
    → line_column_of f.bytes p.at ≡ Some (line, column) → place_at table p ≡ place_of f.path (line, column)
place_of_kept table p f line column is placed =
    ap (λ (o : Option KeptValue). option_map_or (place_in_file p) o (place_in_lines p)) is
    ∙ ap (λ (o : Option (ℕ × ℕ)). place_of f.path (unwrap_or o (1, 1))) placed

-- it has a byte
byte_by : (bytes : List ℕ) (at line column : ℕ) (o : Option ℕ) → byte_offset_of bytes at ≡ o → option_and_then (place_of_byte bytes) o ≡ Some (line, column)
    → is_some (byte_offset_of bytes at) ≡ true
byte_by bytes at line column None is e = absurd cc
byte_by bytes at line column (Some x) is e = ap is_some is

has_byte : (bytes : List ℕ) (at line column : ℕ) → line_column_of bytes at ≡ Some (line, column) → is_some (byte_offset_of bytes at) ≡ true
unfolding line_column_of
has_byte bytes at line column e = byte_by bytes at line column (byte_offset_of bytes at) refl e

-- ---- from a position to its place

placed_lines : (table : Table) (path : List ℕ) (line column : ℕ) (p : Pos) → BeginsWithLines table → path ≡ lines_path
    → position_in_lines line column ≡ Some p → StandsIn table p × (place_at table p ≡ place_of path (line, column))
placed_lines table path line column p first own e =
    let t = tells line column p e in (
      inr (t.file, lines_small line column p t),
      place_in_first table p first t.file ∙ lines_placed line column p t ∙ ap (λ (q : List ℕ). place_of q (line, column)) (sym own),
    )

placed_kept : (table : Table) (path : List ℕ) (line column : ℕ) (p : Pos)
    → option_and_then (character_of line column) (file_named path 0 table) ≡ Some p → StandsIn table p × (place_at table p ≡ place_of path (line, column))
placed_kept table path line column p e =
    let r = then_some (character_of line column) (file_named path 0 table) p e in
    let f = r.0 in
    let m = mapped_some (pos f.number) (offset_of f.bytes line column) p r.2 in
    let here : line_column_of f.bytes m.0 ≡ Some (line, column) = (places_inverse f.bytes m.0 line column).1 m.1 in
    let is : kept_at table f.number ≡ Some f = named_kept path table f r.1 in
    let own : f.path ≡ path = named_path path 0 table f r.1 in
    let byte : is_some (byte_at table (pos f.number m.0)) ≡ true =
    ap (λ (o : Option KeptValue). is_some (option_and_then (byte_in_file (pos f.number m.0)) o)) is ∙ has_byte f.bytes m.0 line column here in
    let place : place_at table (pos f.number m.0) ≡ place_of path (line, column) =
    place_of_kept table (pos f.number m.0) f line column is here ∙ ap (λ (q : List ℕ). place_of q (line, column)) own in
    subst (λ (q : Pos). StandsIn table q × (place_at table q ≡ place_of path (line, column))) (sym m.2) (inl byte, place)

-- ---- and back

found_kept : (table : Table) (path : List ℕ) (line column : ℕ) (p : Pos) → HasEachOnce table → BeginsWithLines table → Stands table p
    → place_at table p ≡ place_of path (line, column) → position_at table path line column ≡ Some p
found_kept table path line column p once first s e =
    let f = s.file in
    let place : place_of f.path (s.line, s.column) ≡ place_of path (line, column) = sym (place_of_kept table p f s.line s.column s.is_kept s.placed) ∙ e in
    let own : f.path ≡ path = ap (λ (q : Place). q.path) place in
    let line_is : s.line ≡ line = ap (λ (q : Place). q.line) place in
    let column_is : s.column ≡ column = ap (λ (q : Place). q.column) place in
    let here : line_column_of f.bytes p.at ≡ Some (line, column) =
    s.placed ∙ ap (λ (n : ℕ). Some (n, s.column)) line_is ∙ ap (λ (n : ℕ). Some (line, n)) column_is in
    let at : offset_of f.bytes line column ≡ Some p.at = (places_inverse f.bytes p.at line column).0 here in
    let named : file_named path 0 table ≡ Some f = named_number path table p.file f once own s.is_kept in
    let number : f.number ≡ p.file = kept_number table p.file f s.is_kept in
    let found : option_and_then (character_of line column) (file_named path 0 table) ≡ Some p =
    ap (λ (o : Option KeptValue). option_and_then (character_of line column) o) named
    ∙ ap (λ (o : Option ℕ). option_map (pos f.number) o) at
    ∙ ap (λ (n : ℕ). Some (pos n p.at)) number in
    elim (cases_Bool (bytes_eq path lines_path)) [
      | inl lines ↦ absurd (not_lines table p.file f once first s.is_kept (own ∙ bytes_eq-equal path lines_path lines))
      | inr other ↦ rw other found
    ]

found_lines : (table : Table) (path : List ℕ) (line column : ℕ) (p : Pos) → BeginsWithLines table → p.file ≡ 0 → p.at < 2 ^ 32
    → place_at table p ≡ place_of path (line, column) → position_at table path line column ≡ Some p
found_lines table path line column p first zero_is small e =
    let place : place_in_lines p ≡ place_of path (line, column) = sym (place_in_first table p first zero_is) ∙ e in
    let own : lines_path ≡ path = ap (λ (q : Place). q.path) place in
    let line_is : p.at / 8 + 1 ≡ line = ap (λ (q : Place). q.line) place in
    let column_is : p.at % 8 + 1 ≡ column = ap (λ (q : Place). q.column) place in
    let lines : bytes_eq path lines_path ≡ true = ap (bytes_eq path) own ∙ bytes_eq-same path in
    rw lines (lines_found line column p zero_is small line_is column_is)

pub position_is : (table : Table) (path : List ℕ) (line column : ℕ) → HasEachOnce table → BeginsWithLines table
    → IsPositionAt table (place_of path (line, column)) (position_at table path line column)
position_is table path line column once first p = (
  λ e. elim (cases_Bool (bytes_eq path lines_path)) [
    | inl lines ↦ placed_lines table path line column p first (bytes_eq-equal path lines_path lines) (rw lines at e)
    | inr other ↦ placed_kept table path line column p (rw other at e)
  ],
  λ s. elim (s.0) [
    | inl byte ↦ found_kept table path line column p once first (stands_by table p (kept_at table p.file) refl byte) s.1
    | inr lines ↦ found_lines table path line column p first lines.0 lines.1 s.1
  ],
)
