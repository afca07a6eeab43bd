-- The paths of the files of members: in order, and text.
use Rattle.std.proofs.Common.{◌≡◌, ℕ, zero, suc, ◌<◌, ◌≤◌, true, false, List, [], ◌∷◌, ◌++◌, length, take, drop, Option, Some, None, slice_get, inl, inr, refl, sym, ap, subst, ◌∙◌, arith, add-one, append-nil}
use Rattle.std.specs.Prelude.{IsTrue, IsUtf8, slice_index_or}
use Rattle.std.specs.List.{prefix_len}
use Rattle.std.specs.List.Sorted.{IsStrictlySortedBy}
use Rattle.std.specs.Option.{option_map, option_map_or, option_and_then}
use Rattle.std.specs.Ordering.{nat_cmp, is_lt}
use Rattle.std.specs.Str.{is_utf8}
use Rattle.std.specs.Cmp.Lexicographic.{slice_cmp}
use Rattle.std.specs.declared.cmp.Ordering.{Ordering}
use Rattle.std.specs.declared.cmp.Ordering.TheVariants.{Less, Equal, Greater}
use Rattle.std.proofs.lemmas.Bool.{cases_Bool, eq-eqb, eqb-true}
use Rattle.std.proofs.lemmas.Cmp.{nat_list_cmp_total}
use Rattle.std.proofs.lemmas.Map.Keys.{Less-from_sorted, sorted_tail}
use Rattle.std.proofs.lemmas.Option.{same_Some, slice_get_within}
use Rattle.std.proofs.lemmas.Str.{IsUtf8-from_is_utf8}
use Rattle.cs_base.specs.declared.positions.Part.{Part}
use Rattle.cs_base.specs.declared.positions.Pos.{Pos}
use Rattle.cs_base.specs.Edit.{Edit, edit, comes_before, comes_last}
use Rattle.cs_base.proofs.OrderLemmas.{first_decides, tied}
use Rattle.cs_base.proofs.ListLemmas.{passes_at as all_at}
use Rattle.cs_base.proofs.NumberLemmas.{one-add}
use Rattle.analysis.specs.Below.source_files.Files.{Entry, Table}
use Rattle.analysis.specs.Below.source_files.KeptFiles.{KeptValue, kept, kept_bytes, kept_in, kept_at}
use Rattle.analysis.specs.Below.source_files.Tables.{paths_in, HasEachOnce, AreText}
use Rattle.analysis.specs.Analysis.{AnalysisValue}
use Rattle.analysis.specs.Parts.{IsCharacter, IsPart, AreMembers, StandInFiles, part_cmp}
use Rattle.analysis.specs.Places.{path_at}
use Rattle.rename_rules.specs.Runs.{edit_of, new_bytes, is_in, run_length}
use Rattle.offences.proofs.PlaceLemmas.{one_place}
use Rattle.rename_rules.specs.FileOrder.{IsBefore, AreByPath, ComeBehind, IsNext}

-- ---- each path once

-- ---- the path of a number

path_there : (table : Table) (n : ℕ) → n < length table → slice_get (paths_in table) n ≡ Some (path_at table n)
path_there [] n within = absurd (omega (arith, within))
path_there (e ∷ table) zero within = refl
path_there (e ∷ table) (suc n) within = path_there table n (omega (arith, within))

path_from : (n : ℕ) (e : Entry) (f : KeptValue) (o : Option (List ℕ)) → option_map (kept n e.path) o ≡ Some f → e.path ≡ f.path
path_from n e f None h = absurd (cc)
path_from n e f (Some bytes) h = ap (λ (g : KeptValue). g.path) (same_Some (kept n e.path bytes) f h)

kept_entry : (n : ℕ) (o : Option Entry) (f : KeptValue) → option_and_then (kept_in n) o ≡ Some f → (e : Entry) × (o ≡ Some e) × (e.path ≡ f.path)
kept_entry n None f h = absurd (cc)
kept_entry n (Some e) f h = (e, refl, path_from n e f (kept_bytes e.found) h)

kept_within : (table : Table) (n : ℕ) (f : KeptValue) → kept_at table n ≡ Some f → n < length table
kept_within table n f h = let r = kept_entry n (slice_get table n) f h in slice_get_within table n r.0 r.1

kept_path : (table : Table) (n : ℕ) (f : KeptValue) → kept_at table n ≡ Some f → path_at table n ≡ f.path
kept_path table n f h =
    let r = kept_entry n (slice_get table n) f h in
    ap (λ (o : Option Entry). option_map_or (λ (e : Entry). e.path) o []) r.1 ∙ r.2

kept_text : (table : Table) (n : ℕ) (f : KeptValue) → AreText table → kept_at table n ≡ Some f → IsUtf8 f.path
kept_text table n f texts h =
    let test : is_utf8 (path_at table n) ≡ true = all_at is_utf8 (paths_in table) n (path_at table n) texts (path_there table n (kept_within table n f h)) in
    IsUtf8-from_is_utf8 f.path (ap is_utf8 (sym (kept_path table n f h)) ∙ test)

-- numbers below the end that have one path are the same
one_number : (table : Table) (n k : ℕ) → HasEachOnce table → n < length table → k < length table → path_at table n ≡ path_at table k → n ≡ k
one_number table n k once first second same =
    one_place (paths_in table) n k (path_at table n) once (path_there table n first) (path_there table k second ∙ ap Some (sym same))

by_files : (a : AnalysisValue) (p q : Pos) (x y : Option KeptValue) → StandInFiles a → HasEachOnce a.table → IsCharacter a p → IsCharacter a q
    → kept_at a.table p.file ≡ x → kept_at a.table q.file ≡ y → path_at a.table p.file ≡ path_at a.table q.file → p.file ≡ q.file
by_files a p q None None stand once cp cq hx hy same = stand p cp hx ∙ sym (stand q cq hy)
by_files a p q (Some f) None stand once cp cq hx hy same =
    let in_lines : q.file ≡ 0 = stand q cq hy in
    let within = kept_within a.table p.file f hx in
    one_number a.table p.file q.file once within (omega (arith, within, in_lines)) same
by_files a p q None (Some g) stand once cp cq hx hy same =
    let in_lines : p.file ≡ 0 = stand p cp hx in
    let within = kept_within a.table q.file g hy in
    one_number a.table p.file q.file once (omega (arith, within, in_lines)) within same
by_files a p q (Some f) (Some g) stand once cp cq hx hy same =
    one_number a.table p.file q.file once (kept_within a.table p.file f hx) (kept_within a.table q.file g hy) same

one_file : (a : AnalysisValue) (p q : Pos) → StandInFiles a → HasEachOnce a.table → IsCharacter a p → IsCharacter a q
    → path_at a.table p.file ≡ path_at a.table q.file → p.file ≡ q.file
one_file a p q stand once cp cq same = by_files a p q (kept_at a.table p.file) (kept_at a.table q.file) stand once cp cq refl refl same

-- ---- members are in the order of the paths

by_path_from : (a : AnalysisValue) (ms : List Part) → StandInFiles a → HasEachOnce a.table → ((k : ℕ) (m : Part) → slice_get ms k ≡ Some m → IsPart a m)
    → IsStrictlySortedBy (part_cmp a) ms → AreByPath a.table ms
by_path_from a [] stand once parts sorted = tt
by_path_from a (m ∷ []) stand once parts sorted = tt
by_path_from a (m ∷ n ∷ ms) stand once parts sorted = (
  λ apart.
      let less : part_cmp a m n ≡ Less = Less-from_sorted (part_cmp a) (m ∷ n ∷ ms) 0 1 m sorted (omega arith) (omega arith) in
      first_decides (slice_cmp nat_cmp (path_at a.table m.start.file) (path_at a.table n.start.file)) (nat_cmp m.start.at n.start.at) less
      (λ equal. apart (sym (one_file a m.start n.start stand once (parts 0 m refl).held (parts 1 n refl).held
      (tied (path_at a.table m.start.file) (path_at a.table n.start.file) equal)))),
  by_path_from a (n ∷ ms) stand once (λ k p at. parts (suc k) p at) (sorted_tail (part_cmp a) m (n ∷ ms) sorted),
)

pub members_by_path : (a : AnalysisValue) (part : Part) (ms : List Part) → StandInFiles a → HasEachOnce a.table → AreMembers a part ms → AreByPath a.table ms
members_by_path a part ms stand once are = by_path_from a ms stand once (λ k m at. (are.each k m at).is_part) are.sorted

-- ---- edits come before the members that are left

-- the file comes before that of the first member
abbrev IsAhead : Table → ℕ → List Part → Type 0
IsAhead table file [] = Unit {0}
IsAhead table file (m ∷ ms) = IsBefore table file m.start.file

behind_run : (table : Table) (file : ℕ) (m : Part) (ms : List Part) → m.start.file ≡ file → AreByPath table (m ∷ ms)
    → IsAhead table file (drop (prefix_len (is_in file) ms) ms)
behind_run table file m [] same order = tt
behind_run table file m (n ∷ ns) same order =
    elim (cases_Bool (is_in file n)) [
      | inl passes ↦
          let here : n.start.file ≡ file = eqb-true n.start.file file passes in
          rw (passes, one-add (prefix_len (is_in file) ns)) (behind_run table file n ns here order.1)
      | inr fails ↦
          let apart : n.start.file ≡ m.start.file → ⊥ = λ e.
          let yes' : true ≡ false = sym (eq-eqb n.start.file file (e ∙ same)) ∙ fails in absurd (cc) in
          rw fails (subst (λ (k : ℕ). IsBefore table k n.start.file) same (order.0 apart))
    ]

less_before : (o : Ordering) → is_lt o ≡ true → o ≡ Less
less_before Less h = refl
less_before Equal h = absurd (cc)
less_before Greater h = absurd (cc)

further : (es : List Edit) (x y : List ℕ) → comes_last x es ≡ true → slice_cmp nat_cmp x y ≡ Less → comes_last y es ≡ true
further [] x y last less = refl
further (e ∷ []) x y last less =
    ap is_lt (nat_list_cmp_total.trans e.path x y (less_before (slice_cmp nat_cmp e.path x) last) less)
further (e ∷ f ∷ es) x y last less = further (f ∷ es) x y last less

last_is : (es : List Edit) (e : Edit) (path : List ℕ) → comes_last path (es ++ e ∷ []) ≡ comes_before e.path path
last_is [] e path = refl
last_is (x ∷ []) e path = refl
last_is (x ∷ z ∷ es) e path = last_is (z ∷ es) e path

edited_by : (table : Table) (name : List ℕ) (file : ℕ) (run : List Part) (edits : List Edit) (path : List ℕ) (o : Option KeptValue) → kept_at table file ≡ o
    → comes_last (path_at table file) edits ≡ true → slice_cmp nat_cmp (path_at table file) path ≡ Less
    → comes_last path (edits ++ option_map_or (λ (f : KeptValue). edit f.path (new_bytes name run f) (length run) ∷ []) o []) ≡ true
edited_by table name file run edits path None is last less = further (edits ++ []) (path_at table file) path (rw (append-nil edits) last) less
edited_by table name file run edits path (Some f) is last less =
    last_is edits (edit f.path (new_bytes name run f) (length run)) path
    ∙ ap (λ (p : List ℕ). comes_before p path) (sym (kept_path table file f is)) ∙ ap is_lt less

left_behind : (a : AnalysisValue) (name : List ℕ) (m : Part) (run left : List Part) (edits : List Edit)
    → IsTrue (comes_last (path_at a.table m.start.file) edits) → IsAhead a.table m.start.file left
    → ComeBehind a.table (edits ++ edit_of a name (m ∷ run)) left
left_behind a name m run [] edits last ahead = tt
left_behind a name m run (n ∷ left) edits last ahead =
    edited_by a.table name m.start.file (m ∷ run) edits (path_at a.table n.start.file) (kept_at a.table m.start.file) refl last ahead

pub behind_next : (a : AnalysisValue) (name : List ℕ) (rest : List Part) (edits more : List Edit) → 1 ≤ length rest
    → more ≡ edits ++ edit_of a name (take (run_length rest) rest) → AreByPath a.table rest → ComeBehind a.table edits rest
    → ComeBehind a.table more (drop (run_length rest) rest)
behind_next a name [] edits more some added order last = absurd (omega (arith, some))
behind_next a name (m ∷ ms) edits more some added order last =
    let k = prefix_len (is_in m.start.file) ms in
    let now : more ≡ edits ++ edit_of a name (m ∷ take k ms) = rw (add-one k) at added in
    rw (now, add-one k) (left_behind a name m (take k ms) (drop k ms) edits last (behind_run a.table m.start.file m ms refl order))

by_path_rest : (table : Table) (m : Part) (ms : List Part) → AreByPath table (m ∷ ms) → AreByPath table ms
by_path_rest table m [] order = tt
by_path_rest table m (n ∷ ms) order = order.1

pub by_path_drop : (table : Table) (k : ℕ) (ms : List Part) → AreByPath table ms → AreByPath table (drop k ms)
by_path_drop table zero ms order = order
by_path_drop table (suc k) [] order = tt
by_path_drop table (suc k) (m ∷ ms) order = by_path_drop table k ms (by_path_rest table m ms order)

-- ---- the next file

next_from : (table : Table) (edits : List Edit) (m n : Part) (f : KeptValue) → AreText table → IsTrue (comes_last (path_at table m.start.file) edits)
    → m ≡ n → kept_at table n.start.file ≡ Some f → IsTrue (comes_last f.path edits) × IsUtf8 f.path
next_from table edits m n f texts last same is =
    let here : kept_at table m.start.file ≡ Some f = ap (λ (o : Part). kept_at table o.start.file) same ∙ is in
    (ap (λ (p : List ℕ). comes_last p edits) (sym (kept_path table m.start.file f here)) ∙ last, kept_text table m.start.file f texts here)

pub is_next : (table : Table) (edits : List Edit) (rest : List Part) → AreText table → ComeBehind table edits rest
    → IsNext table edits (take (run_length rest) rest)
is_next table edits [] texts last m f at is = absurd (cc)
is_next table edits (n ∷ ns) texts last m f at is =
    let k = prefix_len (is_in n.start.file) ns in
    let whole : slice_get (n ∷ take k ns) 0 ≡ Some m = rw (add-one k) at at in
    next_from table edits n m f texts last (same_Some n m whole) is

pub next_text : (table : Table) (edits : List Edit) (run : List Part) (other : Part) (f : KeptValue) → IsNext table edits run → 1 ≤ length run
    → kept_at table (slice_index_or run 0 other).start.file ≡ Some f → IsUtf8 f.path
next_text table edits [] other f next some is = absurd (omega (arith, some))
next_text table edits (m ∷ ms) other f next some is = (next m f refl is).1
