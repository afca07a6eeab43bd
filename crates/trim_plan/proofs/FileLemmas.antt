-- The edits of a trim: one for each file that holds lines that go.
use Rattle.std.proofs.Common.{◌≡◌, ℕ, zero, suc, ◌+◌, ◌&&◌, ◌||◌, Bool, true, false, not, cond, List, [], ◌∷◌, ◌++◌, length, Option, None, Some, refl, sym, ap, subst, ◌∙◌, inl, inr, ◌⊎◌, arith}
use Rattle.std.specs.Prelude.{◌≢◌, slice_get}
use Rattle.std.specs.List.{list_any}
use Rattle.std.specs.Option.{option_map, option_map_or, option_and_then}
use Rattle.std.specs.Str.{bytes_eq}
use Rattle.std.specs.Cmp.Lexicographic.{bytes_decides}
use Rattle.std.proofs.lemmas.Bool.{cases_Bool, and_parts, false≢true}
use Rattle.std.proofs.lemmas.Option.{none-some, same_Some}
use Rattle.cs_base.specs.declared.positions.Pos.{Pos}
use Rattle.cs_base.specs.Edit.{Edit, edit, comes_before}
use Rattle.edited_files.specs.Edited.{AreMade, with_edit, with_each}
use Rattle.analysis.specs.Analysis.{AnalysisValue}
use Rattle.analysis.specs.Below.include_tree.Walk.{ItemText}
use Rattle.analysis.specs.Below.source_files.Files.{Source, Entry, Table}
use Rattle.analysis.specs.Below.source_files.KeptFiles.{KeptValue, kept_at, kept_in, kept_bytes}
use Rattle.analysis.specs.Below.source_files.Tables.{HasEachOnce, paths_in}
use Rattle.trim_plan.specs.Kept.{HoldsLines, AreTrimmed}
use Rattle.trim_rules.specs.Trimmed.{lines_in, trimmed, without, edit_for, edit_in, edits_from, edits_of}

-- ---- lists of edits

In : {X : Type 0} → X → List X → Type 0
In x [] = ⊥
In x (y ∷ xs) = (y ≡ x) ⊎ In x xs

among_of : {X : Type 0} (x : X) (xs : List X) → In x xs → (k : ℕ) × (slice_get xs k ≡ Some x)
unfolding In
among_of x [] w = absurd w
among_of x (y ∷ xs) (inl same) = (0, ap (λ (z : _). Some z) same)
among_of x (y ∷ xs) (inr w) = let r = among_of x xs w in (suc r.0, r.1)

in_of : {X : Type 0} (x : X) (xs : List X) (k : ℕ) → slice_get xs k ≡ Some x → In x xs
unfolding In
in_of x [] k at = absurd (none-some x at)
in_of x (y ∷ xs) zero at = inl (same_Some y x at)
in_of x (y ∷ xs) (suc k) at = inr (in_of x xs k at)

in_both : {X : Type 0} (x : X) (xs ys : List X) → In x (xs ++ ys) → In x xs ⊎ In x ys
unfolding In
in_both x [] ys w = inr w
in_both x (y ∷ xs) ys (inl same) = inl (inl same)
in_both x (y ∷ xs) ys (inr w) = elim (in_both x xs ys w) [ inl a ↦ inl (inr a) | inr b ↦ inr b ]

in_first : {X : Type 0} (x : X) (xs ys : List X) → In x xs → In x (xs ++ ys)
unfolding In
in_first x [] ys w = absurd w
in_first x (y ∷ xs) ys (inl same) = inl same
in_first x (y ∷ xs) ys (inr w) = inr (in_first x xs ys w)

in_second : {X : Type 0} (x : X) (xs ys : List X) → In x ys → In x (xs ++ ys)
unfolding In
in_second x [] ys w = w
in_second x (y ∷ xs) ys w = inr (in_second x xs ys w)

in_nothing : (x : Edit) → In x [] → ⊥
unfolding In
in_nothing x w = w

-- an edit that is put among others is there, and so are they, but for one of its path
put_there : (e : Edit) (es : List Edit) → In e (with_edit e es)
unfolding with_edit In
put_there e [] = inl refl
put_there e (d ∷ es) = by (comes_before d.path e.path) (bytes_eq d.path e.path) (put_there e es)
  where
    by : (b c : Bool) → In e (with_edit e es) → In e (cond b (d ∷ with_edit e es) (cond c (e ∷ es) (e ∷ d ∷ es)))
    by true c later = inr later
    by false true later = inl refl
    by false false later = inl refl

put_keeps : (x e : Edit) (es : List Edit) → bytes_eq x.path e.path ≡ false → In x es → In x (with_edit e es)
unfolding with_edit In
put_keeps x e [] apart w = absurd w
put_keeps x e (d ∷ es) apart w = by (comes_before d.path e.path) (bytes_eq d.path e.path) refl w (put_keeps x e es apart)
  where
    other : (c : Bool) → bytes_eq d.path e.path ≡ c → In x (d ∷ es) → In x (cond c (e ∷ es) (e ∷ d ∷ es))
    other true same (inl is) = absurd (false≢true (sym apart ∙ ap (λ (y : Edit). bytes_eq y.path e.path) (sym is) ∙ same))
    other true same (inr v) = inr v
    other false same v = inr v

    by : (b c : Bool) → bytes_eq d.path e.path ≡ c → In x (d ∷ es) → (In x es → In x (with_edit e es))
        → In x (cond b (d ∷ with_edit e es) (cond c (e ∷ es) (e ∷ d ∷ es)))
    by true c same (inl is) later = inl is
    by true c same (inr v) later = inr (later v)
    by false c same v later = other c same v

put_from : (x e : Edit) (es : List Edit) → In x (with_edit e es) → (e ≡ x) ⊎ In x es
unfolding with_edit In
put_from x e [] (inl is) = inl is
put_from x e [] (inr w) = absurd w
put_from x e (d ∷ es) w = by (comes_before d.path e.path) (bytes_eq d.path e.path) w (put_from x e es)
  where
    by : (b c : Bool) → In x (cond b (d ∷ with_edit e es) (cond c (e ∷ es) (e ∷ d ∷ es))) → (In x (with_edit e es) → (e ≡ x) ⊎ In x es) → (e ≡ x) ⊎ In x (d ∷ es)
    by true c (inl is) later = inr (inl is)
    by true c (inr v) later = elim (later v) [ inl is ↦ inl is | inr u ↦ inr (inr u) ]
    by false true (inl is) later = inl is
    by false true (inr v) later = inr (inr v)
    by false false (inl is) later = inl is
    by false false (inr v) later = inr v

each_from : (x : Edit) (new es : List Edit) → In x (with_each new es) → In x new ⊎ In x es
unfolding with_each In
each_from x [] es w = inr w
each_from x (e ∷ new) es w = elim (each_from x new (with_edit e es) w) [
  | inl later ↦ inl (inr later)
  | inr before ↦ elim (put_from x e es before) [ inl is ↦ inl (inl is) | inr v ↦ inr v ]
]

-- edits of other paths
AreApart : Edit → List Edit → Type 0
AreApart x es = (e : Edit) → In e es → bytes_eq x.path e.path ≡ false

each_keeps : (x : Edit) (new es : List Edit) → AreApart x new → In x es → In x (with_each new es)
unfolding with_each AreApart In
each_keeps x [] es apart w = w
each_keeps x (e ∷ new) es apart w = each_keeps x new (with_edit e es) (λ d v. apart d (inr v)) (put_keeps x e es (apart e (inl refl)) w)

-- each has a path of its own
HaveOwnPaths : List Edit → Type 0
HaveOwnPaths [] = Unit {0}
HaveOwnPaths (e ∷ es) = AreApart e es × HaveOwnPaths es

each_there : (x : Edit) (new es : List Edit) → HaveOwnPaths new → In x new → In x (with_each new es)
unfolding with_each HaveOwnPaths In
each_there x [] es own w = absurd w
each_there x (e ∷ new) es own (inl is) =
    subst (λ (y : Edit). In y (with_each new (with_edit e es))) is (each_keeps e new (with_edit e es) own.0 (put_there e es))
each_there x (e ∷ new) es own (inr w) = each_there x new (with_edit e es) own.1 w

-- ---- tables

-- a path that has a number is among the paths
pub among_paths : (x : List ℕ) (t : Table) (k : ℕ) (e : Entry) → slice_get t k ≡ Some e → bytes_eq x e.path ≡ true → list_any (bytes_eq x) (paths_in t) ≡ true
among_paths x [] k e at same = absurd (none-some e at)
among_paths x (y ∷ t) zero e at same =
    let is : y ≡ e = same_Some y e at in
    ap (λ (z : Entry). bytes_eq x z.path || list_any (bytes_eq x) (paths_in t)) is ∙ ap (λ (b : Bool). b || list_any (bytes_eq x) (paths_in t)) same
among_paths x (y ∷ t) (suc k) e at same = ap (λ (b : Bool). bytes_eq x y.path || b) (among_paths x t k e at same) ∙ or-true (bytes_eq x y.path)
  where
    or-true : (b : Bool) → (b || true) ≡ true
    or-true true = refl
    or-true false = refl

-- where each path has one number, none behind is the first
pub first_apart : (x : Entry) (t : Table) (k : ℕ) (e : Entry) → HasEachOnce (x ∷ t) → slice_get t k ≡ Some e → bytes_eq x.path e.path ≡ true → ⊥
first_apart x t k e once at same =
    let there : list_any (bytes_eq x.path) (paths_in t) ≡ true = among_paths x.path t k e at same in
    let none : not (list_any (bytes_eq x.path) (paths_in t)) ≡ true = (and_parts (not (list_any (bytes_eq x.path) (paths_in t))) _ once).0 in
    false≢true (sym (ap not there) ∙ none)

pub once_behind : (x : Entry) (t : Table) → HasEachOnce (x ∷ t) → HasEachOnce t
once_behind x t once = (and_parts (not (list_any (bytes_eq x.path) (paths_in t))) _ once).1

pub path_kept : (number : ℕ) (e : Entry) (f : KeptValue) → kept_in number e ≡ Some f → (e.path ≡ f.path) × (f.number ≡ number)
path_kept number e f kept = by (kept_bytes e.found) kept
  where
    by : (r : Option (List ℕ)) → option_map (λ bytes. record { number = number; path = e.path; bytes = bytes }) r ≡ Some f → (e.path ≡ f.path) × (f.number ≡ number)
    by None h = absurd (none-some f h)
    by (Some bytes) h =
        let is = same_Some (record { number = number; path = e.path; bytes = bytes }) f h in
        (ap (λ (g : KeptValue). g.path) is, ap (λ (g : KeptValue). g.number) (sym is))

-- ---- the edits of a table

module _ (lines : List Pos) where
  abbrev mine : KeptValue → Edit
  mine f = edit f.path (trimmed lines f) (length (lines_in lines f))

  -- the edit is that of the file of this entry
  record IsFor (number : ℕ) (t : Table) (x : Edit) : Type 0 where
    place : ℕ
    entry : Entry
    at : slice_get t place ≡ Some entry
    file : KeptValue
    kept : kept_in (number + place) entry ≡ Some file
    some : lines_in lines file ≡ [] → ⊥
    is : file.path ≡ x.path

  for_lines : (f : KeptValue) (ls : List ItemText) (x : Edit) → In x (edit_for f ls) → (ls ≡ [] → ⊥) × (f.path ≡ x.path)
  unfolding In
  for_lines f [] x w = absurd w
  for_lines f (l ∷ ls) x (inl is) = (λ none. cc, ap (λ (y : Edit). y.path) is)
  for_lines f (l ∷ ls) x (inr w) = absurd w

  for_file : (o : Option KeptValue) (x : Edit) → In x (option_map_or (edit_in lines) o [])
      → (f : KeptValue) × ((o ≡ Some f) × ((lines_in lines f ≡ [] → ⊥) × (f.path ≡ x.path)))
  unfolding In
  for_file None x w = absurd w
  for_file (Some f) x w = let r = for_lines f (lines_in lines f) x w in (f, (refl, (r.0, r.1)))

  edits_for : (number : ℕ) (t : Table) (x : Edit) → In x (edits_from lines number t) → IsFor number t x
  unfolding edits_from In
  edits_for number [] x w = absurd w
  edits_for number (e ∷ t) x w = elim (in_both x (option_map_or (edit_in lines) (kept_in number e) []) (edits_from lines (number + 1) t) w) [
    | inl here ↦
        let r = for_file (kept_in number e) x here in
        record { place = 0; entry = e; at = refl; file = r.0; kept = ap (λ (n : ℕ). kept_in n e) (omega arith) ∙ r.1.0; some = r.1.1.0; is = r.1.1.1 }
    | inr later ↦
        let r : IsFor (number + 1) t x = edits_for (number + 1) t x later in
        record {
          place = suc r.place;
          entry = r.entry;
          at = r.at;
          file = r.file;
          kept = ap (λ (n : ℕ). kept_in n r.entry) (omega arith) ∙ r.kept;
          some = r.some;
          is = r.is;
        }
  ]

  there_lines : (f : KeptValue) (ls : List ItemText) → (ls ≡ [] → ⊥) → In (edit f.path (without ls f) (length ls)) (edit_for f ls)
  unfolding In
  there_lines f [] some = absurd (some refl)
  there_lines f (l ∷ ls) some = inl refl

  edits_there : (number place : ℕ) (t : Table) (e : Entry) (f : KeptValue) → slice_get t place ≡ Some e → kept_in (number + place) e ≡ Some f
      → (lines_in lines f ≡ [] → ⊥) → In (mine f) (edits_from lines number t)
  unfolding edits_from trimmed
  edits_there number place [] e f at kept some = absurd (none-some e at)
  edits_there number zero (x ∷ t) e f at kept some =
      let is : kept_in number x ≡ Some f = ap (λ (y : Entry). kept_in number y) (same_Some x e at) ∙ (ap (λ (n : ℕ). kept_in n e) (omega arith) ∙ kept) in
      in_first (mine f) (option_map_or (edit_in lines) (kept_in number x) []) (edits_from lines (number + 1) t)
      (subst (λ (o : Option KeptValue). In (mine f) (option_map_or (edit_in lines) o [])) (sym is) (there_lines f (lines_in lines f) some))
  edits_there number (suc place) (x ∷ t) e f at kept some =
      in_second (mine f) (option_map_or (edit_in lines) (kept_in number x) []) (edits_from lines (number + 1) t)
      (edits_there (number + 1) place t e f at (ap (λ (n : ℕ). kept_in n e) (omega arith) ∙ kept) some)

  own_paths : (number : ℕ) (t : Table) → HasEachOnce t → HaveOwnPaths (edits_from lines number t)
  unfolding edits_from HaveOwnPaths AreApart
  own_paths number [] once = tt
  own_paths number (e ∷ t) once = front (own_paths (number + 1) t (once_behind e t once)) (kept_in number e) refl
    where
      apart : (f : KeptValue) → kept_in number e ≡ Some f → (d : Edit) → In d (edits_from lines (number + 1) t) → bytes_eq f.path d.path ≡ false
      apart f kept d w = elim (cases_Bool (bytes_eq f.path d.path)) [
        | inl same ↦
            let r : IsFor (number + 1) t d = edits_for (number + 1) t d w in
            let p = path_kept (number + 1 + r.place) r.entry r.file r.kept in
            let q = path_kept number e f kept in
            let is : f.path ≡ d.path = (bytes_decides f.path d.path).0 same in
            let here : e.path ≡ r.entry.path = q.0 ∙ is ∙ sym r.is ∙ sym p.0 in
            absurd (first_apart e t r.place r.entry once r.at ((bytes_decides e.path r.entry.path).1 here))
        | inr differs ↦ differs
      ]

      one : HaveOwnPaths (edits_from lines (number + 1) t) → (f : KeptValue) (ls : List ItemText) → kept_in number e ≡ Some f
          → HaveOwnPaths (edit_for f ls ++ edits_from lines (number + 1) t)
      one behind f [] kept = behind
      one behind f (l ∷ ls) kept = (λ d w. apart f kept d w, behind)

      front : HaveOwnPaths (edits_from lines (number + 1) t) → (o : Option KeptValue) → kept_in number e ≡ o
          → HaveOwnPaths (option_map_or (edit_in lines) o [] ++ edits_from lines (number + 1) t)
      front behind None kept = behind
      front behind (Some f) kept = one behind f (lines_in lines f) kept

-- the entry of a kept file
pub entry_kept : (t : Table) (number : ℕ) (f : KeptValue) → kept_at t number ≡ Some f → (e : Entry) × ((slice_get t number ≡ Some e) × (kept_in number e ≡ Some f))
entry_kept t number f kept = by (slice_get t number) refl
  where
    by : (o : Option Entry) → slice_get t number ≡ o → (e : Entry) × ((slice_get t number ≡ Some e) × (kept_in number e ≡ Some f))
    by None at = absurd (none-some f (sym (ap (option_and_then (kept_in number)) at) ∙ kept))
    by (Some e) at = (e, (at, sym (ap (option_and_then (kept_in number)) at) ∙ kept))

-- ---- what they make

-- The edits of lines make null directives of them and change nothing else, where each path has one number, and files with such
-- lines held the bytes that were read.
pub edits_trim : (lines : List Pos) (a : AnalysisValue) (before now : Source) → HasEachOnce a.table
    → ((f : KeptValue) → HoldsLines lines a f → before f.path ≡ Some f.bytes) → AreMade (edits_of lines a.table) before now → AreTrimmed lines a before now
unfolding edits_of
edits_trim lines a before now once held made =
    record {
      edited = λ f holds.
          let x = entry_kept a.table f.number f holds.kept in
          let kept : kept_in (0 + f.number) x.0 ≡ Some f = ap (λ (n : ℕ). kept_in n x.0) (omega arith) ∙ x.1.1 in
          let there : In (mine lines f) (with_each (edits_from lines 0 a.table) []) =
          each_there (mine lines f) (edits_from lines 0 a.table) [] (own_paths lines 0 a.table once) (edits_there lines 0 f.number a.table x.0 f x.1.0 kept holds.some) in
          let among = among_of (mine lines f) (edits_of lines a.table) there in
          (held f holds, made.each among.0 (mine lines f) among.1);
      others = λ path apart. made.others path (λ k e at. other path apart k e at);
    }
  where
    other : (path : List ℕ) → ((f : KeptValue) → HoldsLines lines a f → f.path ≢ path) → (k : ℕ) (e : Edit) → slice_get (edits_of lines a.table) k ≡ Some e → bytes_eq e.path path ≡ false
    other path apart k e at = elim (cases_Bool (bytes_eq e.path path)) [
      | inl same ↦
          let w : In e (with_each (edits_from lines 0 a.table) []) = in_of e (edits_of lines a.table) k at in
          absurd (elim (each_from e (edits_from lines 0 a.table) [] w) [
            | inl v ↦
                let r = edits_for lines 0 a.table e v in
                let p = path_kept (0 + r.place) r.entry r.file r.kept in
                let number : r.file.number ≡ r.place = p.1 ∙ omega arith in
                let kept : kept_at a.table r.file.number ≡ Some r.file =
                ap (kept_at a.table) number
                ∙ (ap (λ (o : Option Entry). option_and_then (kept_in r.place) o) r.at ∙ (ap (λ (n : ℕ). kept_in n r.entry) (omega arith) ∙ r.kept)) in
                apart r.file (record { kept = kept; some = r.some }) (r.is ∙ (bytes_decides e.path path).0 same)
            | inr w ↦ in_nothing e w
          ])
      | inr differs ↦ differs
    ]
