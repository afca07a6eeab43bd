-- The edits of a new order: one for each file that holds lists of the functions.
use Rattle.std.proofs.Common.{◌≡◌, ℕ, zero, suc, ◌+◌, Bool, true, false, not, if◌then◌else◌, List, [], ◌∷◌, ◌++◌, length, Option, None, Some, refl, sym, ap, subst, ◌∙◌, inl, inr, ◌⊎◌, arith}
use Rattle.std.specs.Prelude.{◌≢◌, slice_get}
use Rattle.std.specs.List.{list_any}
use Rattle.std.specs.Option.{option_map, option_map_or, option_and_then}
use Rattle.std.specs.Str.{bytes_eq}
use Rattle.std.proofs.lemmas.Bool.{cases_Bool, and_parts, false≢true}
use Rattle.std.proofs.lemmas.Option.{none-some, same_Some}
use Rattle.cs_base.specs.declared.positions.Part.{Part}
use Rattle.cs_base.specs.Edit.{Edit, edit, comes_before}
use Rattle.cs_base.proofs.FileMapLemmas.{bytes_eq-equal}
use Rattle.tree_laws.proofs.Lookups.{In}
use Rattle.analysis.specs.Analysis.{AnalysisValue}
use Rattle.offences.specs.First.{IsAmong}
use Rattle.source_files.specs.Files.{Entry, Source, Table, number_of}
use Rattle.source_files.specs.KeptFiles.{KeptValue, kept_at, kept_in, kept_bytes}
use Rattle.source_files.specs.Tables.{HasEachOnce, paths_in}
use Rattle.template_rules.specs.declared.file_lists.FoundList.{FoundList}
use Rattle.template_rules.specs.FileLists.{all_found, lists_in, new_bytes, edit_for, edit_in, edits_from, edits_of}
use Rattle.edited_files.specs.Edited.{AreMade, with_edit, with_each}
use Rattle.reordered.specs.Reorder.{AreReordered, HoldsLists}
use Rattle.template_meaning.proofs.TablesEdited.{number_path, kept_entry}

-- ---- Lists of edits

among_of : {X : Type 0} (x : X) (xs : List X) → In x xs → IsAmong xs x
among_of x [] w = absurd w
among_of x (y ∷ xs) (inl same) = (0, ap (λ (z : _). Some z) same)
among_of x (y ∷ xs) (inr w) = let r = among_of x xs w in (suc r.0, r.1)

in_of : {X : Type 0} (x : X) (xs : List X) (k : ℕ) → slice_get xs k ≡ Some x → In x xs
in_of x [] k at = absurd (none-some x at)
in_of x (y ∷ xs) zero at = inl (same_Some y x at)
in_of x (y ∷ xs) (suc k) at = inr (in_of x xs k at)

in_both : {X : Type 0} (x : X) (xs ys : List X) → In x (xs ++ ys) → In x xs ⊎ In x ys
in_both x [] ys w = inr w
in_both x (y ∷ xs) ys (inl same) = inl (inl same)
in_both x (y ∷ xs) ys (inr w) = elim (in_both x xs ys w) [ inl a ↦ inl (inr a) | inr b ↦ inr b ]

in_first : {X : Type 0} (x : X) (xs ys : List X) → In x xs → In x (xs ++ ys)
in_first x [] ys w = absurd w
in_first x (y ∷ xs) ys (inl same) = inl same
in_first x (y ∷ xs) ys (inr w) = inr (in_first x xs ys w)

in_second : {X : Type 0} (x : X) (xs ys : List X) → In x ys → In x (xs ++ ys)
in_second x [] ys w = w
in_second x (y ∷ xs) ys w = inr (in_second x xs ys w)

-- an edit that is put among others is there, and so are they, but for one of its path
put_there : (e : Edit) (es : List Edit) → In e (with_edit e es)
unfolding with_edit
put_there e [] = inl refl
put_there e (d ∷ es) = by (comes_before d.path e.path) (bytes_eq d.path e.path) (put_there e es)
  where
    by : (b c : Bool) → In e (with_edit e es) → In e (if b then d ∷ with_edit e es else (if c then e ∷ es else e ∷ d ∷ es))
    by true c later = inr later
    by false true later = inl refl
    by false false later = inl refl

put_keeps : (x e : Edit) (es : List Edit) → bytes_eq x.path e.path ≡ false → In x es → In x (with_edit e es)
unfolding with_edit
put_keeps x e [] apart w = absurd w
put_keeps x e (d ∷ es) apart w = by (comes_before d.path e.path) (bytes_eq d.path e.path) refl w (put_keeps x e es apart)
  where
    other : (c : Bool) → bytes_eq d.path e.path ≡ c → In x (d ∷ es) → In x (if c then e ∷ es else e ∷ d ∷ es)
    other true same (inl is) = absurd (false≢true (sym apart ∙ ap (λ (y : Edit). bytes_eq y.path e.path) (sym is) ∙ same))
    other true same (inr v) = inr v
    other false same v = inr v

    by : (b c : Bool) → bytes_eq d.path e.path ≡ c → In x (d ∷ es) → (In x es → In x (with_edit e es))
        → In x (if b then d ∷ with_edit e es else (if c then e ∷ es else e ∷ d ∷ es))
    by true c same (inl is) later = inl is
    by true c same (inr v) later = inr (later v)
    by false c same v later = other c same v

put_from : (x e : Edit) (es : List Edit) → In x (with_edit e es) → (e ≡ x) ⊎ In x es
unfolding with_edit
put_from x e [] (inl is) = inl is
put_from x e [] (inr w) = absurd w
put_from x e (d ∷ es) w = by (comes_before d.path e.path) (bytes_eq d.path e.path) w (put_from x e es)
  where
    by : (b c : Bool) → In x (if b then d ∷ with_edit e es else (if c then e ∷ es else e ∷ d ∷ es)) → (In x (with_edit e es) → (e ≡ x) ⊎ In x es) → (e ≡ x) ⊎ In x (d ∷ es)
    by true c (inl is) later = inr (inl is)
    by true c (inr v) later = elim (later v) [ inl is ↦ inl is | inr u ↦ inr (inr u) ]
    by false true (inl is) later = inl is
    by false true (inr v) later = inr (inr v)
    by false false (inl is) later = inl is
    by false false (inr v) later = inr v

each_from : (x : Edit) (new es : List Edit) → In x (with_each new es) → In x new ⊎ In x es
unfolding with_each
each_from x [] es w = inr w
each_from x (e ∷ new) es w = elim (each_from x new (with_edit e es) w) [
  | inl later ↦ inl (inr later)
  | inr before ↦ elim (put_from x e es before) [ inl is ↦ inl (inl is) | inr v ↦ inr v ]
]

-- edits of other paths
AreApart : Edit → List Edit → Type 0
AreApart x es = (e : Edit) → In e es → bytes_eq x.path e.path ≡ false

each_keeps : (x : Edit) (new es : List Edit) → AreApart x new → In x es → In x (with_each new es)
unfolding with_each AreApart
each_keeps x [] es apart w = w
each_keeps x (e ∷ new) es apart w = each_keeps x new (with_edit e es) (λ d v. apart d (inr v)) (put_keeps x e es (apart e (inl refl)) w)

-- each has a path of its own
HaveOwnPaths : List Edit → Type 0
HaveOwnPaths [] = Unit {0}
HaveOwnPaths (e ∷ es) = AreApart e es × HaveOwnPaths es

each_there : (x : Edit) (new es : List Edit) → HaveOwnPaths new → In x new → In x (with_each new es)
unfolding with_each HaveOwnPaths
each_there x [] es own w = absurd w
each_there x (e ∷ new) es own (inl is) =
    subst (λ (y : Edit). In y (with_each new (with_edit e es))) is (each_keeps e new (with_edit e es) own.0 (put_there e es))
each_there x (e ∷ new) es own (inr w) = each_there x new (with_edit e es) own.1 w

-- ---- The edits of a table

module _ (found : List FoundList) (order : List ℕ) where
  -- the edit is that of the file of this entry
  record IsFor (number : ℕ) (t : Table) (x : Edit) : Type 0 where
    place : ℕ
    entry : Entry
    at : slice_get t place ≡ Some entry
    file : KeptValue
    kept : kept_in (number + place) entry ≡ Some file
    some : lists_in found file.number ≡ [] → ⊥
    is : edit file.path (new_bytes order (lists_in found file.number) file) (length (lists_in found file.number)) ≡ x

  for_lists : (f : KeptValue) (ls : List (List ℕ)) (x : Edit) → In x (edit_for order f ls) → (ls ≡ [] → ⊥) × (edit f.path (new_bytes order ls f) (length ls) ≡ x)
  for_lists f [] x w = absurd w
  for_lists f (l ∷ ls) x (inl is) = (λ none. cc, is)
  for_lists f (l ∷ ls) x (inr w) = absurd w

  for_file : (o : Option KeptValue) (x : Edit) → In x (option_map_or (edit_in found order) o [])
      → (f : KeptValue) × ((o ≡ Some f) × ((lists_in found f.number ≡ [] → ⊥) × (edit f.path (new_bytes order (lists_in found f.number) f) (length (lists_in found f.number)) ≡ x)))
  for_file None x w = absurd w
  for_file (Some f) x w = let r = for_lists f (lists_in found f.number) x w in (f, (refl, (r.0, r.1)))

  edits_for : (number : ℕ) (t : Table) (x : Edit) → In x (edits_from found order number t) → IsFor number t x
  unfolding edits_from
  edits_for number [] x w = absurd w
  edits_for number (e ∷ t) x w = elim (in_both x (option_map_or (edit_in found order) (kept_in number e) []) (edits_from found order (number + 1) t) w) [
    | inl here ↦
        let r = for_file (kept_in number e) x here in
        record { place = 0; entry = e; at = refl; file = r.0; kept = ap (λ (n : ℕ). kept_in n e) (omega arith) ∙ r.1.0; some = r.1.1.0; is = r.1.1.1 }
    | inr later ↦
        let r : IsFor (number + 1) t x = edits_for (number + 1) t x later in
        record {
          place = suc r.place;
          entry = r.entry;
          at = r.at;
          file = r.file;
          kept = ap (λ (n : ℕ). kept_in n r.entry) (omega arith) ∙ r.kept;
          some = r.some;
          is = r.is;
        }
  ]

  there_lists : (f : KeptValue) (ls : List (List ℕ)) → (ls ≡ [] → ⊥) → In (edit f.path (new_bytes order ls f) (length ls)) (edit_for order f ls)
  there_lists f [] some = absurd (some refl)
  there_lists f (l ∷ ls) some = inl refl

  edits_there : (number place : ℕ) (t : Table) (e : Entry) (f : KeptValue) → slice_get t place ≡ Some e → kept_in (number + place) e ≡ Some f
      → (lists_in found f.number ≡ [] → ⊥)
      → In (edit f.path (new_bytes order (lists_in found f.number) f) (length (lists_in found f.number))) (edits_from found order number t)
  unfolding edits_from
  edits_there number place [] e f at kept some = absurd (none-some e at)
  edits_there number zero (x ∷ t) e f at kept some =
      let is : kept_in number x ≡ Some f = ap (λ (y : Entry). kept_in number y) (same_Some x e at) ∙ (ap (λ (n : ℕ). kept_in n e) (omega arith) ∙ kept) in
      let mine : Edit = edit f.path (new_bytes order (lists_in found f.number) f) (length (lists_in found f.number)) in
      in_first mine (option_map_or (edit_in found order) (kept_in number x) []) (edits_from found order (number + 1) t)
      (subst (λ (o : Option KeptValue). In mine (option_map_or (edit_in found order) o [])) (sym is) (there_lists f (lists_in found f.number) some))
  edits_there number (suc place) (x ∷ t) e f at kept some =
      in_second (edit f.path (new_bytes order (lists_in found f.number) f) (length (lists_in found f.number))) (option_map_or (edit_in found order) (kept_in number x) [])
      (edits_from found order (number + 1) t)
      (edits_there (number + 1) place t e f at (ap (λ (n : ℕ). kept_in n e) (omega arith) ∙ kept) some)

  path_kept : (number : ℕ) (e : Entry) (f : KeptValue) → kept_in number e ≡ Some f → (e.path ≡ f.path) × (f.number ≡ number)
  path_kept number e f kept = by (kept_bytes e.found) kept
    where
      by : (r : Option (List ℕ)) → option_map (λ bytes. record { number = number; path = e.path; bytes = bytes }) r ≡ Some f → (e.path ≡ f.path) × (f.number ≡ number)
      by None h = absurd (none-some f h)
      by (Some bytes) h =
          let is = same_Some (record { number = number; path = e.path; bytes = bytes }) f h in
          (ap (λ (g : KeptValue). g.path) is, ap (λ (g : KeptValue). g.number) (sym is))

  own_paths : (number : ℕ) (t : Table) → HasEachOnce t → HaveOwnPaths (edits_from found order number t)
  unfolding edits_from HaveOwnPaths AreApart
  own_paths number [] once = tt
  own_paths number (e ∷ t) once = front (own_paths (number + 1) t ((and_parts (not (list_any (bytes_eq e.path) (paths_in t))) _ once).1)) (kept_in number e) refl
    where
      apart : (f : KeptValue) → kept_in number e ≡ Some f → (d : Edit) → In d (edits_from found order (number + 1) t) → bytes_eq f.path d.path ≡ false
      apart f kept d w = elim (cases_Bool (bytes_eq f.path d.path)) [
        | inl same ↦
            let r : IsFor (number + 1) t d = edits_for (number + 1) t d w in
            let p = path_kept (number + 1 + r.place) r.entry r.file r.kept in
            let q = path_kept number e f kept in
            let here : r.entry.path ≡ e.path = p.0 ∙ (ap (λ (x : Edit). x.path) r.is ∙ (sym (bytes_eq-equal f.path d.path same) ∙ sym q.0)) in
            let first : number_of e.path (e ∷ t) ≡ 0 = number_path (e ∷ t) 0 e once refl in
            let other : number_of r.entry.path (e ∷ t) ≡ suc r.place = number_path (e ∷ t) (suc r.place) r.entry once r.at in
            let wrong : number_of e.path (e ∷ t) ≡ suc r.place = ap (λ (x : List ℕ). number_of x (e ∷ t)) (sym here) ∙ other in
            absurd (omega (arith, first, wrong))
        | inr differs ↦ differs
      ]

      one : HaveOwnPaths (edits_from found order (number + 1) t) → (f : KeptValue) (ls : List (List ℕ)) → kept_in number e ≡ Some f
          → HaveOwnPaths (edit_for order f ls ++ edits_from found order (number + 1) t)
      one behind f [] kept = behind
      one behind f (l ∷ ls) kept = (λ d w. apart f kept d w, behind)

      front : HaveOwnPaths (edits_from found order (number + 1) t) → (o : Option KeptValue) → kept_in number e ≡ o
          → HaveOwnPaths (option_map_or (edit_in found order) o [] ++ edits_from found order (number + 1) t)
      front behind None kept = behind
      front behind (Some f) kept = one behind f (lists_in found f.number) kept

-- ---- The edits

-- The edits of a new order put the items of all lists in it, and nothing else, where each path has one number, and files that hold
-- lists had the bytes that were read.
pub edits_reorder_files : (a : AnalysisValue) (members : List Part) (order : List ℕ) (before now : Source) → HasEachOnce a.table
    → ((f : KeptValue) → HoldsLists a members f → before f.path ≡ Some f.bytes) → AreMade (edits_of members a order) before now
    → AreReordered members order a before now
unfolding edits_of
edits_reorder_files a members order before now once held made =
    record {
      edited = λ f holds.
          let x = kept_entry a.table f.number f holds.kept in
          let kept : kept_in (0 + f.number) x.one ≡ Some f =
          ap (λ (n : ℕ). kept_in n x.one) (omega arith) ∙ (ap (λ (o : Option Entry). option_and_then (kept_in f.number) o) (sym x.there) ∙ holds.kept) in
          let mine : Edit = edit f.path (new_bytes order (lists_in (all_found members a) f.number) f) (length (lists_in (all_found members a) f.number)) in
          let there : In mine (with_each (edits_from (all_found members a) order 0 a.table) []) =
          each_there mine (edits_from (all_found members a) order 0 a.table) [] (own_paths (all_found members a) order 0 a.table once)
          (edits_there (all_found members a) order 0 f.number a.table x.one f x.there kept holds.some) in
          (let among : IsAmong (edits_of members a order) mine = among_of mine (edits_of members a order) there in (held f holds, made.each among.0 mine among.1));
      others = λ path apart. made.others path (λ k e at. other path apart e (k, at));
    }
  where
    other : (path : List ℕ) → ((f : KeptValue) → HoldsLists a members f → f.path ≢ path) → (e : Edit) → IsAmong (edits_of members a order) e → bytes_eq e.path path ≡ false
    other path apart e among = elim (cases_Bool (bytes_eq e.path path)) [
      | inl same ↦
          let w : In e (with_each (edits_from (all_found members a) order 0 a.table) []) = in_of e (edits_of members a order) among.0 among.1 in
          absurd (elim (each_from e (edits_from (all_found members a) order 0 a.table) [] w) [
            | inl v ↦
                let r = edits_for (all_found members a) order 0 a.table e v in
                let p = path_kept (all_found members a) order (0 + r.place) r.entry r.file r.kept in
                let number : r.file.number ≡ r.place = p.1 ∙ omega arith in
                let kept : kept_at a.table r.file.number ≡ Some r.file =
                ap (kept_at a.table) number
                ∙ (ap (λ (o : Option Entry). option_and_then (kept_in r.place) o) r.at ∙ (ap (λ (n : ℕ). kept_in n r.entry) (omega arith) ∙ r.kept)) in
                apart r.file (record { kept = kept; some = r.some }) (ap (λ (x : Edit). x.path) r.is ∙ bytes_eq-equal e.path path same)
            | inr none ↦ none
          ])
      | inr differs ↦ differs
    ]
