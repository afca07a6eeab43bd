-- Tables of files, and what is looked for in them, as they were and edited.
use Rattle.std.proofs.Common.{◌≡◌, ℕ, zero, suc, ◌+◌, Bool, true, false, cond, List, [], ◌∷◌, ◌++◌, length, Option, None, Some, is_some, refl, sym, ◌∙◌, ap, subst, inl, inr}
use Rattle.std.specs.Prelude.{slice_get}
use Rattle.std.specs.Option.{option_map}
use Rattle.std.specs.Str.{bytes_eq}
use Rattle.std.proofs.lemmas.Bool.{cases_Bool}
use Rattle.std.proofs.lemmas.List.{map-append}
use Rattle.std.proofs.lemmas.Option.{none-some, same_Some}
use Rattle.cs_base.proofs.FileMapLemmas.{bytes_eq-equal}
use Rattle.source_files.specs.Files.{Source, SourceFile, Found, Lines, Absent, Unopened, Opened, Made, Entry, entry, Table, is_made, made_path, number_of, found_at, found_in, numbered, asked, opened, opened_bytes, one_more, more_bytes, files_opened, bytes_opened}
use Rattle.source_files.specs.Search.{Searched, searched, search, search_on}
use Rattle.source_files.specs.Tables.{Becomes, IsGrown, IsFound, AreFound}
use Rattle.lexer.specs.FileText.{TextValue}
use Rattle.unit_laws.specs.Walking.{IsEdited}
use Rattle.unit_laws.specs.Edited.{Edit, edited_found, edited_entry, edited_files, edited_source, IsEditedSource}

-- ---- what a path stands for

pub number_edited : (edit : Edit) (path : List ℕ) (t : Table) → number_of path (edited_files edit t) ≡ number_of path t
number_edited edit path [] = refl
number_edited edit path (e ∷ t) = elim (cases_Bool (bytes_eq path e.path)) [
  | inl same ↦ rw same refl
  | inr other ↦ rw (other, number_edited edit path t) refl
]

pub found_edited : (edit : Edit) (path : List ℕ) (t : Table) → found_at path (edited_files edit t) ≡ option_map (edited_found (edit path)) (found_at path t)
unfolding found_at
found_edited edit path [] = refl
found_edited edit path (e ∷ t) = elim (cases_Bool (bytes_eq path e.path)) [
  | inl same ↦ rw same (ap (λ (p : List ℕ). Some (edited_found (edit p) e.found)) (sym (bytes_eq-equal path e.path same)))
  | inr other ↦ rw other (found_edited edit path t)
]

some_edited : (one : List ℕ → List ℕ) (o : Option Found) → is_some (option_map (edited_found one) o) ≡ is_some o
some_edited one None = refl
some_edited one (Some f) = refl

pub numbered_edited : (edit : Edit) (path : List ℕ) (f : Found) (t : Table) → edited_files edit (numbered path f t) ≡ numbered path (edited_found (edit path) f) (edited_files edit t)
numbered_edited edit path f t = map-append (edited_entry edit) t (entry path f ∷ [])

-- ---- pseudo files

is_made-edited : (one : List ℕ → List ℕ) (text : List ℕ) (f : Found) → is_made text (edited_found one f) ≡ is_made text f
is_made-edited one text Lines = refl
is_made-edited one text Absent = refl
is_made-edited one text (Unopened bytes) = refl
is_made-edited one text (Opened bytes) = refl
is_made-edited one text (Made bytes) = refl

-- they stay, so the first with a text does
pub made_edited : (edit : Edit) (text : List ℕ) (t : Table) → made_path text (edited_files edit t) ≡ made_path text t
unfolding made_path
made_edited edit text [] = refl
made_edited edit text (e ∷ t) = rw (is_made-edited (edit e.path) text e.found) (rw (made_edited edit text t) refl)

-- ---- a path that is asked for

read_edited : (one : List ℕ → List ℕ) (o : Option (List ℕ)) → found_in (option_map one o) ≡ edited_found one (found_in o)
read_edited one None = refl
read_edited one (Some bytes) = refl

asked_by : (edit : Edit) (old : Source) (path : List ℕ) (t : Table) (b : Bool)
    → cond b (edited_files edit t) (numbered path (found_in (edited_source edit old path)) (edited_files edit t)) ≡ edited_files edit (cond b t (numbered path (found_in (old path)) t))
asked_by edit old path t true = refl
asked_by edit old path t false =
    ap (λ (f : Found). numbered path f (edited_files edit t)) (read_edited (edit path) (old path)) ∙ sym (numbered_edited edit path (found_in (old path)) t)

-- a path that is asked for
pub asked_edited : (edit : Edit) (old new : Source) → IsEditedSource edit old new → (path : List ℕ) (t : Table) → asked new path (edited_files edit t) ≡ edited_files edit (asked old path t)
asked_edited edit old new news path t =
    ap (λ (o : Option (List ℕ)). cond (is_some (found_at path (edited_files edit t))) (edited_files edit t) (numbered path (found_in o) (edited_files edit t))) (news path)
    ∙ ap (λ (b : Bool). cond b (edited_files edit t) (numbered path (found_in (edited_source edit old path)) (edited_files edit t)))
    (ap (λ (o : Option Found). is_some o) (found_edited edit path t) ∙ some_edited (edit path) (found_at path t))
    ∙ asked_by edit old path t (is_some (found_at path t))

-- ---- files that are opened

pub opened_edited : (edit : Edit) (path bytes : List ℕ) (t : Table) → opened path (edit path bytes) (edited_files edit t) ≡ edited_files edit (opened path bytes t)
unfolding opened
opened_edited edit path bytes [] = refl
opened_edited edit path bytes (e ∷ t) = elim (cases_Bool (bytes_eq path e.path)) [
  | inl same ↦ rw same refl
  | inr other ↦ rw other (ap (λ (l : Table). edited_entry edit e ∷ l) (opened_edited edit path bytes t))
]

pub number_opened : (path bytes : List ℕ) (t : Table) → number_of path (opened path bytes t) ≡ number_of path t
unfolding opened
number_opened path bytes [] = refl
number_opened path bytes (e ∷ t) = elim (cases_Bool (bytes_eq path e.path)) [
  | inl same ↦ rw same (let here : bytes_eq path path ≡ true = subst (λ (p : List ℕ). bytes_eq path p ≡ true) (sym (bytes_eq-equal path e.path same)) same in rw here refl)
  | inr other ↦ rw other (rw (other, number_opened path bytes t) refl)
]

one_edited : (one : List ℕ → List ℕ) (f : Found) (n : ℕ) → one_more (opened_bytes (edited_found one f)) n ≡ one_more (opened_bytes f) n
one_edited one Lines n = refl
one_edited one Absent n = refl
one_edited one (Unopened bytes) n = refl
one_edited one (Opened bytes) n = refl
one_edited one (Made bytes) n = refl

pub files_edited : (edit : Edit) (t : Table) → files_opened (edited_files edit t) ≡ files_opened t
unfolding files_opened
files_edited edit [] = refl
files_edited edit (e ∷ t) = one_edited (edit e.path) e.found (files_opened (edited_files edit t)) ∙ ap (one_more (opened_bytes e.found)) (files_edited edit t)

more_edited : (old : Source) (path : List ℕ) (one : List ℕ → List ℕ) → ((bytes : List ℕ) → old path ≡ Some bytes → length (one bytes) ≡ length bytes) → (f : Found) (n : ℕ) → IsFound old path f → more_bytes (opened_bytes (edited_found one f)) n ≡ more_bytes (opened_bytes f) n
more_edited old path one sizes Lines n held = refl
more_edited old path one sizes Absent n held = refl
more_edited old path one sizes (Unopened bytes) n held = refl
more_edited old path one sizes (Opened bytes) n held = ap (λ (k : ℕ). n + k) (sizes bytes held)
more_edited old path one sizes (Made bytes) n held = refl

pub bytes_edited : (edit : Edit) (old : Source) → ((path bytes : List ℕ) → old path ≡ Some bytes → length (edit path bytes) ≡ length bytes) → (t : Table) → AreFound old t → bytes_opened (edited_files edit t) ≡ bytes_opened t
unfolding bytes_opened
bytes_edited edit old sizes [] all = refl
bytes_edited edit old sizes (e ∷ t) all =
    more_edited old e.path (edit e.path) (sizes e.path) e.found (bytes_opened (edited_files edit t)) all.0 ∙ ap (more_bytes (opened_bytes e.found)) (bytes_edited edit old sizes t all.1)

-- ---- searching

abbrev anew : Edit → Searched → Searched
anew edit d = searched d.path (edited_files edit d.table)

on_edited : (edit : Edit) (one : List ℕ → List ℕ) (path : List ℕ) (t : Table) (rest rest2 : Table → Searched) (o : Option Found)
    → rest2 (edited_files edit t) ≡ anew edit (rest t)
    → search_on path (edited_files edit t) rest2 (option_map (edited_found one) o) ≡ anew edit (search_on path t rest o)
on_edited edit one path t rest rest2 None h = h
on_edited edit one path t rest rest2 (Some Lines) h = h
on_edited edit one path t rest rest2 (Some Absent) h = h
on_edited edit one path t rest rest2 (Some (Unopened bytes)) h = refl
on_edited edit one path t rest rest2 (Some (Opened bytes)) h = refl
on_edited edit one path t rest rest2 (Some (Made bytes)) h = refl

pub search_edited : (edit : Edit) (old new : Source) → IsEditedSource edit old new → (paths : List (List ℕ)) (t : Table)
    → search new paths (edited_files edit t) ≡ searched (search old paths t).path (edited_files edit (search old paths t).table)
unfolding search
search_edited edit old new news [] t = refl
search_edited edit old new news (path ∷ paths) t =
    let u : Table = asked old path t in
    ap (λ (v : Table). search_on path v (search new paths) (found_at path v)) (asked_edited edit old new news path t)
    ∙ ap (search_on path (edited_files edit u) (search new paths)) (found_edited edit path u)
    ∙ on_edited edit (edit path) path u (search old paths) (search new paths) (found_at path u) (search_edited edit old new news paths u)

-- ---- what the source holds

-- what a path stands for is what the source holds
pub found_is : (old : Source) (path : List ℕ) (f : Found) (t : Table) → AreFound old t → found_at path t ≡ Some f → IsFound old path f
unfolding found_at
found_is old path f [] all is = absurd (none-some f is)
found_is old path f (e ∷ t) all is =
    let at : cond (bytes_eq path e.path) (Some e.found) (found_at path t) ≡ Some f = is in
    elim (cases_Bool (bytes_eq path e.path)) [
      | inl same ↦
          let here : e.found ≡ f = same_Some e.found f (rw same at at) in
          subst (λ (g : Found). IsFound old path g) here (subst (λ (p : List ℕ). IsFound old p e.found) (sym (bytes_eq-equal path e.path same)) all.0)
      | inr other ↦ found_is old path f t all.1 (rw other at at)
    ]

pub found_more : (old : Source) (path bytes : List ℕ) (t : Table) → AreFound old t → AreFound old (numbered path (Made bytes) t)
found_more old path bytes [] all = (tt, tt)
found_more old path bytes (e ∷ t) all = (all.0, found_more old path bytes t all.1)

-- ---- tables that grow

-- what a file that was opened or made stands for stays
entry_stays : (t u : Table) (n : ℕ) (path : List ℕ) (f : Found) → ((bytes : List ℕ) → f ≡ Unopened bytes → ⊥) → IsGrown t u → slice_get t n ≡ Some (entry path f) → slice_get u n ≡ Some (entry path f)
entry_stays [] u n path f read grown at = absurd (none-some (entry path f) at)
entry_stays (e ∷ t) [] n path f read grown at = absurd grown
entry_stays (e ∷ t) (g ∷ u) (suc n) path f read grown at = entry_stays t u n path f read grown.2 at
entry_stays (e ∷ t) (g ∷ u) zero path f read grown at =
    let same : e ≡ entry path f = same_Some e (entry path f) at in
    let path_is : g.path ≡ path = grown.0 ∙ ap (λ (x : Entry). x.path) same in
    let old_is : e.found ≡ f = ap (λ (x : Entry). x.found) same in
    ap (λ (p : List ℕ). Some (entry p g.found)) path_is ∙ ap (λ (x : Found). Some (entry path x)) (found_stays e.found g.found old_is grown.1)
  where
    found_stays : (x y : Found) → x ≡ f → Becomes x y → y ≡ f
    found_stays x y is (inl same) = same ∙ is
    found_stays x y is (inr more) = absurd (read more.0 (sym is ∙ more.1))

pub edited_grown : (edit : Edit) (old : Source) (t u : Table) (file : SourceFile) (text : TextValue) → IsGrown t u → IsEdited edit old t file text → IsEdited edit old u file text
edited_grown edit old t u file text grown (inl h) = inl (h.0, entry_stays t u file.number file.path (Opened h.0) (λ bytes e. absurd cc) grown h.1, h.2, h.3, h.4)
edited_grown edit old t u file text grown (inr h) = inr (h.0, entry_stays t u file.number file.path (Made h.0) (λ bytes e. absurd cc) grown h.1, h.2, h.3)

pub grown_more : (t u : Table) → IsGrown t (t ++ u)
grown_more [] u = tt
grown_more (e ∷ t) u = (refl, inl refl, grown_more t u)
