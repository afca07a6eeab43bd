-- A map whose keys are found by their spellings, as a table.
use Rattle.std.proofs.Common.{◌≡◌, ℕ, Bool, false, cond, List, [], ◌∷◌, map, Option, Some, None, refl, sym, ◌∙◌, ap, subst, inl, inr}
use Rattle.std.specs.List.{AllByRecursion, IsDistinct}
use Rattle.std.specs.Map.{lookup, keys_of, update_all, KeepsOthers}
use Rattle.std.specs.Str.{bytes_eq}
use Rattle.std.proofs.lemmas.Bool.{cases_Bool}
use Rattle.std.proofs.lemmas.Cmp.{nat_list_eq_equiv}
use Rattle.std.proofs.lemmas.Map.Made.{update_all_none}
use Rattle.cs_base.proofs.FileMapLemmas.{bytes_eq-equal}
use Rattle.macro_body.specs.declared.definitions.Definition.{Definition}
use Rattle.macro_body.specs.Live.{table_of, no_macro, with_macro, without_macro}
use Rattle.macro_body.specs.Macro.{Table}

-- entries with their keys spelled
abbrev pub spelled_entries : {K X : Type 0} → (K → List ℕ) → List (K × X) → List (List ℕ × X)
spelled_entries spelling es = map (λ e. (spelling e.0, e.1)) es

pub lookup-spelled : {K X : Type 0} (spelling : K → List ℕ) (test : List ℕ → Bool) (es : List (K × X))
    → lookup (λ k. test (spelling k)) es ≡ lookup test (spelled_entries spelling es)
lookup-spelled spelling test [] = refl
lookup-spelled spelling test (e ∷ es) = ap (λ rest. cond (test (spelling e.0)) (Some e.1) rest) (lookup-spelled spelling test es)

-- a look-up by spelling after a change at one spelling
lookup-changed : {K X : Type 0} (spelling : K → List ℕ) (at : List ℕ) (w : Option X) (old new : List (K × X))
    → KeepsOthers (λ x y. bytes_eq (spelling x) (spelling y)) (λ k. bytes_eq at (spelling k)) old new
    → lookup (λ k. bytes_eq at (spelling k)) new ≡ w → (name : List ℕ)
    → lookup (λ k. bytes_eq name (spelling k)) new ≡ cond (bytes_eq name at) w (lookup (λ k. bytes_eq name (spelling k)) old)
unfolding KeepsOthers
lookup-changed spelling at w old new kept now name =
    elim (cases_Bool (bytes_eq name at)) [
      | inl same ↦
          rw same (subst (λ (n : List ℕ). lookup (λ k. bytes_eq n (spelling k)) new ≡ w) (sym (bytes_eq-equal name at same)) now)
      | inr other ↦
          rw other
          (kept (λ k. bytes_eq name (spelling k))
          (λ x y h. ap (λ (n : List ℕ). bytes_eq n (spelling y)) (bytes_eq-equal name (spelling x) h))
          (λ k h. subst (λ (n : List ℕ). bytes_eq name n ≡ false) (bytes_eq-equal at (spelling k) h) other))
    ]

-- the table after a change at one spelling
table-defined-at : {K : Type 0} (spelling : K → List ℕ) (m : Definition) (at : List ℕ) (old new : List (K × Definition)) → at ≡ m.name.text
    → KeepsOthers (λ x y. bytes_eq (spelling x) (spelling y)) (λ k. bytes_eq at (spelling k)) old new
    → lookup (λ k. bytes_eq at (spelling k)) new ≡ Some m → (name : List ℕ)
    → table_of (spelled_entries spelling new) name ≡ with_macro m (table_of (spelled_entries spelling old)) name
table-defined-at spelling m at old new named kept now name =
    sym (lookup-spelled spelling (bytes_eq name) new) ∙ lookup-changed spelling at (Some m) old new kept now name
    ∙ rw named (ap (λ rest. cond (bytes_eq name m.name.text) (Some m) rest) (lookup-spelled spelling (bytes_eq name) old))

pub table-defined : {K : Type 0} (spelling : K → List ℕ) (m : Definition) (at : List ℕ) (old new : List (K × Definition)) → at ≡ m.name.text
    → KeepsOthers (λ x y. bytes_eq (spelling x) (spelling y)) (λ k. bytes_eq at (spelling k)) old new
    → lookup (λ k. bytes_eq at (spelling k)) new ≡ Some m
    → table_of (spelled_entries spelling new) ≡ with_macro m (table_of (spelled_entries spelling old))
table-defined spelling m at old new named kept now =
    λ i name. table-defined-at spelling m at old new named kept now name i

table-undefined-at : {K : Type 0} (spelling : K → List ℕ) (gone : List ℕ) (old new : List (K × Definition))
    → KeepsOthers (λ x y. bytes_eq (spelling x) (spelling y)) (λ k. bytes_eq gone (spelling k)) old new
    → lookup (λ k. bytes_eq gone (spelling k)) new ≡ None → (name : List ℕ)
    → table_of (spelled_entries spelling new) name ≡ without_macro gone (table_of (spelled_entries spelling old)) name
table-undefined-at spelling gone old new kept now name =
    sym (lookup-spelled spelling (bytes_eq name) new) ∙ lookup-changed spelling gone None old new kept now name
    ∙ ap (λ rest. cond (bytes_eq name gone) None rest) (lookup-spelled spelling (bytes_eq name) old)

pub table-undefined : {K : Type 0} (spelling : K → List ℕ) (gone : List ℕ) (old new : List (K × Definition))
    → KeepsOthers (λ x y. bytes_eq (spelling x) (spelling y)) (λ k. bytes_eq gone (spelling k)) old new
    → lookup (λ k. bytes_eq gone (spelling k)) new ≡ None
    → table_of (spelled_entries spelling new) ≡ without_macro gone (table_of (spelled_entries spelling old))
table-undefined spelling gone old new kept now =
    λ i name. table-undefined-at spelling gone old new kept now name i

-- ---- entries that are put in one after the other

-- a table, with these definitions put in
abbrev pub with_entries : List (List ℕ × Definition) → Table → Table
with_entries es table = update_all (λ key name. bytes_eq name key) table es

-- the table after one of them is put in
pub table-put : {K : Type 0} (spelling : K → List ℕ) (m : Definition) (at : List ℕ) (old new : List (K × Definition))
    → KeepsOthers (λ x y. bytes_eq (spelling x) (spelling y)) (λ k. bytes_eq at (spelling k)) old new
    → lookup (λ k. bytes_eq at (spelling k)) new ≡ Some m
    → table_of (spelled_entries spelling new) ≡ with_entries ((at, m) ∷ []) (table_of (spelled_entries spelling old))
table-put spelling m at old new kept now = λ i name. one name i
  where
    one : (name : List ℕ) → table_of (spelled_entries spelling new) name ≡ cond (bytes_eq name at) (Some m) (table_of (spelled_entries spelling old) name)
    one name =
        sym (lookup-spelled spelling (bytes_eq name) new) ∙ lookup-changed spelling at (Some m) old new kept now name
        ∙ ap (λ rest. cond (bytes_eq name at) (Some m) rest) (lookup-spelled spelling (bytes_eq name) old)

-- the other names stand under other spellings
apart-spelled : {K : Type 0} (spelling : K → List ℕ) (key : K) (es : List (K × Definition))
    → AllByRecursion (λ k. bytes_eq (spelling key) (spelling k) ≡ false) (keys_of es)
    → AllByRecursion (λ name. bytes_eq (spelling key) name ≡ false) (keys_of (spelled_entries spelling es))
apart-spelled spelling key [] h = tt
apart-spelled spelling key (e ∷ es) h = (h.0, apart-spelled spelling key es h.1)

distinct-spelled : {K : Type 0} (spelling : K → List ℕ) (es : List (K × Definition)) → IsDistinct (λ x y. bytes_eq (spelling x) (spelling y)) (keys_of es)
    → IsDistinct bytes_eq (keys_of (spelled_entries spelling es))
unfolding IsDistinct
distinct-spelled spelling [] h = tt
distinct-spelled spelling (e ∷ es) h = (apart-spelled spelling e.0 es h.0, distinct-spelled spelling es h.1)

-- the entries of a map, put in one after the other, give its table
pub table-entries : {K : Type 0} (spelling : K → List ℕ) (es : List (K × Definition)) → IsDistinct (λ x y. bytes_eq (spelling x) (spelling y)) (keys_of es)
    → with_entries (spelled_entries spelling es) no_macro ≡ table_of (spelled_entries spelling es)
table-entries spelling es distinct = λ i name. one name i
  where
    one : (name : List ℕ) → with_entries (spelled_entries spelling es) no_macro name ≡ table_of (spelled_entries spelling es) name
    one name =
        update_all_none nat_list_eq_equiv (λ key other. bytes_eq other key) (λ x y. nat_list_eq_equiv.symm y x) (spelled_entries spelling es) name (distinct-spelled spelling es distinct)

-- one of the entries that are left is put in
pub entries-more : {K : Type 0} (spelling : K → List ℕ) (m : Definition) (key : K) (old new : List (K × Definition)) (e : K × Definition) (left more : List (K × Definition)) (all : Table)
    → KeepsOthers (λ x y. bytes_eq (spelling x) (spelling y)) (λ k. bytes_eq (spelling key) (spelling k)) old new
    → lookup (λ k. bytes_eq (spelling key) (spelling k)) new ≡ Some m → left ≡ e ∷ more → spelling key ≡ spelling e.0 → m ≡ e.1
    → with_entries (spelled_entries spelling left) (table_of (spelled_entries spelling old)) ≡ all
    → with_entries (spelled_entries spelling more) (table_of (spelled_entries spelling new)) ≡ all
entries-more {K = K} spelling m key old new e left more all kept now is same token before =
    ap (with_entries (spelled_entries spelling more)) (table-put spelling m (spelling key) old new kept now)
    ∙ (λ i. with_entries ((same i, token i) ∷ spelled_entries spelling more) (table_of (spelled_entries spelling old)))
    ∙ ap (λ (es : List (K × Definition)). with_entries (spelled_entries spelling es) (table_of (spelled_entries spelling old))) (sym is) ∙ before

-- before the first of them, and behind the last
pub entries-begin : {K : Type 0} (spelling : K → List ℕ) (none left all : List (K × Definition)) → none ≡ [] → left ≡ all
    → IsDistinct (λ x y. bytes_eq (spelling x) (spelling y)) (keys_of all)
    → with_entries (spelled_entries spelling left) (table_of (spelled_entries spelling none)) ≡ table_of (spelled_entries spelling all)
entries-begin {K = K} spelling none left all empty whole distinct =
    ap (λ (es : List (K × Definition)). with_entries (spelled_entries spelling left) (table_of (spelled_entries spelling es))) empty
    ∙ ap (λ (es : List (K × Definition)). with_entries (spelled_entries spelling es) no_macro) whole ∙ table-entries spelling all distinct

pub entries-end : {K : Type 0} (spelling : K → List ℕ) (left : List (K × Definition)) (table all : Table) → left ≡ [] → with_entries (spelled_entries spelling left) table ≡ all → table ≡ all
entries-end {K = K} spelling left table all is h = ap (λ (es : List (K × Definition)). with_entries (spelled_entries spelling es) table) (sym is) ∙ h
