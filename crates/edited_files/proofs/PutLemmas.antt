-- What paths hold once edits are put: these and those before them.
use Rattle.std.proofs.Common.{◌≡◌, ◌≤◌, ◌<◌, ◌+◌, ℕ, zero, suc, false, if◌then◌else◌, List, [], ◌∷◌, IsTrue, length, drop, get_or, inl, inr, refl, sym, subst, ◌∙◌, add-one, arith}
use Rattle.std.specs.Prelude.{Option, Some, None, All, IfSome, slice_get}
use Rattle.std.specs.Str.{bytes_eq}
use Rattle.std.proofs.lemmas.Bool.{cases_Bool}
use Rattle.std.proofs.lemmas.List.Elements.{All-head, All-tail}
use Rattle.std.proofs.lemmas.List.{drop_all}
use Rattle.std.proofs.lemmas.Option.{none-some, same_Some}
use Rattle.cs_base.specs.Edit.{Edit, edit, comes_before, are_in_order, with_edits}
use Rattle.cs_base.specs.Outside.{FileMap, bytes_at, with_file}
use Rattle.cs_base.proofs.FileMapLemmas.{bytes_eq-same, bytes_eq-equal, bytes_at-with_file_other, bytes_at-with_edits, comes_before-apart, comes_before-are_in_order, are_in_order-tail}
use Rattle.edited_files.specs.Edited.{ArePut, with_edit, with_each}
use Rattle.edited_files.proofs.OrderLemmas.{before-apart, order_with}

-- ---- what a path holds once edits are put

-- the new bytes of a path, if an edit has it
unfoldable edit_at : List ℕ → List Edit → Option (List ℕ)
edit_at path [] = None
edit_at path (e ∷ edits) = if bytes_eq e.path path then Some e.bytes else edit_at path edits

-- its new bytes where an edit has it
edit_there : (path bytes : List ℕ) (es : List Edit) (fs : FileMap) → IsTrue (are_in_order es) → edit_at path es ≡ Some bytes
    → bytes_at path (with_edits es fs) ≡ Some bytes
unfolding edit_at
edit_there path bytes [] fs sorted at = absurd (none-some bytes at)
edit_there path bytes (e ∷ es) fs sorted at = elim (cases_Bool (bytes_eq e.path path)) [
  | inl same ↦
      let here : Some e.bytes ≡ Some bytes = rw same at at in
      subst (λ (p : List ℕ). bytes_at p (with_edits (e ∷ es) fs) ≡ Some bytes) (bytes_eq-equal e.path path same)
      (bytes_at-with_edits (e ∷ es) fs 0 e sorted (omega arith) ∙ here)
  | inr other ↦ edit_there path bytes es (with_file e.path e.bytes fs) (are_in_order-tail e es sorted) (rw other at at)
]

-- what it held where none has it
edit_nowhere : (path : List ℕ) (es : List Edit) (fs : FileMap) → edit_at path es ≡ None → bytes_at path (with_edits es fs) ≡ bytes_at path fs
unfolding edit_at
edit_nowhere path [] fs at = refl
edit_nowhere path (e ∷ es) fs at = elim (cases_Bool (bytes_eq e.path path)) [
  | inl same ↦ absurd (none-some e.bytes (sym (rw same at at)))
  | inr other ↦ edit_nowhere path es (with_file e.path e.bytes fs) (rw other at at) ∙ bytes_at-with_file_other e.path path e.bytes fs other
]

same_edit : (path : List ℕ) (es other : List Edit) (fs : FileMap) (o : Option (List ℕ)) → edit_at path es ≡ o → edit_at path other ≡ o → IsTrue (are_in_order es)
    → IsTrue (are_in_order other) → bytes_at path (with_edits es fs) ≡ bytes_at path (with_edits other fs)
same_edit path es other fs None e f sorted sorted' = edit_nowhere path es fs e ∙ sym (edit_nowhere path other fs f)
same_edit path es other fs (Some bytes) e f sorted sorted' = edit_there path bytes es fs sorted e ∙ sym (edit_there path bytes other fs sorted' f)

-- ---- one edit more

-- its path has its bytes
edit_at-with_here : (e : Edit) (es : List Edit) → edit_at e.path (with_edit e es) ≡ Some e.bytes
unfolding edit_at with_edit
edit_at-with_here e [] = rw (bytes_eq-same e.path) refl
edit_at-with_here e (d ∷ es) = elim (cases_Bool (comes_before d.path e.path)) [
  | inl first ↦ rw first (rw (before-apart d.path e.path first) (edit_at-with_here e es))
  | inr later ↦ elim (cases_Bool (bytes_eq d.path e.path)) [
    | inl same ↦ rw later (rw same (rw (bytes_eq-same e.path) refl))
    | inr other ↦ rw later (rw other (rw (bytes_eq-same e.path) refl))
  ]
]

-- every other path has what it had
edit_at-with_other : (e : Edit) (es : List Edit) (path : List ℕ) → bytes_eq e.path path ≡ false → edit_at path (with_edit e es) ≡ edit_at path es
unfolding edit_at with_edit
edit_at-with_other e [] path apart = rw apart refl
edit_at-with_other e (d ∷ es) path apart = elim (cases_Bool (comes_before d.path e.path)) [
  | inl first ↦ rw first (elim (cases_Bool (bytes_eq d.path path)) [
    | inl here ↦ rw here refl
    | inr there ↦ rw there (edit_at-with_other e es path apart)
  ])
  | inr later ↦ elim (cases_Bool (bytes_eq d.path e.path)) [
    | inl same ↦
        let apart' : bytes_eq d.path path ≡ false = subst (λ (p : List ℕ). bytes_eq p path ≡ false) (sym (bytes_eq-equal d.path e.path same)) apart in
        rw later (rw same (rw (apart, apart') refl))
    | inr other ↦ rw later (rw other (rw apart refl))
  ]
]

put_here : (e : Edit) (es : List Edit) (fs : FileMap) → IsTrue (are_in_order es) → bytes_at e.path (with_edits (with_edit e es) fs) ≡ Some e.bytes
put_here e es fs sorted = edit_there e.path e.bytes (with_edit e es) fs (order_with e es sorted) (edit_at-with_here e es)

put_other : (e : Edit) (es : List Edit) (path : List ℕ) (fs : FileMap) → IsTrue (are_in_order es) → bytes_eq e.path path ≡ false
    → bytes_at path (with_edits (with_edit e es) fs) ≡ bytes_at path (with_edits es fs)
put_other e es path fs sorted apart =
    same_edit path (with_edit e es) es fs (edit_at path es) (edit_at-with_other e es path apart) refl (order_with e es sorted) sorted

-- ---- more edits

each_other : (new es : List Edit) (path : List ℕ) (fs : FileMap) → IsTrue (are_in_order es) → All (λ e. bytes_eq e.path path ≡ false) new
    → bytes_at path (with_edits (with_each new es) fs) ≡ bytes_at path (with_edits es fs)
unfolding with_each
each_other [] es path fs sorted apart = refl
each_other (e ∷ new) es path fs sorted apart =
    each_other new (with_edit e es) path fs (order_with e es sorted) (All-tail (λ (d : Edit). bytes_eq d.path path ≡ false) e new apart)
    ∙ put_other e es path fs sorted (All-head (λ (d : Edit). bytes_eq d.path path ≡ false) e new apart)

each_here : (new es : List Edit) (k : ℕ) (e : Edit) (fs : FileMap) → IsTrue (are_in_order new) → IsTrue (are_in_order es) → slice_get new k ≡ Some e
    → bytes_at e.path (with_edits (with_each new es) fs) ≡ Some e.bytes
unfolding with_each
each_here [] es k e fs ordered sorted at = absurd (none-some e at)
each_here (d ∷ new) es zero e fs ordered sorted at =
    let later = comes_before-are_in_order d new ordered in
    subst (λ (x : Edit). bytes_at x.path (with_edits (with_each (d ∷ new) es) fs) ≡ Some x.bytes) (same_Some d e at)
    (each_other new (with_edit d es) d.path fs (order_with d es sorted) (λ j x below. comes_before-apart d.path (get_or new j x).path (later j x below))
    ∙ put_here d es fs sorted)
each_here (d ∷ new) es (suc k) e fs ordered sorted at =
    each_here new (with_edit d es) k e fs (are_in_order-tail d new ordered) (order_with d es sorted) at

-- the edits are put over the files that those before left
pub put_each : (new es : List Edit) (fs : FileMap) → IsTrue (are_in_order new) → IsTrue (are_in_order es)
    → ArePut new (with_edits es fs) (with_edits (with_each new es) fs)
put_each new es fs ordered sorted = record {
  each = λ k e at. each_here new es k e fs ordered sorted at;
  others = λ path apart. each_other new es path fs sorted apart;
}

-- ---- edit by edit

each_next : (edits es : List Edit) (k : ℕ) (path bytes : List ℕ) (count : ℕ) → k < length edits → IfSome (slice_get edits k) (λ e. path ≡ e.path)
    → IfSome (slice_get edits k) (λ e. bytes ≡ e.bytes) → IfSome (slice_get edits k) (λ e. count ≡ e.count)
    → with_each (drop (suc k) edits) (with_edit (edit path bytes count) es) ≡ with_each (drop k edits) es
unfolding with_each
each_next [] es k path bytes count within p b n = absurd (omega arith)
each_next (e ∷ edits) es zero path bytes count within p b n = rw (p, b, n) refl
each_next (e ∷ edits) es (suc k) path bytes count within p b n =
    let within' : k < length edits = omega arith in
    each_next edits es k path bytes count within' p b n

-- the edits from one on are it and those behind it
pub with_each-next : (edits es : List Edit) (k : ℕ) (path bytes : List ℕ) (count : ℕ) → k < length edits → IfSome (slice_get edits k) (λ e. path ≡ e.path)
    → IfSome (slice_get edits k) (λ e. bytes ≡ e.bytes) → IfSome (slice_get edits k) (λ e. count ≡ e.count)
    → with_each (drop (k + 1) edits) (with_edit (edit path bytes count) es) ≡ with_each (drop k edits) es
with_each-next edits es k path bytes count within p b n = rw add-one (each_next edits es k path bytes count within p b n)

-- none is left
pub with_each-end : (edits es : List Edit) (k : ℕ) → length edits ≤ k → with_each (drop k edits) es ≡ es
unfolding with_each
with_each-end edits es k past = let none : drop k edits ≡ [] = drop_all k edits past in rw none refl
