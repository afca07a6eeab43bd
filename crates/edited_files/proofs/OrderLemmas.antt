-- Edits by path stay so where one more is put.
use Rattle.std.proofs.Common.{◌≡◌, ◌≤◌, ◌<◌, ◌+◌, ◌^◌, ℕ, zero, suc, true, false, List, [], ◌∷◌, IsTrue, length, take, get_or, inl, inr, refl, sym, ap, subst, ◌∙◌, arith}
use Rattle.std.specs.Prelude.{IsUtf8}
use Rattle.std.specs.Ordering.{nat_cmp, is_lt, is_eq, ordering_reverse}
use Rattle.std.specs.declared.cmp.Ordering.{Ordering}
use Rattle.std.specs.declared.cmp.Ordering.TheVariants.{Less, Equal, Greater}
use Rattle.std.specs.Cmp.Lexicographic.{slice_cmp}
use Rattle.std.specs.Str.{bytes_eq}
use Rattle.std.proofs.lemmas.Bool.{cases_Bool, and_from, and_parts}
use Rattle.std.proofs.lemmas.Cmp.{nat_list_cmp_total}
use Rattle.std.proofs.lemmas.List.Elements.{All-nil, All-cons, All-head, All-tail}
use Rattle.std.proofs.lemmas.Map.Text.{is_eq-slice_cmp}
use Rattle.cs_base.specs.Edit.{Edit, comes_before, comes_last, are_in_order, HaveTextPaths, IsKept}
use Rattle.cs_base.proofs.FileMapLemmas.{bytes_eq-same, bytes_eq-equal, comes_before-apart, are_in_order-tail}
use Rattle.edited_files.specs.Edited.{with_edit}

-- ---- paths

-- a path that comes before another is another, and_from ways
pub before-apart : (p q : List ℕ) → comes_before p q ≡ true → bytes_eq p q ≡ false
before-apart p q before = elim (cases_Bool (bytes_eq p q)) [
  | inl same ↦
      let apart : bytes_eq p p ≡ false = subst (λ (r : List ℕ). bytes_eq r p ≡ false) (sym (bytes_eq-equal p q same)) (comes_before-apart p q before) in
      let e : true ≡ false = sym (bytes_eq-same p) ∙ apart in
      absurd (cc)
  | inr apart ↦ apart
]

turned : (o r : Ordering) → r ≡ ordering_reverse o → is_lt o ≡ false → is_eq o ≡ false → is_lt r ≡ true
turned Less r e lt eq = cc
turned Equal r e lt eq = cc
turned Greater r e lt eq = ap is_lt e

-- of two paths one comes before the other
pub comes_before-other : (p q : List ℕ) → comes_before p q ≡ false → bytes_eq p q ≡ false → comes_before q p ≡ true
comes_before-other p q not_before apart =
    turned (slice_cmp nat_cmp p q) (slice_cmp nat_cmp q p) (nat_list_cmp_total.antisymm q p) not_before (is_eq-slice_cmp p q ∙ apart)

-- ---- one edit more

-- the edits behind this one, once another that comes behind it is among them
order_behind : (d e : Edit) (es : List Edit) → comes_before d.path e.path ≡ true → IsTrue (are_in_order (d ∷ es)) → IsTrue (are_in_order (with_edit e es))
    → IsTrue (are_in_order (d ∷ with_edit e es))
unfolding with_edit
order_behind d e [] before sorted rest = and_from _ _ before refl
order_behind d e (f ∷ es) before sorted rest = elim (cases_Bool (comes_before f.path e.path)) [
  | inl first ↦
      let rest' : IsTrue (are_in_order (f ∷ with_edit e es)) = rw first at rest in
      rw first (and_from _ _ ((and_parts _ _ sorted).0) rest')
  | inr later ↦ elim (cases_Bool (bytes_eq f.path e.path)) [
    | inl same ↦
        let rest' : IsTrue (are_in_order (e ∷ es)) = rw same at (rw later at rest) in
        rw later (rw same (and_from _ _ before rest'))
    | inr other ↦
        let rest' : IsTrue (are_in_order (e ∷ f ∷ es)) = rw other at (rw later at rest) in
        rw later (rw other (and_from _ _ before rest'))
  ]
]

-- the edits from this one on, where it has the path of the first
order_in_place : (d e : Edit) (es : List Edit) → bytes_eq d.path e.path ≡ true → IsTrue (are_in_order (d ∷ es)) → IsTrue (are_in_order (e ∷ es))
order_in_place d e [] same sorted = refl
order_in_place d e (f ∷ es) same sorted =
    and_from _ _ (subst (λ (p : List ℕ). comes_before p f.path ≡ true) (bytes_eq-equal d.path e.path same) ((and_parts _ _ sorted).0)) ((and_parts _ _ sorted).1)

pub order_with : (e : Edit) (es : List Edit) → IsTrue (are_in_order es) → IsTrue (are_in_order (with_edit e es))
unfolding with_edit
order_with e [] sorted = refl
order_with e (d ∷ es) sorted = elim (cases_Bool (comes_before d.path e.path)) [
  | inl first ↦ rw first (order_behind d e es first sorted (order_with e es (are_in_order-tail d es sorted)))
  | inr later ↦ elim (cases_Bool (bytes_eq d.path e.path)) [
    | inl same ↦ rw later (rw same (order_in_place d e es same sorted))
    | inr other ↦ rw later (rw other (and_from _ _ (comes_before-other d.path e.path later other) sorted))
  ]
]

abbrev IsText : Edit → Type 0
IsText e = IsUtf8 e.path

pub texts_with : (e : Edit) (es : List Edit) → HaveTextPaths es → IsUtf8 e.path → HaveTextPaths (with_edit e es)
unfolding with_edit
texts_with e [] texts text = All-cons IsText e [] text (All-nil IsText)
texts_with e (d ∷ es) texts text = elim (cases_Bool (comes_before d.path e.path)) [
  | inl first ↦ rw first (All-cons IsText d (with_edit e es) (All-head IsText d es texts) (texts_with e es (All-tail IsText d es texts) text))
  | inr later ↦ elim (cases_Bool (bytes_eq d.path e.path)) [
    | inl same ↦ rw later (rw same (All-cons IsText e es text (All-tail IsText d es texts)))
    | inr other ↦ rw later (rw other (All-cons IsText e (d ∷ es) text texts))
  ]
]

pub kept_with : (e : Edit) (es : List Edit) → IsKept es → IsUtf8 e.path → length (with_edit e es) < 2 ^ 32 → IsKept (with_edit e es)
kept_with e es kept text few = record { sorted = order_with e es kept.sorted; texts = texts_with e es kept.texts text; few = few }

-- one edit more at most
pub len_with : (e : Edit) (es : List Edit) → length (with_edit e es) ≤ length es + 1
unfolding with_edit
len_with e [] = omega arith
len_with e (d ∷ es) = elim (cases_Bool (comes_before d.path e.path)) [
  | inl first ↦ let rest = len_with e es in rw first (omega (arith, rest))
  | inr later ↦ elim (cases_Bool (bytes_eq d.path e.path)) [
    | inl same ↦ rw later (rw same (omega arith))
    | inr other ↦ rw later (rw other (omega arith))
  ]
]

-- each edit comes behind those before it
pub last_behind : (es : List Edit) (k : ℕ) (d : Edit) → IsTrue (are_in_order es) → k < length es → IsTrue (comes_last (get_or es k d).path (take k es))
last_behind [] k d sorted within = absurd (omega arith)
last_behind (e ∷ es) zero d sorted within = refl
last_behind (e ∷ []) (suc k) d sorted within = absurd (omega arith)
last_behind (e ∷ f ∷ es) (suc zero) d sorted within = (and_parts _ _ sorted).0
last_behind (e ∷ f ∷ es) (suc (suc k)) d sorted within = last_behind (f ∷ es) (suc k) d ((and_parts _ _ sorted).1) (omega arith)
