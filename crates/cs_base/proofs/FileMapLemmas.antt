-- What a path holds after a put, after each put of a list of edits, and after an addition.
use Rattle.std.proofs.Common.{Ordering, ◌≡◌, ◌<◌, ℕ, zero, suc, true, false, List, [], ◌∷◌, ◌++◌, length, get_or, IsTrue, cond, refl, ap, ◌∙◌, inl, inr, arith}
use Rattle.std.specs.Prelude.{Option, Some, All}
use Rattle.std.specs.Ordering.{nat_cmp, is_lt}
use Rattle.std.specs.declared.cmp.Ordering.TheVariants.{Less, Equal, Greater}
use Rattle.std.specs.Cmp.Lexicographic.{slice_cmp}
use Rattle.std.specs.Str.{bytes_eq}
use Rattle.std.proofs.lemmas.Bool.{cases_Bool, and_parts}
use Rattle.std.proofs.lemmas.Cmp.{nat_list_cmp_total}
use Rattle.std.proofs.lemmas.List.Elements.{All-cons, All-nil}
use Rattle.std.proofs.lemmas.Map.Text.{is_eq-slice_cmp}
use Rattle.std.proofs.lemmas.Slice.Eq.{bytes_eq-Decides}
use Rattle.cs_base.specs.Outside.{FileMap, bytes_at, with_file}
use Rattle.cs_base.specs.Edit.{Edit, with_edits, comes_before, are_in_order}

-- equal bytes are found equal
pub bytes_eq-same : (path : List ℕ) → bytes_eq path path ≡ true
bytes_eq-same path = (bytes_eq-Decides path path).1 refl

-- bytes that are found equal are equal
pub bytes_eq-equal : (path other : List ℕ) → bytes_eq path other ≡ true → path ≡ other
bytes_eq-equal path other same = (bytes_eq-Decides path other).0 same

-- the path of a put holds the new bytes
pub bytes_at-with_file_same : (path bytes : List ℕ) (files : FileMap)
    → bytes_at path (with_file path bytes files) ≡ Some bytes
bytes_at-with_file_same path bytes [] = rw (bytes_eq-same path) refl
bytes_at-with_file_same path bytes (file ∷ files) =
    elim (cases_Bool (bytes_eq file.0 path)) [
      | inl here ↦ rw here (rw here refl)
      | inr other ↦ rw other (rw other (bytes_at-with_file_same path bytes files))
    ]

-- every other path holds what it held
pub bytes_at-with_file_other : (path other bytes : List ℕ) (files : FileMap) → bytes_eq path other ≡ false
    → bytes_at other (with_file path bytes files) ≡ bytes_at other files
bytes_at-with_file_other path other bytes [] apart = rw apart refl
bytes_at-with_file_other path other bytes (file ∷ files) apart =
    elim (cases_Bool (bytes_eq file.0 path)) [
      | inl here ↦
          let past : bytes_eq file.0 other ≡ false = rw (bytes_eq-equal file.0 path here) apart in
          rw here (rw past refl)
      | inr there ↦
          rw there (ap (λ (rest : Option (List ℕ)). cond (bytes_eq file.0 other) (Some file.1) rest)
          (bytes_at-with_file_other path other bytes files apart))
    ]

-- a path that no edit names holds what it held
pub bytes_at-with_edits_other : (es : List Edit) (path : List ℕ) (files : FileMap)
    → All (λ e. bytes_eq e.path path ≡ false) es → bytes_at path (with_edits es files) ≡ bytes_at path files
bytes_at-with_edits_other [] path files apart = refl
bytes_at-with_edits_other (e ∷ es) path files apart =
    bytes_at-with_edits_other es path (with_file e.path e.bytes files) (λ k d below. apart (suc k) d (omega arith))
    ∙ bytes_at-with_file_other e.path path e.bytes files (apart 0 e (omega arith))

less-is_lt : (o : Ordering) → is_lt o ≡ true → o ≡ Less
less-is_lt Less h = refl
less-is_lt Equal h = cc
less-is_lt Greater h = cc

-- the order of paths is transitive
pub comes_before-trans : (p q r : List ℕ) → comes_before p q ≡ true → comes_before q r ≡ true → comes_before p r ≡ true
comes_before-trans p q r pq qr =
    rw (nat_list_cmp_total.trans p q r (less-is_lt (slice_cmp nat_cmp p q) pq) (less-is_lt (slice_cmp nat_cmp q r) qr)) refl

-- a path that comes before another is another
pub comes_before-apart : (p q : List ℕ) → comes_before p q ≡ true → bytes_eq q p ≡ false
comes_before-apart p q before =
    elim (cases_Bool (bytes_eq q p)) [
      | inl same ↦
          let below : comes_before p p ≡ true = rw (bytes_eq-equal q p same) at before in
          let less = less-is_lt (slice_cmp nat_cmp p p) below in
          let equal = is_eq-slice_cmp p p ∙ bytes_eq-same p in
          let neither = rw less at equal in
          cc
      | inr apart ↦ apart
    ]

-- the path of the first edit comes before that of each other
pub comes_before-are_in_order : (e : Edit) (es : List Edit) → IsTrue (are_in_order (e ∷ es))
    → All (λ f. comes_before e.path f.path ≡ true) es
comes_before-are_in_order e [] sorted = All-nil (λ (f : Edit). comes_before e.path f.path ≡ true)
comes_before-are_in_order e (f ∷ es) sorted =
    let next = (and_parts _ _ sorted).0 in
    let rest = comes_before-are_in_order f es ((and_parts _ _ sorted).1) in
    All-cons (λ (g : Edit). comes_before e.path g.path ≡ true) f es next
    (λ k d below. comes_before-trans e.path f.path (get_or es k d).path next (rest k d below))

pub are_in_order-tail : (e : Edit) (es : List Edit) → IsTrue (are_in_order (e ∷ es)) → IsTrue (are_in_order es)
are_in_order-tail e [] sorted = refl
are_in_order-tail e (f ∷ es) sorted = (and_parts _ _ sorted).1

-- the path of edit k holds its bytes
pub bytes_at-with_edits : (es : List Edit) (files : FileMap) (k : ℕ) (d : Edit) → IsTrue (are_in_order es)
    → k < length es → bytes_at (get_or es k d).path (with_edits es files) ≡ Some (get_or es k d).bytes
bytes_at-with_edits [] files k d sorted within = absurd (omega arith)
bytes_at-with_edits (e ∷ es) files zero d sorted within =
    let later = comes_before-are_in_order e es sorted in
    bytes_at-with_edits_other es e.path (with_file e.path e.bytes files)
    (λ k d below. comes_before-apart e.path (get_or es k d).path (later k d below))
    ∙ bytes_at-with_file_same e.path e.bytes files
bytes_at-with_edits (e ∷ es) files (suc k) d sorted within =
    bytes_at-with_edits es (with_file e.path e.bytes files) k d (are_in_order-tail e es sorted) (omega arith)

-- every other path holds what it held before the addition
pub bytes_at-push_other : (path other bytes : List ℕ) (files : FileMap) → bytes_eq path other ≡ false
    → bytes_at other (files ++ (path, bytes) ∷ []) ≡ bytes_at other files
bytes_at-push_other path other bytes [] apart = rw apart refl
bytes_at-push_other path other bytes (file ∷ files) apart =
    ap (λ (rest : Option (List ℕ)). cond (bytes_eq file.0 other) (Some file.1) rest)
    (bytes_at-push_other path other bytes files apart)
