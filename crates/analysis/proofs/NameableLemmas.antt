-- Ranges of tokens that a place may name.
use Rattle.std.proofs.Common.{◌≡◌, ℕ, zero, suc, ◌+◌, ◌-◌, ◌<◌, ◌≤◌, Bool, true, false, ◌&&◌, if◌then◌else◌, min, List, [], ◌∷◌, take, drop, Some, refl, sym, ap, ◌∙◌, arith}
use Rattle.std.specs.Prelude.{slice_get, slice_range}
use Rattle.std.proofs.lemmas.List.{drop-drop}
use Rattle.std.proofs.lemmas.Option.{same_Some}
use Rattle.cs_base.specs.Token.{Token}
use Rattle.include_tree.specs.Below.source_files.HeaderNames.{is_header, begins_header}
use Rattle.include_tree.specs.Below.line_shape.declared.items.GnuLine.{GnuLine}
use Rattle.include_tree.specs.Below.line_shape.declared.items.GnuLine.TheVariants.{IncludeNext, Message, Elifdef, Elifndef}
use Rattle.include_tree.specs.Below.line_shape.Directives.{is_elif}
use Rattle.analysis.specs.Naming.{computed_name, nameable_next, nameable_behind}

-- ---- ranges of lists

pub take_none : {X : Type 0} (n : ℕ) → ◌≡◌ {A = List X} (take n []) []
take_none zero = refl
take_none (suc n) = refl

drop_taken : {X : Type 0} (n m : ℕ) (xs : List X) → drop n (take m xs) ≡ take (m - n) (drop n xs)
drop_taken zero m xs = let e : m - 0 ≡ m = omega arith in rw e refl
drop_taken (suc n) zero xs = let e : 0 - suc n ≡ 0 = omega arith in rw e refl
drop_taken (suc n) (suc m) [] = sym (take_none (suc m - suc n))
drop_taken (suc n) (suc m) (x ∷ xs) = let e : suc m - suc n ≡ m - n = omega arith in rw e (drop_taken n m xs)

take_taken : {X : Type 0} (n m : ℕ) (xs : List X) → take n (take m xs) ≡ take (min n m) xs
take_taken zero m xs = let e : min 0 m ≡ 0 = omega arith in rw e refl
take_taken (suc n) zero xs = let e : min (suc n) 0 ≡ 0 = omega arith in rw e refl
take_taken {X = X} (suc n) (suc m) [] = sym (take_none (min (suc n) (suc m)))
take_taken {X = X} (suc n) (suc m) (x ∷ xs) =
    let e : min (suc n) (suc m) ≡ suc (min n m) = omega arith in
    rw e (ap (λ (ys : List X). x ∷ ys) (take_taken n m xs))

pub drop_range : {X : Type 0} (n : ℕ) (xs : List X) (from to : ℕ) → drop n (slice_range xs from to) ≡ slice_range xs (from + n) to
drop_range n xs from to =
    let less : (to - from) - n ≡ to - (from + n) = omega arith in
    drop_taken n (to - from) (drop from xs) ∙ ap (λ (m : ℕ). take m (drop n (drop from xs))) less ∙ ap (take (to - (from + n))) (drop-drop n from xs)

pub take_range : {X : Type 0} (xs : List X) (from to : ℕ) → take 1 (slice_range xs from to) ≡ slice_range xs from (min (from + 1) to)
take_range xs from to =
    let one : min 1 (to - from) ≡ min (from + 1) to - from = omega arith in
    take_taken 1 (to - from) (drop from xs) ∙ ap (λ (m : ℕ). take m (drop from xs)) one

pub empty_range : {X : Type 0} (xs : List X) (from to : ℕ) → to ≤ from → slice_range xs from to ≡ []
empty_range xs from to past = let none : to - from ≡ 0 = omega arith in rw none refl

-- ---- include lines

drop_here : {X : Type 0} (xs : List X) (k : ℕ) (x : X) → slice_get xs k ≡ Some x → (ys : List X) × (drop k xs ≡ x ∷ ys)
drop_here [] k x e = absurd (cc)
drop_here (y ∷ xs) zero x e = (xs, ap (λ z. z ∷ xs) (same_Some y x e))
drop_here (y ∷ xs) (suc k) x e = drop_here xs k x e

taken_first : {X : Type 0} (n : ℕ) (x : X) (xs : List X) → 0 < n → (ys : List X) × (take n (x ∷ xs) ≡ x ∷ ys)
taken_first zero x xs some = absurd (omega arith)
taken_first (suc n) x xs some = (take n xs, refl)

range_first : {X : Type 0} (xs : List X) (from to : ℕ) (x : X) → from < to → slice_get xs from ≡ Some x → (ys : List X) × (slice_range xs from to ≡ x ∷ ys)
range_first xs from to x some e =
    let here = drop_here xs from x e in
    let first = taken_first (to - from) x here.0 (omega arith) in
    (first.0, ap (take (to - from)) here.1 ∙ first.1)

pub computed_none : (toks : List Token) (from to : ℕ) (t : Token) → from < to → slice_get toks from ≡ Some t → is_header t.kind ≡ true
    → computed_name (slice_range toks from to) ≡ slice_range toks from 0
computed_none toks from to t some e header =
    let first = range_first toks from to t some e in
    let none : computed_name (t ∷ first.0) ≡ [] = rw header refl in
    ap computed_name first.1 ∙ none ∙ sym (empty_range toks from 0 (omega arith))

-- ---- directive lines

pub named_first : (toks : List Token) (from to end : ℕ) → end ≡ min (from + 2 + 1) to → take 1 (drop 2 (slice_range toks from to)) ≡ slice_range toks (from + 2) end
named_first toks from to end is =
    ap (take 1) (drop_range 2 toks from to) ∙ take_range toks (from + 2) to ∙ ap (slice_range toks (from + 2)) (sym is)

-- a line that GNU C alone has, and that asks for no file
pub behind_named : (line : GnuLine) (evaluated : Bool) (toks : List Token) (from to n : ℕ) → (line ≡ IncludeNext → ⊥) → n ≡ (if evaluated && is_elif line then min (from + 1) to else 0)
    → nameable_behind line evaluated (slice_range toks from to) ≡ slice_range toks from n
behind_named Elifdef true toks from to n other is = take_range toks from to ∙ ap (slice_range toks from) (sym is)
behind_named Elifndef true toks from to n other is = take_range toks from to ∙ ap (slice_range toks from) (sym is)
behind_named Elifdef false toks from to n other is = sym (empty_range toks from n (omega (arith, is)))
behind_named Elifndef false toks from to n other is = sym (empty_range toks from n (omega (arith, is)))
behind_named IncludeNext evaluated toks from to n other is = absurd (other refl)
behind_named Message true toks from to n other is = sym (empty_range toks from n (omega (arith, is)))
behind_named Message false toks from to n other is = sym (empty_range toks from n (omega (arith, is)))

-- one that asks for the next file of a name, which stands there or is expanded
pub next_none : (toks : List Token) (from to : ℕ) → begins_header (slice_range toks from to) ≡ true → nameable_next (slice_range toks from to) ≡ slice_range toks from 0
next_none toks from to begins = rw begins (sym (empty_range toks from 0 (omega arith)))

pub next_all : (toks : List Token) (from to : ℕ) → begins_header (slice_range toks from to) ≡ false → nameable_next (slice_range toks from to) ≡ slice_range toks from to
next_all toks from to other = rw other refl

pub next_past : (toks : List Token) (from to : ℕ) → to ≤ from → nameable_next (slice_range toks from to) ≡ slice_range toks from 0
next_past toks from to past =
    let none = empty_range toks from to past in rw none (sym (empty_range toks from 0 (omega arith)))
