-- The names of headers (6.10.2 paragraph 4).
use Rattle.std.proofs.Common.{zero, suc, ◌≤◌, length, take, arith, ◌≡◌, ◌&&◌, ℕ, Bool, true, false, not, cond, List, [], ◌∷◌, ◌++◌, Option, Some, None, refl, sym, ◌∙◌, ap, inl, inr}
use Rattle.std.specs.List.{flat_map, list_any}
use Rattle.std.specs.Option.{option_map}
use Rattle.std.proofs.lemmas.Bool.{cases_Bool}
use Rattle.cs_base.specs.Token.{Token}
use Rattle.source_files.specs.HeaderNames.{is_greater, before_greater, gap_text, spaced}

pub spaced-flat : (toks : List Token) → spaced toks ≡ flat_map (λ (t : Token). gap_text t.gap ++ t.text) toks
spaced-flat [] = refl
spaced-flat (t ∷ toks) = ap (λ (rest : List ℕ). (gap_text t.gap ++ t.text) ++ rest) (spaced-flat toks)

option_map-cond : (t : Token) (b : Bool) (ts : List Token)
    → option_map (λ (us : List Token). t ∷ us) (cond b (Some ts) None) ≡ cond b (Some (t ∷ ts)) None
option_map-cond t true ts = refl
option_map-cond t false ts = refl

-- the tokens before a `>` that is the first and stands last
pub before_greater-last : (front : List Token) (t : Token)
    → before_greater (front ++ t ∷ []) ≡ cond (is_greater t && not (list_any is_greater front)) (Some front) None
before_greater-last [] t = elim (cases_Bool (is_greater t)) [
  | inl is ↦ rw is refl
  | inr other ↦ rw other refl
]
before_greater-last (u ∷ []) t = elim (cases_Bool (is_greater u)) [
  | inl is ↦ elim (cases_Bool (is_greater t)) [ inl yes_ ↦ rw (is, yes_) refl | inr other ↦ rw (is, other) refl ]
  | inr not_ ↦ elim (cases_Bool (is_greater t)) [ inl yes_ ↦ rw (not_, yes_) refl | inr other ↦ rw (not_, other) refl ]
]
before_greater-last (u ∷ v ∷ front) t =
    let rest = before_greater-last (v ∷ front) t in
    elim (cases_Bool (is_greater u)) [
      | inl is ↦ elim (cases_Bool (is_greater t)) [ inl yes_ ↦ rw (is, yes_) refl | inr other ↦ rw (is, other) refl ]
      | inr not_ ↦ rw not_ (ap (λ (o : Option (List Token)). option_map (λ (us : List Token). u ∷ us) o) rest ∙ option_map-cond u (is_greater t && not (list_any is_greater (v ∷ front))) (v ∷ front))
    ]

pub before_greater-some : (toks front : List Token) (t : Token) → toks ≡ front ++ t ∷ [] → (is_greater t && not (list_any is_greater front)) ≡ true
    → before_greater toks ≡ Some front
before_greater-some toks front t is ends = ap before_greater is ∙ before_greater-last front t ∙ rw ends refl

pub before_greater-none : (toks front : List Token) (t : Token) → toks ≡ front ++ t ∷ [] → (is_greater t && not (list_any is_greater front)) ≡ false
    → before_greater toks ≡ None
before_greater-none toks front t is open_ = ap before_greater is ∙ before_greater-last front t ∙ rw open_ refl

take-whole : (n : ℕ) (toks : List Token) → length toks ≤ n → take n toks ≡ toks
take-whole zero [] h = refl
take-whole zero (t ∷ toks) h = absurd (omega arith)
take-whole (suc n) [] h = refl
take-whole (suc n) (t ∷ toks) h = ap (λ (ts : List Token). t ∷ ts) (take-whole n toks (omega arith))

-- the spelling of all tokens
pub spaced-all : (text old : List ℕ) (toks : List Token) (n : ℕ) → length toks ≤ n
    → text ≡ old ++ flat_map (λ (t : Token). gap_text t.gap ++ t.text) (take n toks) → text ≡ old ++ spaced toks
spaced-all text old toks n past is =
    is ∙ ap (λ (ts : List Token). old ++ flat_map (λ (t : Token). gap_text t.gap ++ t.text) ts) (take-whole n toks past)
    ∙ ap (λ (r : List ℕ). old ++ r) (sym (spaced-flat toks))
