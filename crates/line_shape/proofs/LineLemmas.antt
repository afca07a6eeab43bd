-- Where a line and a run end, token by token, and the lines of tokens.
use Rattle.std.proofs.Common.{◌≡◌, ℕ, zero, suc, ◌<◌, ◌≤◌, Bool, true, false, List, [], ◌∷◌, length, get_or, take, drop, refl, ap, sym, ◌∙◌, inl, inr, arith}
use Rattle.std.proofs.lemmas.Bool.{cases_Bool}
use Rattle.cs_base.specs.Token.{Token}
use Rattle.line_shape.specs.Signs.{is_hash}
use Rattle.line_shape.specs.Items.{onto_lines, lines_of}
use Rattle.line_shape.specs.Walk.{is_hash_at, is_end}

-- ---- one place on

get_or-after : (bs : List Bool) (k : ℕ) → get_or (drop 1 bs) k false ≡ get_or bs (suc k) false
get_or-after [] k = refl
get_or-after (b ∷ bs) k = refl

pub drop-after : (bs : List Bool) (n : ℕ) → drop (suc n) (drop 1 bs) ≡ drop (suc (suc n)) bs
drop-after [] n = refl
drop-after (b ∷ bs) n = refl

is_hash_at-after : (t : Token) (toks : List Token) (k : ℕ) → is_hash_at (t ∷ toks) (suc k) ≡ is_hash_at toks k
unfolding is_hash_at
is_hash_at-after t toks k = refl

pub is_hash_at-first : (t : Token) (toks : List Token) → is_hash_at (t ∷ toks) 0 ≡ is_hash t
unfolding is_hash_at
is_hash_at-first t toks = refl

pub is_end-after : (directive : Bool) (t : Token) (toks : List Token) (firsts : List Bool) (k : ℕ)
    → is_end directive toks (drop 1 firsts) k ≡ is_end directive (t ∷ toks) firsts (suc k)
is_end-after directive t toks firsts k = rw (get_or-after firsts k, is_hash_at-after t toks k) refl

-- Where the item ends whose first token is t: n more tokens belong to it.
pub record EndsBehind (directive : Bool) (t : Token) (toks : List Token) (firsts : List Bool) (n : ℕ) : Type 0 where
  pub within : n ≤ length toks
  pub none : (k : ℕ) → k < n → is_end directive (t ∷ toks) firsts (suc k) ≡ false
  pub end : n < length toks → is_end directive (t ∷ toks) firsts (suc n) ≡ true

pub EndsBehind-after : (directive : Bool) (t u : Token) (toks : List Token) (firsts : List Bool) (n : ℕ)
    → EndsBehind directive t (u ∷ toks) firsts (suc n) → EndsBehind directive u toks (drop 1 firsts) n
EndsBehind-after directive t u toks firsts n e = record {
  within = let w = e.within in omega arith;
  none = λ k below. is_end-after directive t (u ∷ toks) firsts (suc k) ∙ e.none (suc k) (omega arith);
  end = λ more. is_end-after directive t (u ∷ toks) firsts (suc n) ∙ e.end (omega arith);
}

-- ---- lines

-- Lines of which the first begins with t.
pub record BeginsWith (t : Token) (lines : List (List Token)) : Type 0 where
  pub toks : List Token
  pub more : List (List Token)
  pub same : lines ≡ (t ∷ toks) ∷ more

onto_lines-BeginsWith : (t : Token) (b : Bool) (lines : List (List Token)) → BeginsWith t (onto_lines t b lines)
onto_lines-BeginsWith t true lines = record { toks = []; more = lines; same = refl }
onto_lines-BeginsWith t false [] = record { toks = []; more = []; same = refl }
onto_lines-BeginsWith t false (line ∷ lines) = record { toks = line; more = lines; same = refl }

pub lines_of-BeginsWith : (t : Token) (toks : List Token) (firsts : List Bool) → BeginsWith t (lines_of (t ∷ toks) firsts)
unfolding lines_of
lines_of-BeginsWith t toks firsts = onto_lines-BeginsWith t (get_or firsts 1 false) (lines_of toks (drop 1 firsts))

pub lines_of-cons : (t : Token) (toks : List Token) (firsts : List Bool)
    → lines_of (t ∷ toks) firsts ≡ onto_lines t (get_or firsts 1 false) (lines_of toks (drop 1 firsts))
unfolding lines_of
lines_of-cons t toks firsts = refl

pub lines_of-nil : (firsts : List Bool) → lines_of [] firsts ≡ []
unfolding lines_of
lines_of-nil firsts = refl

onto_lines-nil : (t : Token) (b : Bool) → onto_lines t b [] ≡ (t ∷ []) ∷ []
onto_lines-nil t true = refl
onto_lines-nil t false = refl

-- one token is one line
pub lines_of-one : (t : Token) (firsts : List Bool) → lines_of (t ∷ []) firsts ≡ (t ∷ []) ∷ []
lines_of-one t firsts = lines_of-cons t [] firsts ∙ ap (onto_lines t (get_or firsts 1 false)) (lines_of-nil (drop 1 firsts)) ∙ onto_lines-nil t (get_or firsts 1 false)

line_end : (t : Token) (toks : List Token) (firsts : List Bool) (k : ℕ) → is_end true (t ∷ toks) firsts k ≡ get_or firsts k false
line_end t toks firsts k = elim (cases_Bool (get_or firsts k false)) [ inl is ↦ rw is refl | inr other ↦ rw other refl ]

-- a directive's line
pub lines_of-line : (t : Token) (toks : List Token) (firsts : List Bool) (n : ℕ) → EndsBehind true t toks firsts n
    → lines_of (t ∷ toks) firsts ≡ (t ∷ take n toks) ∷ lines_of (drop n toks) (drop (suc n) firsts)
lines_of-line t [] firsts zero e = lines_of-one t firsts ∙ ap (λ (lines : List (List Token)). (t ∷ []) ∷ lines) (sym (lines_of-nil (drop 1 firsts)))
lines_of-line t [] firsts (suc n) e = absurd (let w = e.within in omega arith)
lines_of-line t (u ∷ toks) firsts zero e =
    let begins : get_or firsts 1 false ≡ true = sym (line_end t (u ∷ toks) firsts 1) ∙ e.end (omega arith) in
    lines_of-cons t (u ∷ toks) firsts ∙ rw begins refl
lines_of-line t (u ∷ toks) firsts (suc n) e =
    let goes_on : get_or firsts 1 false ≡ false = sym (line_end t (u ∷ toks) firsts 1) ∙ e.none 0 (omega arith) in
    let rest = lines_of-line u toks (drop 1 firsts) n (EndsBehind-after true t u toks firsts n e) in
    lines_of-cons t (u ∷ toks) firsts ∙ rw (goes_on, rest, drop-after firsts n) refl
