-- The ends of an expansion (ISO/IEC 9899:1999, 6.10.3 paragraph 10 and 6.10.3.4): a token that no macro replaces and no call
-- takes stays first or last.
use Rattle.std.specs.Prelude.{◌≡◌, ◌<◌, ℕ, ◌-◌, Bool, true, false, List, [], ◌∷◌, ◌++◌, length, Ok, Some, slice_get}
use Rattle.cs_base.specs.Token.{Token}
use Rattle.line_shape.specs.Signs.{is_name, is_close}
use Rattle.macro_body.specs.declared.notes.Work.{Work}
use Rattle.macro_body.specs.Hides.{Hidden, unhidden, toks_of}
use Rattle.macro_body.specs.Notes.{Expanded}
use Rattle.macro_expand.specs.Expansion.{Setting, whole}

-- The law: the first token stays first where it is no name.
abbrev pub FirstStays : Type 0
FirstStays = (set : Setting) (depth before : ℕ) (t : Hidden) (ts : List Hidden) (work : Work) (e : Expanded) → is_name t.tok ≡ false
    → whole set depth before (t ∷ ts) work ≡ Ok e → (ys : List Hidden) × (e.toks ≡ t ∷ ys)

-- The law: the last token stays last where it is no name and no `)`, with which a call may end.
abbrev pub LastStays : Type 0
LastStays = (set : Setting) (depth before : ℕ) (xs : List Hidden) (t : Hidden) (work : Work) (e : Expanded) → is_name t.tok ≡ false → is_close t.tok ≡ false
    → whole set depth before (xs ++ t ∷ []) work ≡ Ok e → (ys : List Hidden) × (e.toks ≡ ys ++ t ∷ [])

-- ---- by tests of tokens

-- the first token passes a test, if there is one
abbrev pub FirstPasses : (Token → Bool) → List Token → Type 0
FirstPasses q ts = (t : Token) → slice_get ts 0 ≡ Some t → q t ≡ true

-- and the last
abbrev pub LastPasses : (Token → Bool) → List Token → Type 0
LastPasses q ts = (t : Token) → slice_get ts (length ts - 1) ≡ Some t → q t ≡ true

abbrev pub NamesPass : (Token → Bool) → Type 0
NamesPass q = (t : Token) → is_name t ≡ true → q t ≡ true

abbrev pub ClosesPass : (Token → Bool) → Type 0
ClosesPass q = (t : Token) → is_close t ≡ true → q t ≡ true

-- The law: tokens that are expanded to some are some, and their first and their last pass a test that each name passes, and
-- each `)`, where those of the expansion do.
pub record EndsPass (ts out : List Token) : Type 0 where
  pub some : 0 < length out → 0 < length ts
  pub first : (q : Token → Bool) → NamesPass q → FirstPasses q out → FirstPasses q ts
  pub last : (q : Token → Bool) → NamesPass q → ClosesPass q → LastPasses q out → LastPasses q ts

abbrev pub ExpansionsEndAlike : Type 0
ExpansionsEndAlike = (set : Setting) (depth before : ℕ) (ts : List Token) (work : Work) (x : Expanded) → whole set depth before (unhidden ts) work ≡ Ok x → EndsPass ts (toks_of x.toks)
