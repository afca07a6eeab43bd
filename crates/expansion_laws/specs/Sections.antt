-- A run that falls into sections, each of which ends in a sign that no macro put in (ISO/IEC 9899:1999, 6.10.3), as the
-- parentheses and the commas of a list are.
use Rattle.std.specs.Prelude.{◌≡◌, ℕ, true, List, [], ◌∷◌, ◌++◌, None, Ok}
use Rattle.macro_body.specs.declared.notes.Work.{Work}
use Rattle.macro_body.specs.Hides.{Hidden}
use Rattle.macro_body.specs.Macro.{Table}
use Rattle.macro_body.specs.Notes.{Expanded, expanded}
use Rattle.macro_expand.specs.Expansion.{Setting, macro_of, whole}

-- A section of an expansion: its tokens, and the sign behind them.
pub record Section : Type 0 where
  pub toks : List Hidden
  pub sign : Hidden

-- sections, and what stands behind the last of them
unfoldable pub laid_out : List Section → List Hidden → List Hidden
laid_out [] last = last
laid_out (s ∷ ss) last = s.toks ++ s.sign ∷ laid_out ss last

-- no macro put the signs in, and none replaces them
abbrev pub AreSigns : Table → List Section → Type 0
AreSigns table [] = Unit {0}
AreSigns table (s ∷ ss) = (s.sign.tok.direct ≡ true) × (macro_of table s.sign ≡ None) × AreSigns table ss

-- A section of a run: its tokens without the sign, how many tokens were put out before, the work that was left, and what they are
-- expanded to.
pub record Fallen : Type 0 where
  pub toks : List Hidden
  pub before : ℕ
  pub work : Work
  pub out : Expanded

-- They are expanded so by themselves, and with the sign behind them to the same and the sign.
pub record IsFallen (set : Setting) (depth : ℕ) (sign : Hidden) (f : Fallen) : Type 0 where
  pub alone : whole set depth f.before f.toks f.work ≡ Ok f.out
  pub signed : whole set depth f.before (f.toks ++ sign ∷ []) f.work ≡ Ok (expanded (f.out.toks ++ sign ∷ []) f.out.notes f.out.left)

-- A run falls into these: each is expanded to the tokens of its section, with the work that the one before it left, and the
-- last tokens, which end in no sign, too.
abbrev pub FallsInto : Setting → ℕ → List Hidden → Work → Expanded → List Section → List Hidden → List Fallen → Fallen → Type 0
FallsInto set depth ts work e [] last [] f =
    (f.toks ≡ ts) × (f.work ≡ work) × (f.out ≡ e) × (f.out.toks ≡ last) × (whole set depth f.before f.toks f.work ≡ Ok f.out)
FallsInto set depth ts work e (s ∷ ss) last (f ∷ fs) end =
    IsFallen set depth s.sign f × (f.work ≡ work) × (f.out.toks ≡ s.toks)
    × ((behind : List Hidden) × (rest : Expanded) × (ts ≡ f.toks ++ s.sign ∷ behind)
    × (e ≡ expanded (f.out.toks ++ s.sign ∷ rest.toks) (f.out.notes ++ rest.notes) rest.left)
    × FallsInto set depth behind f.out.left rest ss last fs end)
FallsInto _ _ _ _ _ _ _ _ _ = ⊥

-- The law: an expansion whose tokens fall into such sections comes of a run that does.
abbrev pub RunsFall : Type 0
RunsFall = (set : Setting) (depth before : ℕ) (ts : List Hidden) (work : Work) (e : Expanded) (ss : List Section) (last : List Hidden)
    → whole set depth before ts work ≡ Ok e → e.toks ≡ laid_out ss last → AreSigns set.table ss
    → (fs : List Fallen) × (end : Fallen) × FallsInto set depth ts work e ss last fs end
