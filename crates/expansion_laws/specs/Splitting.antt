-- Expansions that split at a token (ISO/IEC 9899:1999, 6.10.3): the converse of expanding part by part.
use Rattle.std.specs.Prelude.{◌≡◌, ℕ, suc, true, List, ◌∷◌, ◌++◌, length, Result, Ok}
use Rattle.macro_body.specs.declared.notes.Work.{Work}
use Rattle.macro_body.specs.Hides.{Hidden}
use Rattle.macro_body.specs.Notes.{Fault, Expanded, expanded, put_out}
use Rattle.macro_expand.specs.Expansion.{Setting, whole}
use Rattle.macro_expand.specs.Laws.{put_out_after}

-- the expansion of tokens, and that of those behind them
abbrev pub both : Expanded → Expanded → Expanded
both x y = expanded (x.toks ++ y.toks) (x.notes ++ y.notes) y.left

-- Tokens that are expanded to `e` fall into those before a token t, that token, and those behind it: t stays, `e` has `ex`
-- before it, which the first ones are expanded to, and `ey` behind it, which the last ones are. And the first ones go on so
-- before whatever stands behind t.
pub record Splits (set : Setting) (depth before : ℕ) (expand : List Hidden → Result Expanded Fault) (ts : List Hidden) (e : Expanded) (ex : List Hidden) (t : Hidden) (ey : List Hidden) : Type 0 where
  pub xs : List Hidden
  pub ys : List Hidden
  pub x : Expanded
  pub z : Expanded
  pub run : ts ≡ xs ++ t ∷ ys
  pub first : expand xs ≡ Ok x
  pub stays : whole set depth (put_out_after depth before (length x.toks)) (t ∷ ys) x.left ≡ Ok (put_out t z)
  pub behind : whole set depth (put_out_after depth before (suc (length x.toks))) ys x.left ≡ Ok z
  pub toks : x.toks ≡ ex
  pub more : z.toks ≡ ey
  pub all : e ≡ both x (put_out t z)
  pub composes : (vs : List Hidden) (y : Expanded) → whole set depth (put_out_after depth before (length x.toks)) (t ∷ vs) x.left ≡ Ok y
      → expand (xs ++ t ∷ vs) ≡ Ok (both x y)

-- The law: at each token of an expansion that no macro put in, it splits.
abbrev pub ExpansionSplits : Type 0
ExpansionSplits = (set : Setting) (depth before : ℕ) (ts : List Hidden) (work : Work) (e : Expanded) (ex : List Hidden) (t : Hidden) (ey : List Hidden)
    → whole set depth before ts work ≡ Ok e → e.toks ≡ ex ++ t ∷ ey → t.tok.direct ≡ true
    → Splits set depth before (λ xs. whole set depth before xs work) ts e ex t ey
