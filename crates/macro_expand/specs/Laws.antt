-- What is true of all expansions.
use Rattle.std.specs.Prelude.{◌≡◌, ℕ, zero, suc, ◌+◌, ◌≤◌, ◌&&◌, Bool, true, false, List, [], ◌∷◌, ◌++◌, length, Option, Some, None, Ok}
use Rattle.macro_body.specs.declared.notes.Work.{Work}
use Rattle.macro_body.specs.Below.line_shape.Signs.{is_open}
use Rattle.macro_body.specs.declared.definitions.Definition.{Definition}
use Rattle.cs_base.specs.Token.{Token}
use Rattle.macro_body.specs.Hides.{Hidden}
use Rattle.macro_body.specs.Macro.{Table, is_function}
use Rattle.macro_body.specs.Notes.{Note, Stringized, Pasted, Expanded, expanded}
use Rattle.macro_body.specs.Substitution.{number_token, path_string}
use Rattle.macro_expand.specs.Renaming.{Occurring, occurs, AllOccur}
use Rattle.macro_expand.specs.Expansion.{Setting, Next, macro_of, step, whole}

-- The whole expansion is one step, and the whole expansion of what follows it.
abbrev pub IsOneStep : Type 0
IsOneStep = (set : Setting) (depth before : ℕ) (ts : List Hidden) (work : Work)
    → whole set depth before ts work ≡ step set (whole set) depth before ts work

-- Nothing else is one step of itself: so how many steps were allowed does not matter.
abbrev pub NothingElseIs : Type 0
NothingElseIs = (set : Setting) (f : Next)
    → ((depth before : ℕ) (ts : List Hidden) (work : Work) → f depth before ts work ≡ step set f depth before ts work)
    → (depth before : ℕ) (ts : List Hidden) (work : Work) → f depth before ts work ≡ whole set depth before ts work

-- The work that is left never rises.
abbrev pub WorkFalls : Type 0
WorkFalls = (set : Setting) (depth before : ℕ) (ts : List Hidden) (work : Work) (e : Expanded) → whole set depth before ts work ≡ Ok e → e.left.left ≤ work.left

-- how many tokens are put out behind so many more
abbrev pub put_out_after : ℕ → ℕ → ℕ → ℕ
put_out_after zero before n = before + n
put_out_after (suc depth) before n = before

-- tokens begin with a `(`
abbrev pub begins_open : List Hidden → Bool
begins_open [] = false
begins_open (t ∷ ts) = is_open t.tok

-- a token is the name of a function-like macro that could be called
abbrev pub is_callable : Option Definition → Bool
is_callable (Some m) = is_function m.form
is_callable None = false

-- the last token is such a name
abbrev pub ends_callable : Table → List Hidden → Bool
ends_callable table [] = false
ends_callable table (t ∷ []) = is_callable (macro_of table t)
ends_callable table (t ∷ u ∷ ts) = ends_callable table (u ∷ ts)

-- Tokens are expanded part by part where no call reaches past the first part: it ends in no name that the
-- `(` at the front of the second would call.
abbrev pub ExpandsInParts : Type 0
ExpandsInParts = (set : Setting) (depth before : ℕ) (xs ys : List Hidden) (work : Work) (x y : Expanded)
    → whole set depth before xs work ≡ Ok x → (ends_callable set.table x.toks && begins_open ys) ≡ false
    → whole set depth (put_out_after depth before (length x.toks)) ys x.left ≡ Ok y
    → whole set depth before (xs ++ ys) work ≡ Ok (expanded (x.toks ++ y.toks) (x.notes ++ y.notes) y.left)

-- each name is that of a macro
abbrev pub AllDefined : Table → List (List ℕ) → Type 0
AllDefined table [] = Unit {0}
AllDefined table (n ∷ ns) = ((d : Definition) × (table n ≡ Some d)) × AllDefined table ns

-- each token passes a test of its kind, origins and spelling, and each name in its hide set is that of a macro
abbrev pub Held : Occurring → Table → List Hidden → Type 0
Held o table [] = Unit {0}
Held o table (h ∷ hs) = (occurs o h.tok ≡ true) × AllDefined table h.hides × Held o table hs

-- The tokens that an expansion takes from elsewhere pass it too: those of replacement lists, and what stands
-- for a line, a path or the next number of the unit.
pub record Passes (o : Occurring) (set : Setting) : Type 0 where
  pub bodies : (name : List ℕ) (m : Definition) → set.table name ≡ Some m → AllOccur o m.body
  pub numbers : (name : Token) (n : ℕ) → occurs o (number_token name n) ≡ true
  pub paths : (name : Token) → occurs o (path_string set.path name) ≡ true

-- so do the strings and the pasted tokens that it made
abbrev pub AllMadePass : Occurring → List Note → Type 0
AllMadePass o [] = Unit {0}
AllMadePass o (Stringized toks s ∷ notes) = (occurs o s ≡ true) × AllMadePass o notes
AllMadePass o (Pasted x y z ∷ notes) = (occurs o z ≡ true) × AllMadePass o notes
AllMadePass o (_ ∷ notes) = AllMadePass o notes

-- Kind, origins and spelling of each token come from somewhere: whatever test those of the run, of
-- replacement lists, of lines, paths and numbers, of strings and of pasted tokens pass, each token of the expansion
-- passes. And only names of macros are in its hide sets.
abbrev pub TokensComeFromSomewhere : Type 0
TokensComeFromSomewhere = (o : Occurring) (set : Setting) (depth before : ℕ) (ts : List Hidden) (work : Work) (e : Expanded)
    → Passes o set → Held o set.table ts → whole set depth before ts work ≡ Ok e → AllMadePass o e.notes → Held o set.table e.toks
