-- Portions of a run, one behind the other, each of which is expanded somewhere (ISO/IEC 9899:1999, 6.10.3): so a run whose
-- portions stand in another order is expanded to theirs in that order.
use Rattle.std.specs.Prelude.{◌≡◌, ◌≤◌, ℕ, ◌+◌, ◌-◌, ◌&&◌, Bool, true, false, List, [], ◌∷◌, map, Ok}
use Rattle.std.specs.List.{list_all, flat_map}
use Rattle.macro_body.specs.declared.notes.Work.{Work}
use Rattle.macro_body.specs.Hides.{Hidden}
use Rattle.macro_body.specs.Notes.{Expanded}
use Rattle.macro_expand.specs.Expansion.{Setting, whole}
use Rattle.macro_expand.specs.Laws.{begins_open, ends_callable}
use Rattle.list_cuts.specs.Cuts.{Cut, IsOrder, arranged, AreOf}
use Rattle.expansion_laws.specs.Alike.{canon, plain_note, brings_no_line}

-- A portion: its tokens, how many were put out before them, the work that was left, and what they were expanded to; and the
-- tokens that stand for it in another run, alike but for their lines, and white space before the first where `loose`.
pub record Portion : Type 0 where
  pub toks : List Hidden
  pub before : ℕ
  pub work : Work
  pub out : Expanded
  pub loose : Bool
  pub again : List Hidden

-- what it asked for
abbrev pub cost_of : Portion → ℕ
cost_of p = p.work.left - p.out.left.left

unfoldable pub costs_of : List Portion → ℕ
costs_of [] = 0
costs_of (p ∷ ps) = cost_of p + costs_of ps

-- so it is with a portion
pub record IsPortion (set : Setting) (depth : ℕ) (p : Portion) : Type 0 where
  pub expands : whole set depth p.before p.toks p.work ≡ Ok p.out
  pub lines : list_all (brings_no_line set.table) p.out.notes ≡ true
  pub alike : canon false p.loose p.again ≡ canon false p.loose p.toks

-- and with each; none of them ends in a name that the `(` in front of what follows would call
abbrev pub ArePortions : Setting → ℕ → List Portion → Type 0
ArePortions set depth [] = Unit {0}
ArePortions set depth (p ∷ ps) =
    IsPortion set depth p
    × ((ends_callable set.table p.out.toks && begins_open (flat_map (λ (q : Portion). q.toks) ps)) ≡ false)
    × ArePortions set depth ps

-- expansions that are alike to those of the portions, one by one
abbrev pub AreTheirs : List Portion → List Expanded → Type 0
AreTheirs [] [] = Unit {0}
AreTheirs (p ∷ ps) (e ∷ es) = (canon false p.loose e.toks ≡ canon false p.loose p.out.toks) × AreTheirs ps es
AreTheirs _ _ = ⊥

-- The run that the other tokens make is expanded to theirs, with the same notes, and asks for as much work; no number of
-- the unit is brought.
pub record Composes (set : Setting) (depth before : ℕ) (work : Work) (ps : List Portion) : Type 0 where
  pub parts : List Expanded
  pub out : Expanded
  pub expands : whole set depth before (flat_map (λ (p : Portion). p.again) ps) work ≡ Ok out
  pub theirs : AreTheirs ps parts
  pub toks : out.toks ≡ flat_map (λ (e : Expanded). e.toks) parts
  pub notes : map (plain_note false) out.notes ≡ flat_map (λ (p : Portion). map (plain_note false) p.out.notes) ps
  pub cost : out.left.left + costs_of ps ≡ work.left
  pub counter : out.left.counter ≡ work.counter

-- The law.
abbrev pub PortionsCompose : Type 0
PortionsCompose = (set : Setting) (depth before : ℕ) (work : Work) (ps : List Portion) → ArePortions set depth ps → costs_of ps ≤ work.left → Composes set depth before work ps

-- The law: so it is where lists of portions are in a new order, and they ask for as much as before.
abbrev pub PortionsMove : Type 0
PortionsMove = (set : Setting) (depth before : ℕ) (work : Work) (n : ℕ) (order : List ℕ) (c : Cut) (ps : List Portion) → IsOrder n order → AreOf n c
    → ArePortions set depth (arranged order c ps) → costs_of ps ≤ work.left
    → Composes set depth before work (arranged order c ps) × (costs_of (arranged order c ps) ≡ costs_of ps)
