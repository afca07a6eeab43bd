-- What lasts behind an item of a list: its own name, and nothing that stands in lists in it (ISO/IEC 9899:1999, 6.2.1
-- paragraph 4).
use Rattle.std.specs.Prelude.{ℕ, ◌+◌, ◌≤◌, ◌≡◌, ◌==◌, ◌⊎◌, Bool, true, false, ◌&&◌, ◌||◌, not, List, ◌++◌}
use Rattle.std.specs.List.{All}
use Rattle.cs_base.specs.Token.{Token}
use Rattle.c99_tree.specs.Tree.{Forest, none, token, node}
use Rattle.c99_tree.specs.declared.production.Label.{Label}
use Rattle.c99_tree.specs.declared.production.Production.TheVariants.{SuRest, EnRest}
use Rattle.c_types.specs.Trees.{is_at}
use Rattle.c_types.specs.Declarations.{Facts, is_space}
use Rattle.name_chains.specs.Frames.{State}
use Rattle.scope_bind.specs.Named.{Declaration, Occurrence, ordinary}
use Rattle.scope_bind.specs.Walk.{walked}
use Rattle.tree_laws.specs.TreesOfTexts.{token_count, AreFrom, have_forms}
use Rattle.reordered_tree_laws.specs.Adding.{is_adding}
use Rattle.reordered_tree_laws.specs.Beside.{is_apart, StandBeside}
use Rattle.reordered_tree_laws.specs.Ranges.{has_range}
use Rattle.reordered_tree_laws.specs.Premises.{is_quiet}

-- each tag below some children passes the test; so many children stand before them
abbrev pub tags_pass : (ℕ → Bool) → Label → ℕ → Forest → Bool
tags_pass test l k none = true
tags_pass test l k (token i rest) = (not ((is_at l SuRest 1 || is_at l EnRest 1) && (k == 0)) || test i) && tags_pass test l (k + 1) rest
tags_pass test l k (node m first under rest) = tags_pass test m 0 under && tags_pass test l (k + 1) rest

-- an ordinary identifier that may last, in the scope with so many around it
pub record IsLast (lasting : ℕ → Bool) (around : ℕ) (d : Declaration) : Type 0 where
  pub space : is_space d.space ordinary ≡ true
  pub name : lasting d.name_at ≡ true
  pub depth : d.depth ≡ around

-- a declaration with a range was there before, has ended, or is such a one
abbrev pub IsQuiet : (Declaration → Type 0) → (ℕ → Bool) → ℕ → ℕ → Declaration → Type 0
IsQuiet P lasting depth behind d = has_range d.space ≡ true → P d ⊎ ((d.to ≤ behind) ⊎ IsLast lasting depth d)

-- Behind a part in which only these names can last, and no tag is declared, all that it has declared has ended but for them.
abbrev pub NamesLast : Type 0
NamesLast =
    (old : Declaration → Bool) (lasting barred : ℕ → Bool) (toks : List Token) (f : Forest) (within : Bool) (lo : ℕ) (s : State) → 1 ≤ lo → AreFrom lo f
    → have_forms f ≡ true → is_adding (λ i. true) within s.frame.label f ≡ true → is_quiet lasting s.frame.label f ≡ true
    → tags_pass barred s.frame.label s.frame.nth f ≡ true
    → All (λ (o : Occurrence). (o.declares && barred o.index) ≡ false) (walked toks f s).facts.occurrences
    → All (λ d. old d ≡ true) s.facts.declared
    → All (IsQuiet (λ d. old d ≡ true) lasting s.frame.scope.depth (lo + token_count f)) (walked toks f s).facts.declared

-- ---- What is added behind other items

-- the same declarations have been added to what was known in two states
pub record AddAlike (f g x y : Facts) : Type 0 where
  pub declared : List Declaration
  pub first : x.declared ≡ declared ++ f.declared
  pub second : y.declared ≡ declared ++ g.declared

-- A part like an item adds the same declarations whatever stands beside it that it does not ask for.
abbrev pub ItemsAddAlike : Type 0
ItemsAddAlike =
    (toks : List Token) (foreign : ℕ → Bool) (ds es : List Declaration) (bs cs : List Occurrence) (f : Forest) (within : Bool) (lo : ℕ) (s t : State)
    → foreign 0 ≡ false → StandBeside foreign ds es bs cs s t
    → is_apart foreign toks ds s.frame.label s.frame.nth s.frame.scope f ≡ true
    → is_apart foreign toks es s.frame.label s.frame.nth s.frame.scope f ≡ true → AreFrom lo f → have_forms f ≡ true
    → is_adding (λ i. true) within s.frame.label f ≡ true → AddAlike s.facts t.facts (walked toks f s).facts (walked toks f t).facts
