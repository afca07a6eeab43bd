-- Where the ranges of declarations begin and end that a part of a unit adds (ISO/IEC 9899:1999, 6.2.1 paragraph 4).
use Rattle.std.specs.Prelude.{ℕ, ◌+◌, ◌≤◌, ◌≡◌, Bool, true, false, List, ◌⊎◌}
use Rattle.std.specs.List.{All}
use Rattle.cs_base.specs.Token.{Token}
use Rattle.c99_tree.specs.Tree.{Forest}
use Rattle.c_types.specs.declared.declarations.Space.TheVariants.{Ordinary as ordinary, Tags as tags}
use Rattle.name_chains.specs.Frames.{State}
use Rattle.scope_bind.specs.Named.{Space, Declaration}
use Rattle.scope_bind.specs.Walk.{walked}
use Rattle.tree_laws.specs.TreesOfTexts.{token_count, AreFrom, have_forms}

-- an ordinary identifier or a tag, whose range is asked for
abbrev pub has_range : Space → Bool
has_range ordinary = true
has_range tags = true
has_range _ = false

-- the range has begun where the part ends, and it has ended there or ends with the scope around it
pub record IsAdded (behind scope : ℕ) (d : Declaration) : Type 0 where
  pub begins : d.from ≤ behind
  pub ends : (d.to ≤ behind) ⊎ (d.to ≡ scope)

-- .. or the declaration was there before
abbrev pub IsFine : (Declaration → Type 0) → ℕ → ℕ → Declaration → Type 0
IsFine P behind scope d = has_range d.space ≡ true → P d ⊎ IsAdded behind scope d

-- A range that a part behind the first token adds begins in it, and ends in it or with the scope that it stands in: so each
-- that lasts when the next part begins lasts through it. `old` holds of what was declared before.
abbrev pub RangesEndWithScopes : Type 0
RangesEndWithScopes =
    (old : Declaration → Bool) (toks : List Token) (f : Forest) (lo : ℕ) (s : State) → 1 ≤ lo → AreFrom lo f → have_forms f ≡ true
    → All (λ d. old d ≡ true) s.facts.declared
    → All (IsFine (λ d. old d ≡ true) (lo + token_count f) s.frame.scope.to) (walked toks f s).facts.declared
