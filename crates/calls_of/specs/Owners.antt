-- The table of the replacement lists of macros.
use Rattle.std.specs.Prelude.{ℕ, ◌≡◌, ◌==◌, ◌&&◌, if◌then◌else◌, List, Option, Some, None}
use Rattle.std.specs.Borrow.{Bor}
use Rattle.std.specs.Option.{option_or, option_copied}
use Rattle.cs_base.specs.declared.positions.Pos.{Pos}
use Rattle.cs_base.specs.Token.{Token}
use Rattle.indexmap.specs.IndexMap.{IndexMap, get_by}
use Rattle.calls_of.specs.Bodies.{Owned, is_pos, owner_among}

-- for a position the name of a macro, where there is one
abbrev pub Owners : Type 0
Owners = Pos → Option Token

-- what the map holds at the key of a position
abbrev pub owner_at : {S : Type 0} → IndexMap (ℕ × ℕ) (Bor Token) S → Owners
owner_at map p = option_copied (get_by (λ k. p.file == k.0 && p.at == k.1) map)

-- These tokens came into the table, each where its position had none.
abbrev pub Grew : List Owned → Owners → Owners → Type 0
Grew toks old new = (p : Pos) → new p ≡ option_or (old p) (owner_among toks p)

-- the table with the name of a macro at a position, where it had none there
abbrev pub owner_with : Token → Pos → Owners → Owners
owner_with name q old p = option_or (old p) (if is_pos q p then Some name else None)
