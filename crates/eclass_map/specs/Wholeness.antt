-- Which added token some origins are, and whether all origins are whole tokens.
use Rattle.std.specs.Prelude.{ℕ, ◌+◌, ◌≡◌, ◌<◌, List, [], map, Option, Some, None, slice_get}
use Rattle.cs_base.specs.declared.positions.Pos.{Pos}
use Rattle.cs_base.specs.declared.positions.Part.{Part}
use Rattle.eclass_map.specs.declared.token_list.Added.{Added}
use Rattle.eclass_map.specs.ClassTable.{Table}
use Rattle.class_labels.specs.Labels.{no_labels}
use Rattle.eclass_map.specs.Positions.{along}

-- a table of these tokens alone
abbrev pub of_tokens : List Added → Table
of_tokens tokens = record { tokens = tokens; places = []; labels = no_labels }

abbrev pub IsIn : List Added → Part → Type 0
IsIn tokens token = (k : ℕ) × (slice_get (map (λ (r : Added). r.place) tokens) k ≡ Some token)

-- the origins from number k on are the characters of the part
abbrev pub LiesAt : List (Option Pos) → ℕ → Part → Type 0
LiesAt origins k part = (o : ℕ) → o < part.len → slice_get origins (k + o) ≡ Some (Some (along part.start o))

-- the token of the list that begins at the character, or none where none does
abbrev pub TellsBeginning : List Added → Pos → Option Part → Type 0
TellsBeginning tokens pos None = (token : Part) → IsIn tokens token → token.start ≡ pos → ⊥
TellsBeginning tokens pos (Some token) = IsIn tokens token × (token.start ≡ pos)

-- the token of the list that the origins from number k on are, or none where none is
abbrev pub TellsToken : List Added → List (Option Pos) → ℕ → Option Part → Type 0
TellsToken tokens origins k None = (token : Part) → IsIn tokens token → LiesAt origins k token → ⊥
TellsToken tokens origins k (Some token) = IsIn tokens token × LiesAt origins k token
