-- The table of the first tokens of external names, as they come into it.
use Rattle.std.specs.Prelude.{ℕ, ◌≡◌, if◌then◌else◌, List, [], ◌∷◌}
use Rattle.std.specs.Option.{option_or}
use Rattle.cs_base.specs.Token.{Token}
use Rattle.analysis.specs.Below.scope_bind.declared.bound.Name.{Name}
use Rattle.analysis.specs.Below.linkage_join.Linkage.{UnitValue as ExternalNames, first_spelled, names_of}
use Rattle.analysis.specs.Below.linkage_join.Firsts.{Table, with_names}
use Rattle.analysis.specs.Links.{is_external_name}

-- token k, if it is the first that declares an entity of external linkage
abbrev pub own_name : List Name → ℕ → Token → List Token
own_name names k t = if is_external_name names k then t ∷ [] else []

-- these names of a project came into the table, each where its spelling had none
abbrev pub Adds : List ℕ → List Token → Table → Table → Type 0
Adds own toks old new = (project text : List ℕ) → new project text ≡ with_names own toks old project text

-- the names of these units did
abbrev pub AddsUnits : List ExternalNames → Table → Table → Type 0
AddsUnits units old new =
    (project text : List ℕ) → new project text ≡ option_or (old project text) (first_spelled text (names_of project units))
