-- Names of external linkage over the units of a program (ISO/IEC 9899:1999, 6.2.2 paragraph 2).
-- Differs: a program is a project of the workspace file, so a name is joined within its project alone.
use Rattle.std.specs.Prelude.{ℕ, List, [], ◌∷◌, ◌++◌, Option, None, Some, filter, find}
use Rattle.std.specs.List.{flat_map}
use Rattle.std.specs.Str.{bytes_eq}
use Rattle.cs_base.specs.Token.{Token}
use Rattle.cs_base.specs.declared.tokens.Link.{Link}

-- a unit: its project, and for each of its names of external linkage the first token that is one
pub record UnitValue : Type 0 where
  pub project : List ℕ
  pub names : List Token

-- a unit of these parts
abbrev pub unit : List ℕ → List Token → UnitValue
unit project names = record { project = project; names = names }

-- the first token of the spelling
abbrev pub first_spelled : List ℕ → List Token → Option Token
first_spelled text toks = find (λ t. bytes_eq text t.text) toks

-- the tokens of all units of the project, in order
abbrev pub names_of : List ℕ → List UnitValue → List Token
names_of project units = flat_map (λ u. u.names) (filter (λ u. bytes_eq project u.project) units)

-- An identifier of external linkage denotes one entity in each unit of its program (6.2.2 paragraph 2):
-- this token and the first one of its spelling in the earlier units are linked, where there is one.
abbrev pub link_to : Option Token → Token → List Link
link_to None t = []
link_to (Some first) t = record { x = t; y = first } ∷ []

-- the links of one unit with the units before it, in order of its names
abbrev pub unit_links : List UnitValue → UnitValue → List Link
unit_links earlier u = flat_map (λ t. link_to (first_spelled t.text (names_of u.project earlier)) t) u.names

-- the links of units that stand after others, in order
abbrev pub links_after : List UnitValue → List UnitValue → List Link
links_after earlier [] = []
links_after earlier (u ∷ units) = unit_links earlier u ++ links_after (earlier ++ u ∷ []) units

-- the links of external names of these units
abbrev pub links_of : List UnitValue → List Link
links_of units = links_after [] units
