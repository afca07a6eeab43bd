-- Names with linkage that would become names of the library, in a unit.
use Rattle.std.proofs.Common.{◌≡◌, ℕ, List, ap, ◌∙◌}
use Rattle.std.specs.List.{flat_map}
use Rattle.cs_base.specs.declared.positions.Part.{Part}
use Rattle.cs_base.specs.Token.{Token}
use Rattle.analysis.specs.Below.scope_bind.declared.bound.Name.{Name}
use Rattle.analysis.specs.Analysis.{UnitAnalysis}
use Rattle.rename_rules.specs.LibraryPlaces.{linked_place, linked_places}

-- what calls give of a unit is its own
pub linked_same : (members : List Part) (name : List ℕ) (u : UnitAnalysis) (bound names : List Name) (toks : List Token) → bound ≡ u.bound.names
    → toks ≡ u.text.toks → names ≡ u.bound.names → flat_map (linked_place members name bound toks) names ≡ linked_places members name u
linked_same members name u bound names toks b t n =
    ap (λ (ns : List Name). flat_map (linked_place members name ns toks) names) b
    ∙ ap (λ (ts : List Token). flat_map (linked_place members name u.bound.names ts) names) t
    ∙ ap (λ (ns : List Name). flat_map (linked_place members name u.bound.names u.text.toks) ns) n
