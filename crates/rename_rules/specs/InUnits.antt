-- What stands against a renaming in texts of units, cause by cause.
use Rattle.std.specs.Prelude.{ℕ, if◌then◌else◌, Bool, false, None, List}
use Rattle.std.specs.List.{flat_map}
use Rattle.cs_base.specs.declared.causes.Cause.TheVariants as cause
use Rattle.cs_base.specs.declared.positions.Part.{Part}
use Rattle.cs_base.specs.declared.positions.Pos.{Pos}
use Rattle.cs_base.specs.Token.{Token}
use Rattle.analysis.specs.Analysis.{AnalysisValue}
use Rattle.offences.specs.First.{standing, FirstThen}
use Rattle.rename_rules.specs.declared.unit_offences.InUnits.{InUnits}
use Rattle.rename_rules.specs.Escapes.{escaped_places_of}
use Rattle.rename_rules.specs.Offences.{header_places, kept_string_places, occurring_place, shadowed_places}
use Rattle.rename_rules.specs.Tokens.{holders, pasted_tokens, starts_in}

-- Stringized, in the tokens of strings: those of a unit
abbrev pub kept_in : List Part → Bool → List Token → List Pos
kept_in members strings toks = if strings then escaped_places_of members false toks else flat_map (starts_in members) toks

-- These are the first of each cause.
pub record AreInUnits (a : AnalysisValue) (members : List Part) (name : List ℕ) (strings : Bool) (f : InUnits) : Type 0 where
  pub kept : FirstThen a.table (standing cause.Stringized (kept_string_places a members strings)) None f.strings
  pub headers : FirstThen a.table (standing cause.HeaderName (header_places a members)) None f.headers
  pub pasted : FirstThen a.table (standing cause.Occurs (flat_map (occurring_place members name (holders a members)) (pasted_tokens a))) None f.pasted
  pub bare : FirstThen a.table (standing cause.ShadowedTypedef (shadowed_places a members)) None f.bare
