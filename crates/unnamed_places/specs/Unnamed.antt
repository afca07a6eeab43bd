-- Why a place names nothing (this project's): the first step on the way from a place to a part that fails.
use Rattle.std.specs.Prelude.{ℕ, ◌≡◌, ◌&&◌, Bool, true, false, Option, Some, None, List}
use Rattle.std.specs.List.{list_any}
use Rattle.std.specs.Option.{option_map_or}
use Rattle.std.specs.Str.{bytes_eq}
use Rattle.cs_base.specs.declared.positions.Part.{Part}
use Rattle.cs_base.specs.declared.positions.Pos.{Pos}
use Rattle.cs_base.specs.Token.{Token}
use Rattle.eclass_map.specs.Positions.{holds}
use Rattle.line_shape.specs.Signs.{is_name}
use Rattle.analysis.specs.Below.lexer.Tokens.{tokens_of}
use Rattle.analysis.specs.Below.source_files.KeptFiles.{KeptValue, kept_at}
use Rattle.analysis.specs.Analysis.{AnalysisValue}
use Rattle.analysis.specs.FileTokens.{span_of}
use Rattle.analysis.specs.Naming.{Names, character_of}
use Rattle.unnamed_places.specs.declared.steps.FailedStep.{FailedStep}
use Rattle.unnamed_places.specs.declared.steps.FailedStep.TheVariants.{NoFile, NoCharacter, NoIdentifier, Unprocessed}

-- a file of this path, which the units read
pub record IsFile (a : AnalysisValue) (path : List ℕ) (file : KeptValue) : Type 0 where
  pub number : ℕ
  pub is_kept : kept_at a.table number ≡ Some file
  pub own : file.path ≡ path

-- the identifier holds the position
abbrev pub is_name_over : Pos → Token → Bool
is_name_over p t = is_name t && holds (span_of t) p

-- the position lies in an identifier of the file
abbrev pub in_name : KeptValue → Pos → Bool
in_name file p = list_any (is_name_over p) (tokens_of file.number file.bytes)

-- why no character of a file names anything
abbrev pub IsWhyIn : KeptValue → ℕ → ℕ → FailedStep → Type 0
IsWhyIn file line column NoFile = ⊥
IsWhyIn file line column NoCharacter = character_of line column file ≡ None
IsWhyIn file line column NoIdentifier = (p : Pos) × (character_of line column file ≡ Some p) × (in_name file p ≡ false)
IsWhyIn file line column Unprocessed = (p : Pos) × (character_of line column file ≡ Some p) × (in_name file p ≡ true)

-- No unit reads a file of the path; or that file has no such character, or it lies in no identifier; or it does, and no unit
-- processes that one.
abbrev pub IsWhy : AnalysisValue → List ℕ → ℕ → ℕ → FailedStep → Type 0
IsWhy a path line column NoFile = (file : KeptValue) → IsFile a path file → ⊥
IsWhy a path line column why = (file : KeptValue) × IsFile a path file × IsWhyIn file line column why

-- Why the place names nothing, or none where it names a part.
abbrev pub IsUnnamed : AnalysisValue → List ℕ → ℕ → ℕ → Option FailedStep → Type 0
IsUnnamed a path line column None = (part : Part) × Names a path line column (Some part)
IsUnnamed a path line column (Some why) = Names a path line column None × IsWhy a path line column why

-- ---- what inner functions promise each other

-- the kept file of a number has this path
abbrev pub has_path_at : AnalysisValue → List ℕ → ℕ → Bool
has_path_at a path number = option_map_or (λ f. bytes_eq path f.path) (kept_at a.table number) false
