-- The files of an analysis once edits are made, as inner functions know them.
use Rattle.std.specs.Prelude.{ℕ, ◌≡◌, ◌<◌, if◌then◌else◌, false, Option, Some, None, List, [], ◌∷◌, length, map}
use Rattle.std.specs.Option.{unwrap_or}
use Rattle.std.specs.Str.{bytes_eq}
use Rattle.cs_base.specs.Edit.{Edit}
use Rattle.cs_base.specs.Outside.{FileMap, bytes_at}
use Rattle.analysis.specs.Below.source_files.Files.{Table, absent_at}
use Rattle.analysis.specs.Below.source_files.KeptFiles.{KeptValue, kept_at}
use Rattle.analysis.specs.Below.include_tree.PseudoFiles.{is_pseudo}
use Rattle.analysis.specs.Below.unit_steps.Texts.{UnitTextValue}
use Rattle.analysis.specs.Analysis.{UnitAnalysis, AnalysisValue}
use Rattle.analysis.specs.Texts.{TextsValue}
use Rattle.macro_plan.specs.Kept.{plains}

-- the new bytes of a path, if one of the edits has some
abbrev pub bytes_for : List ℕ → List Edit → Option (List ℕ)
bytes_for path [] = None
bytes_for path (e ∷ edits) = if bytes_eq e.path path then Some e.bytes else bytes_for path edits

-- the bytes of a kept file once the edits are made
abbrev pub edited_bytes : List Edit → KeptValue → List ℕ
edited_bytes edits f = unwrap_or (bytes_for f.path edits) f.bytes

-- A path and bytes are those of a kept file that is no pseudo file, once the edits are made.
pub record IsEditedFile (table : Table) (edits : List Edit) (path bytes : List ℕ) : Type 0 where
  pub number : ℕ
  pub file : KeptValue
  pub kept : kept_at table number ≡ Some file
  pub same_path : file.path ≡ path
  pub real : is_pseudo file.path ≡ false
  pub edited : edited_bytes edits file ≡ bytes

-- So is each of these files.
abbrev pub AreEdited : Table → List Edit → FileMap → Type 0
AreEdited table edits files = (path bytes : List ℕ) → bytes_at path files ≡ Some bytes → IsEditedFile table edits path bytes

-- A path has this number as one that was asked for and not there, and no edit makes it.
abbrev pub IsStillAbsent : Table → List Edit → ℕ → List ℕ → Type 0
IsStillAbsent table edits number path = (absent_at table number ≡ Some path) × (bytes_for path edits ≡ None)

-- A path that was asked for and not there was asked for in the analysis and not there, and no edit makes it.
abbrev pub StaysAbsent : Table → List Edit → Table → ℕ → Type 0
StaysAbsent table edits other number = (path : List ℕ) → absent_at other number ≡ Some path → IsStillAbsent table edits number path

-- So is each of those with a number before this one.
abbrev pub StayAbsent : Table → List Edit → Table → ℕ → Type 0
StayAbsent table edits other count = (number : ℕ) → number < count → StaysAbsent table edits other number

-- What was asked for and not there stays so, and each unit has the tokens that it had.
pub record StayAlike (a : AnalysisValue) (edits : List Edit) (t : TextsValue) : Type 0 where
  pub absent : StayAbsent a.table edits t.table (length t.table)
  pub alike : map (λ (x : UnitTextValue). plains x.toks) t.texts ≡ map (λ (u : UnitAnalysis). plains u.text.toks) a.units
