-- Renamings against which no offence stands (this project's).
use Rattle.std.specs.Prelude.{ℕ, ◌≡◌, true, None, List, Ok}
use Rattle.cs_base.specs.declared.positions.Part.{Part}
use Rattle.lexer.specs.Spelling.{is_identifier_text}
use Rattle.ws_file.specs.Workspace.{WorkspaceValue}
use Rattle.source_files.specs.Files.{Source}
use Rattle.analysis.specs.Analysed.{Analysed}
use Rattle.analysis.specs.Analysis.{analysis_of}
use Rattle.analysis.specs.Classes.{AreItsClasses}
use Rattle.offences.specs.Class.{IsClass}
use Rattle.offences.specs.First.{IsFirst}
use Rattle.rename_rules.specs.Offences.{offences_of}

-- The members of a class of an analysis, and an identifier that they may be spelled as: no offence stands against it, if
-- strings that `#` makes may follow it.
pub record IsAllowed (a : Analysed) (members : List Part) (name : List ℕ) : Type 0 where
  pub source : Source
  pub workspace : WorkspaceValue
  pub accepted : analysis_of source workspace ≡ Ok a.value
  pub own : AreItsClasses a.value a.classes
  pub number : ℕ
  pub class : IsClass a members number
  pub identifier : is_identifier_text name ≡ true
  pub first : IsFirst a.value.table (offences_of a.value members name true) None
