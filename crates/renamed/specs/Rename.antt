-- What a rename promises (this project's, over ISO/IEC 9899:1999, 5.1.1.2 phases 1 to 7): exactly the named class changes, and
-- meaning is kept. Between the files before and now, in a workspace.
use Rattle.std.specs.Prelude.{ℕ, ◌≡◌, ◌≢◌, Bool, List, Some, None, Ok, All}
use Rattle.cs_base.specs.declared.positions.Part.{Part}
use Rattle.cs_base.specs.Edit.{Edit}
use Rattle.cs_base.specs.Units.{UnitValue}
use Rattle.ws_file.specs.Workspace.{WorkspaceValue}
use Rattle.analysis.specs.Below.source_files.Files.{Source}
use Rattle.analysis.specs.Below.source_files.KeptFiles.{KeptValue}
use Rattle.analysis.specs.Analysis.{AnalysisValue, analysis_of}
use Rattle.analysis.specs.Naming.{Names}
use Rattle.analysis.specs.Parts.{AreMembers}
use Rattle.analysis.specs.Tables.{IsOpened}
use Rattle.edited_files.specs.Edited.{AreMade}
use Rattle.offences.specs.Class.{NamedClass}
use Rattle.offences.specs.First.{IsAmong, IsFirst}
use Rattle.rename_rules.specs.Offences.{offences_of}
use Rattle.rename_rules.specs.Runs.{runs, file_of, new_bytes}
use Rattle.renamed.specs.Renamed.{TextsAreRenamed, AnalysisIsRenamed, ExternalNamesAreKept}

-- these members are all that stand in the file
abbrev pub HoldsMembers : AnalysisValue → List Part → List Part → KeptValue → Type 0
HoldsMembers a members run f = IsAmong (runs members) run × (file_of a run ≡ Some f)

-- Files before and after: each that holds members held the bytes that were read, and holds them with its members respelled: no
-- other byte changed. Every other path holds what it held.
pub record AreRespelled (a : AnalysisValue) (members : List Part) (name : List ℕ) (before now : Source) : Type 0 where
  pub edited : (run : List Part) (f : KeptValue) → HoldsMembers a members run f → (before f.path ≡ Some f.bytes) × (now f.path ≡ Some (new_bytes name run f))
  pub others : (path : List ℕ) → ((run : List Part) (f : KeptValue) → HoldsMembers a members run f → f.path ≢ path) → now path ≡ before path

-- The class that a place names has the new name.
pub record IsRename (ws : WorkspaceValue) (path : List ℕ) (line column : ℕ) (name : List ℕ) (strings : Bool) (before now : Source) (r : NamedClass) : Type 0 where
  -- every unit is accepted
  pub analysed : analysis_of before ws ≡ Ok r.analysis
  -- the file of each unit is among those that were read
  pub units : All (λ (unit : UnitValue). IsOpened unit.path r.analysis.table) ws.units
  -- the place names the part
  pub named : Names r.analysis path line column (Some r.part)
  -- these are all that must be spelled as it is
  pub class : AreMembers r.analysis r.part r.members
  -- no reason stands against the renaming, if strings that `#` makes may follow it or not
  pub clear : IsFirst r.analysis.table (offences_of r.analysis r.members name strings) None
  -- the members are respelled, and nothing else is
  pub files : AreRespelled r.analysis r.members name before now
  -- each unit preprocesses to the tokens that it had, with the members respelled
  pub texts : TextsAreRenamed now ws r.analysis r.members name
  -- and these are read to the tree that it had, and bound name for name as before
  pub meaning : AnalysisIsRenamed now ws r.analysis r.members name
  -- and two identifiers of external linkage, of whatever units, denote one entity exactly where they did
  pub shared : ExternalNamesAreKept now ws r.analysis

-- Edits rename the class that a place names: so it is over each source with this analysis, once they are made.
abbrev pub RenamesOver : WorkspaceValue → AnalysisValue → List ℕ → ℕ → ℕ → List ℕ → Bool → List Edit → Type 0
RenamesOver ws a path line column name strings edits =
    (before now : Source) → analysis_of before ws ≡ Ok a → AreMade edits before now
    → (r : NamedClass) × IsRename ws path line column name strings before now r
