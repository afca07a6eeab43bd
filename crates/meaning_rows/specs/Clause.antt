-- What a renaming that is done keeps (this project's, over ISO/IEC 9899:1999, 5.1.1.2 phases 4 and 7), and what of it speaks of
-- trees and bindings.
use Rattle.std.specs.Prelude.{ℕ, List}
use Rattle.cs_base.specs.declared.positions.Part.{Part}
use Rattle.analysis.specs.Below.ws_file.Workspace.{WorkspaceValue}
use Rattle.analysis.specs.Below.source_files.Files.{Source}
use Rattle.analysis.specs.Analysis.{AnalysisValue}
use Rattle.edited_unit_laws.specs.Lines.{Each}
use Rattle.edited_unit_laws.specs.Analyses.{ReadsAlike}
use Rattle.rename_meaning.specs.KeptUnits.{change}
use Rattle.renamed.specs.Renamed.{AnalysisIsRenamed}

-- The renamed tokens of each unit are read to the tree that it had (Annex A), and bound as they were (6.2).
abbrev pub UnitsReadAlike : AnalysisValue → List Part → List ℕ → Type 0
UnitsReadAlike a members name = Each (ReadsAlike (change a members name).renaming) a.units

-- The law: where a renaming that is done keeps meaning, they are, whatever the files are.
abbrev pub KeptMeaningReadsAlike : Type 0
KeptMeaningReadsAlike = (now : Source) (ws : WorkspaceValue) (a : AnalysisValue) (members : List Part) (name : List ℕ)
    → AnalysisIsRenamed now ws a members name → UnitsReadAlike a members name
