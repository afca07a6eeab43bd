-- The analysis of a workspace over edited files (ISO/IEC 9899:1999, 5.1.1.2 phases 4 and 7).
use Rattle.std.specs.Prelude.{◌≡◌, ℕ, List, map, Ok}
use Rattle.cs_base.specs.Units.{UnitValue}
use Rattle.ws_file.specs.Workspace.{WorkspaceValue}
use Rattle.macro_expand.specs.Renaming.{Renaming}
use Rattle.source_files.specs.Files.{Source, Table, Carried, nothing_carried}
use Rattle.source_files.specs.Tables.{IsGrown}
use Rattle.analysis.specs.Below.c99_read.Reading.{read_of}
use Rattle.analysis.specs.Below.c99_grammar.Dialects.{dialect}
use Rattle.analysis.specs.Below.c99_grammar.Standard.{grammar}
use Rattle.analysis.specs.Below.gnu_bind.Bound.{binding_by}
use Rattle.analysis.specs.Texts.{texts_and, texts_from}
use Rattle.analysis.specs.Analysis.{UnitAnalysis, UnitsValue, units_and, AnalysisValue, analysed_from, analysis_of}
use Rattle.edited_unit_laws.specs.Lines.{Each}
use Rattle.edited_unit_laws.specs.Edited.{edited_carried}
use Rattle.edited_unit_laws.specs.Keeping.{Change}
use Rattle.edited_unit_laws.specs.UnitTexts.{promised}
use Rattle.edited_unit_laws.specs.WorkspaceTexts.{MacroNames, KeepsUnits}
use Rattle.analysis.specs.Changed.{edited_table, texts_in}
use Rattle.analysis.specs.Changed as page

-- ---- what an analysis is made of

-- The tokens of a unit are read by its standard to its tree (Annex A), and bound so (6.2).
pub record IsRead (u : UnitAnalysis) : Type 0 where
  pub reads : read_of (grammar (dialect u.standard)) u.text.toks ≡ Ok u.tree
  pub binds : binding_by u.standard u.text.toks u.tree ≡ Ok u.bound

-- they are of the standards of these units
abbrev pub AreOfStandards : List UnitValue → List UnitAnalysis → Type 0
AreOfStandards units us = map (λ u. u.standard) us ≡ map (λ u. u.standard) units

-- The law: units that are accepted have these standards, texts and this table, and each text is read and bound so.
abbrev pub AnalysesHaveTexts : Type 0
AnalysesHaveTexts = (source : Source) (number : ℕ) (units : List UnitValue) (before : Carried) (v : UnitsValue)
    → analysed_from source number units before ≡ Ok v
    → (texts_from source number units before ≡ Ok (texts_and (texts_in v.units) v.table)) × (Each IsRead v.units × AreOfStandards units v.units)

-- The law: where units have these standards and texts, and each is read and bound so, they are accepted, and this is their analysis.
abbrev pub TextsHaveAnalyses : Type 0
TextsHaveAnalyses = (source : Source) (number : ℕ) (units : List UnitValue) (before : Carried) (us : List UnitAnalysis) (table : Table)
    → texts_from source number units before ≡ Ok (texts_and (texts_in us) table) → Each IsRead us → AreOfStandards units us
    → analysed_from source number units before ≡ Ok (units_and us table)

-- ---- the same over edited files

-- a unit over the edited files: its text is renamed; its tree, and what its identifiers denote, are as before
abbrev pub renamed_unit_analysis : Renaming → UnitAnalysis → UnitAnalysis
renamed_unit_analysis r u = page.renamed_unit_analysis (promised r) u

-- units over the edited files, and an analysis: each unit is renamed, and the table has the edited bytes
abbrev pub renamed_units : Change → UnitsValue → UnitsValue
renamed_units c v = units_and (map (renamed_unit_analysis c.renaming) v.units) (edited_table c.editing v.table)

abbrev pub renamed_analysis : Change → AnalysisValue → AnalysisValue
renamed_analysis c a = page.renamed_analysis (promised c.renaming) c.editing a

-- the renamed tokens of a unit are read to the tree that it had, and bound as they were
abbrev pub ReadsAlike : Renaming → UnitAnalysis → Type 0
ReadsAlike r u = IsRead (renamed_unit_analysis r u)

-- The law: units that are accepted are so over the edited files, and their analysis is the renamed one.
abbrev pub UnitAnalysesAreRenamed : Type 0
UnitAnalysesAreRenamed = (c : Change) (names : MacroNames) (old new : Source) (number : ℕ) (units : List UnitValue) (before : Carried) (v : UnitsValue)
    → analysed_from old number units before ≡ Ok v → IsGrown v.table c.files → KeepsUnits c names old new number units before
    → Each (ReadsAlike c.renaming) v.units → analysed_from new number units (edited_carried c.editing before) ≡ Ok (renamed_units c v)

-- The same of a workspace, where the files of the change are those that its units have in the end.
abbrev pub WorkspaceAnalysisIsRenamed : Type 0
WorkspaceAnalysisIsRenamed = (c : Change) (names : MacroNames) (old new : Source) (ws : WorkspaceValue) (a : AnalysisValue)
    → analysis_of old ws ≡ Ok a → a.table ≡ c.files → KeepsUnits c names old new 1 ws.units nothing_carried
    → Each (ReadsAlike c.renaming) a.units → analysis_of new ws ≡ Ok (renamed_analysis c a)
