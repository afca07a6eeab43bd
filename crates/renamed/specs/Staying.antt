-- What stays under every renaming: all but spellings, origins, positions and the bytes of files.
use Rattle.std.specs.Prelude.{◌≡◌, List, map}
use Rattle.cs_base.specs.Token.{Token}
use Rattle.analysis.specs.Below.source_files.Files.{Table}
use Rattle.analysis.specs.Below.unit_steps.Texts.{UnitTextValue}
use Rattle.analysis.specs.Analysis.{UnitAnalysis, AnalysisValue}
use Rattle.analysis.specs.Changed.{Renaming, Editing, renamed_text, renamed_analysis, edited_table}

-- Tokens, one for each: of the same kinds, with the same white space before them, on the same lines, directly there or not.
pub record TokensStay (old new : List Token) : Type 0 where
  pub kinds : map (λ (t : Token). t.kind) new ≡ map (λ (t : Token). t.kind) old
  pub gaps : map (λ (t : Token). t.gap) new ≡ map (λ (t : Token). t.gap) old
  pub lines : map (λ (t : Token). t.line) new ≡ map (λ (t : Token). t.line) old
  pub direct : map (λ (t : Token). t.direct) new ≡ map (λ (t : Token). t.direct) old

-- The law: so it is with the tokens of a text.
abbrev pub RenamedTokensStay : Type 0
RenamedTokensStay = (r : Renaming) (k : UnitTextValue) → TokensStay k.toks (renamed_text r k).toks

-- The law: a table has the paths that it had, by their numbers.
abbrev pub EditedPathsStay : Type 0
EditedPathsStay = (edit : Editing) (table : Table) → map (λ e. e.path) (edited_table edit table) ≡ map (λ e. e.path) table

-- Units, one for each: with the trees that they had, and their identifiers bound as they were.
pub record UnitsStay (old new : List UnitAnalysis) : Type 0 where
  pub trees : map (λ (u : UnitAnalysis). u.tree) new ≡ map (λ (u : UnitAnalysis). u.tree) old
  pub bindings : map (λ (u : UnitAnalysis). u.bound) new ≡ map (λ (u : UnitAnalysis). u.bound) old

-- The law: so it is with the units of an analysis.
abbrev pub RenamedUnitsStay : Type 0
RenamedUnitsStay = (r : Renaming) (edit : Editing) (a : AnalysisValue) → UnitsStay a.units (renamed_analysis r edit a).units
