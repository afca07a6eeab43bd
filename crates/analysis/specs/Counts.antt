-- How many tokens the units of an analysis have (ISO/IEC 9899:1999, 5.2.4.1: a translation limit of this project).
use Rattle.std.specs.Prelude.{ℕ, ◌≡◌, ◌≤◌, ◌+◌, List, [], ◌∷◌, Ok, length}
use Rattle.cs_base.specs.Limits.{most_tokens_of_all}
use Rattle.ws_file.specs.Workspace.{WorkspaceValue, IsWorkspace}
use Rattle.include_tree.specs.Below.source_files.Files.{Source}
use Rattle.analysis.specs.Analysis.{UnitAnalysis, AnalysisValue, analysis_of}

-- the tokens of all units together
abbrev pub tokens_in : List UnitAnalysis → ℕ
tokens_in [] = 0
tokens_in (u ∷ units) = length u.text.toks + tokens_in units

-- They are at most the limit on those of all units.
abbrev pub TokensAreFew : Type 0
TokensAreFew = (source : Source) (ws : WorkspaceValue) (a : AnalysisValue) → IsWorkspace ws → analysis_of source ws ≡ Ok a → tokens_in a.units ≤ most_tokens_of_all
