-- The lists of the functions in the tokens of files, by their marks, where nothing stands against a new order (ISO/IEC 9899:1999,
-- 5.1.1.2 phases 3 and 4).
use Rattle.std.specs.Prelude.{ℕ, ◌<◌, ◌≡◌, List, length, map, Some}
use Rattle.cs_base.specs.declared.positions.Part.{Part}
use Rattle.cs_base.specs.Token.{Token}
use Rattle.source_files.specs.Files.{Source, SourceFile}
use Rattle.source_files.specs.Sources.{source_at}
use Rattle.unit_laws.specs.UnitLinks.{IsIn}
use Rattle.ws_file.specs.Workspace.{WorkspaceValue}
use Rattle.analysis.specs.Analysis.{UnitAnalysis, AnalysisValue}
use Rattle.list_cuts.specs.Cuts.{Cut}
use Rattle.list_cuts.specs.CutOf.{cut_of}
use Rattle.reordered_text_laws.specs.MarkedCuts.{HasCut}
use Rattle.reordered_text_laws.specs.Marks.{spans_by}
use Rattle.unit_laws.specs.Files.{FileCuts, RunsMark}
use Rattle.template_rules.specs.FileLists.{all_found, lists_in, begun_before}
use Rattle.template_meaning.specs.Accepted.{IsAccepted}
use Rattle.template_meaning.specs.Units.{run_cut, HavePrototypes}

-- the marks of lists by the numbers of the tokens that begin at these characters
abbrev pub token_marks : List Token → List (List ℕ) → List (List ℕ)
token_marks toks ls = map (map (begun_before toks)) ls

-- the marks of the lists in a file with these tokens
abbrev pub file_marks : List Part → AnalysisValue → ℕ → List Token → List (List ℕ)
file_marks members a number toks = token_marks toks (lists_in (all_found members a) number)

-- where the lists stand among the tokens of the file
abbrev pub file_cut : List Part → AnalysisValue → ℕ → List Token → Cut
file_cut members a number toks = cut_of (map spans_by (file_marks members a number toks))

-- these are the cuts of the files
abbrev pub AreCutsOf : List Part → AnalysisValue → FileCuts → Type 0
AreCutsOf members a cuts = (file : SourceFile) → source_at a.table file.number ≡ Some file → cuts file.number ≡ file_cut members a file.number file.text.toks

-- The lists of a file are nested, and have a cut; and in each run that a unit reached stand the lists that the cut of its file has
-- there, and no others.
pub record ListsAreInFiles (members : List Part) (a : AnalysisValue) : Type 0 where
  pub nested : (file : SourceFile) → source_at a.table file.number ≡ Some file → HasCut (length file.text.toks) (file_marks members a file.number file.text.toks)
  pub runs : (cuts : FileCuts) → AreCutsOf members a cuts → (u : UnitAnalysis) → IsIn a.units u → RunsMark cuts a.table (run_cut members u) u.text

-- The law: so it is where no offence stands against an order that is not empty.
abbrev pub FilesHaveLists : Type 0
FilesHaveLists = (source : Source) (ws : WorkspaceValue) (a : AnalysisValue) (members : List Part) (order : List ℕ) → IsAccepted source ws a members order → 0 < length order
    → ((u : UnitAnalysis) → IsIn a.units u → HavePrototypes members u) → ListsAreInFiles members a
