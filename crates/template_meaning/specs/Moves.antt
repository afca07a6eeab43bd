-- The lists of the functions in files may move, where nothing stands against a new order (this project's, over ISO/IEC 9899:1999,
-- 5.1.1.2 phases 1 to 4).
use Rattle.std.specs.Prelude.{ℕ, ◌<◌, List, length, map}
use Rattle.cs_base.specs.declared.positions.Part.{Part}
use Rattle.lexer.specs.Tokens.{tokens_of}
use Rattle.source_files.specs.Files.{Source}
use Rattle.source_files.specs.KeptFiles.{KeptValue}
use Rattle.ws_file.specs.Workspace.{WorkspaceValue}
use Rattle.analysis.specs.Analysis.{AnalysisValue}
use Rattle.reordered_text_laws.specs.Marks.{spans_by}
use Rattle.template_meaning.specs.Accepted.{IsAccepted}
use Rattle.reordered.specs.Reorder.{HoldsLists}
use Rattle.template_meaning.specs.Spans.{SpansMove}
use Rattle.template_meaning.specs.Files.{file_marks}

-- The law: the lists of each file may move, by the numbers of its tokens.
abbrev pub FileListsMove : Type 0
FileListsMove = (source : Source) (ws : WorkspaceValue) (a : AnalysisValue) (members : List Part) (order : List ℕ) → IsAccepted source ws a members order → 0 < length order
    → (f : KeptValue) → HoldsLists a members f → SpansMove members order a f (map spans_by (file_marks members a f.number (tokens_of f.number f.bytes)))
