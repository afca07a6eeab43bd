-- Lists of a file in whose lines no token stands that is of no other kind, where nothing stands against a new order (ISO/IEC
-- 9899:1999, 6.4 paragraph 3).
use Rattle.std.specs.Prelude.{ℕ, ◌-◌, ◌<◌, ◌≡◌, true, false, List, length, map, Some, slice_get}
use Rattle.cs_base.specs.declared.positions.Part.{Part}
use Rattle.cs_base.specs.Token.{Token}
use Rattle.lexer.specs.Tokens.{tokens_of}
use Rattle.source_files.specs.Files.{Source, SourceFile}
use Rattle.source_files.specs.KeptFiles.{KeptValue, kept_at}
use Rattle.source_files.specs.Sources.{source_at}
use Rattle.unit_laws.specs.UnitLinks.{IsIn}
use Rattle.ws_file.specs.Workspace.{WorkspaceValue}
use Rattle.analysis.specs.Analysis.{UnitAnalysis, AnalysisValue}
use Rattle.list_cuts.specs.declared.spans.Span.{Span}
use Rattle.arranged_text_laws.specs.Lists.{is_line_among, place_of, begin_of, close_of}
use Rattle.arranged_text_laws.specs.Calm.{is_odd}
use Rattle.reordered_text_laws.specs.Marks.{Each, spans_by}
use Rattle.template_meaning.specs.Accepted.{IsAccepted}
use Rattle.template_meaning.specs.Files.{file_marks}
use Rattle.template_meaning.specs.Units.{HavePrototypes}

-- No token that is of no other kind stands in one of the lines of the list, from that of its `(` to that of its `)`.
abbrev pub IsEven : ℕ → List ℕ → List Span → Type 0
IsEven number bytes l = (k : ℕ) (t : Token) → slice_get (tokens_of number bytes) k ≡ Some t → is_odd t.kind ≡ true
    → is_line_among bytes t.at.at (place_of (tokens_of number bytes) (begin_of l - 1)) (place_of (tokens_of number bytes) (close_of l)) ≡ false

-- The law: so it is with the lists of each kept file, where no offence stands against an order that is not empty.
abbrev pub ListsAreEven : Type 0
ListsAreEven = (source : Source) (ws : WorkspaceValue) (a : AnalysisValue) (members : List Part) (order : List ℕ) → IsAccepted source ws a members order → 0 < length order
    → ((u : UnitAnalysis) → IsIn a.units u → HavePrototypes members u) → (f : KeptValue) → kept_at a.table f.number ≡ Some f
    → (file : SourceFile) → source_at a.table f.number ≡ Some file → Each (IsEven f.number f.bytes) (map spans_by (file_marks members a f.number (tokens_of f.number f.bytes)))
