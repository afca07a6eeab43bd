-- Where the lists of the functions stand among the tokens of files (this project's, over ISO/IEC 9899:1999, 5.1.1.2 phases 1 to 3):
-- what is asked of them, and that each file has then a text in the new order.
use Rattle.std.specs.Prelude.{ℕ, ◌≡◌, if◌then◌else◌, Bool, true, false, List, [], ◌∷◌, length, map, Some}
use Rattle.std.specs.Option.{option_map_or}
use Rattle.cs_base.specs.declared.positions.Part.{Part}
use Rattle.lexer.specs.Tokens.{tokens_of}
use Rattle.source_files.specs.Files.{Source, number_of}
use Rattle.source_files.specs.KeptFiles.{KeptValue, kept_at}
use Rattle.analysis.specs.Analysis.{AnalysisValue}
use Rattle.arranged_text_laws.specs.Lists.{ListsMayMove}
use Rattle.arranged_text_laws.specs.Moving.{byte_lists, AreLong}
use Rattle.list_cuts.specs.Cuts.{done, IsOrder}
use Rattle.list_cuts.specs.CutOf.{cut_of}
use Rattle.list_cuts.specs.declared.spans.Span.{Span}
use Rattle.edited_unit_laws.specs.Workspaces.{PathCuts, PathsStand}
use Rattle.template_rules.specs.FileLists.{all_found, lists_in, items_of}
use Rattle.template_meaning.specs.Editing.{edit_by}
use Rattle.reordered.specs.Reorder.{HoldsLists}

-- the items of the lists of each file, by the numbers of its tokens
abbrev pub FileSpans : Type 0
FileSpans = KeptValue → List (List Span)

-- there are none
abbrev pub is_none : {X : Type 0} → List X → Bool
is_none [] = true
is_none (x ∷ xs) = false

-- the cut of the tokens of a file, by its path: that of its lists, where it holds some
abbrev pub cut_at : List Part → AnalysisValue → FileSpans → PathCuts
cut_at members a spans path bytes =
    option_map_or (λ f. if is_none (lists_in (all_found members a) f.number) then done else cut_of (spans f)) (kept_at a.table (number_of path a.table)) done

-- The lists of a file may move: these are the items whose bytes do, each list has so many, and its tokens let them.
pub record SpansMove (members : List Part) (order : List ℕ) (a : AnalysisValue) (f : KeptValue) (l : List (List Span)) : Type 0 where
  pub moves : ListsMayMove f.number f.bytes l
  pub bytes : map (items_of f.bytes (tokens_of f.number f.bytes)) (lists_in (all_found members a) f.number) ≡ byte_lists f.number f.bytes l
  pub long : AreLong (length order) l

-- So may those of each file that holds some; such a file is kept, and its path holds the bytes that were read.
pub record FilesMove (source : Source) (members : List Part) (order : List ℕ) (a : AnalysisValue) (spans : FileSpans) : Type 0 where
  pub files : (number : ℕ) → (lists_in (all_found members a) number ≡ [] → ⊥) → (f : KeptValue) × (kept_at a.table number ≡ Some f)
  pub held : (f : KeptValue) → HoldsLists a members f → source f.path ≡ Some f.bytes
  pub move : (f : KeptValue) → HoldsLists a members f → SpansMove members order a f (spans f)

-- The law: then each path that holds a file has a text in the new order, by the edit of the new order.
abbrev pub FilesStandInOrder : Type 0
FilesStandInOrder = (source : Source) (a : AnalysisValue) (members : List Part) (order : List ℕ) (spans : FileSpans) → IsOrder (length order) order
    → FilesMove source members order a spans → PathsStand (edit_by members order a) source (length order) order (cut_at members a spans)
