-- The files of a workspace by the lists that stand in them (ISO/IEC 9899:1999, 5.1.1.2 phases 1 to 3).
use Rattle.std.specs.Prelude.{◌≡◌, ℕ, List, length}
use Rattle.arranged_text_laws.specs.Lists.{ListsMayMove}
use Rattle.arranged_text_laws.specs.Moving.{byte_lists, AreLong}
use Rattle.list_cuts.specs.Cuts.{done, IsOrder}
use Rattle.list_cuts.specs.CutOf.{cut_of}
use Rattle.list_cuts.specs.Spans.{all_rearranged}
use Rattle.list_cuts.specs.declared.spans.Span.{Span}
use Rattle.unit_laws.specs.Edited.{Edit}
use Rattle.edited_unit_laws.specs.Workspaces.{PathCuts, PathStands}

-- The law: a file whose lists may move, and in which they do, has a text in the new order, whatever its number.
abbrev pub ListsMovePaths : Type 0
ListsMovePaths = (edit : Edit) (order : List ℕ) (paths : PathCuts) (file : ℕ) (path bytes : List ℕ) (lists : List (List Span)) → IsOrder (length order) order → AreLong (length order) lists
    → ListsMayMove file bytes lists → edit path bytes ≡ all_rearranged order (byte_lists file bytes lists) bytes → paths path bytes ≡ cut_of lists
    → PathStands edit (length order) order paths path bytes

-- The law: a file without lists, which stays, has the text that it had.
abbrev pub PathsStay : Type 0
PathsStay = (edit : Edit) (n : ℕ) (order : List ℕ) (paths : PathCuts) (path bytes : List ℕ) → edit path bytes ≡ bytes → paths path bytes ≡ done
    → PathStands edit n order paths path bytes
