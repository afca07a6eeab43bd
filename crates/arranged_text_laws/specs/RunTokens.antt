-- Tokens in the runs of a file (ISO/IEC 9899:1999, 6.10): they stand in text lines.
use Rattle.std.specs.Prelude.{◌≡◌, ◌<◌, ◌≤◌, ℕ, suc, ◌-◌, true, false, List, take, drop, Some, None, slice_get}
use Rattle.std.specs.List.{list_any}
use Rattle.lexer.specs.Tokens.{tokens_of, firsts_of, open_comment_of}
use Rattle.line_shape.specs.declared.items.Item.{Item}
use Rattle.line_shape.specs.declared.items.ItemKind.TheVariants.{Run}
use Rattle.line_shape.specs.Items.{items_of}
use Rattle.list_cuts.specs.declared.spans.Span.{Span}
use Rattle.arranged_text_laws.specs.Runs.{Placed, begins_directive, text_behind}
use Rattle.arranged_text_laws.specs.FileItems.{placed}
use Rattle.arranged_text_laws.specs.Lists.{begin_of, close_of}

-- token k stands in a text line, and begins no directive line
pub record IsTextAt (ps : List Placed) (k : ℕ) : Type 0 where
  pub text : text_behind true (take (suc k) ps) ≡ true
  pub plain : (p : Placed) → slice_get ps k ≡ Some p → begins_directive p ≡ false

-- The law: so it is with each token of a run of a file.
abbrev pub RunTokensAreText : Type 0
RunTokensAreText = (file : ℕ) (bytes : List ℕ) (j : ℕ) (it : Item) (k : ℕ) → open_comment_of bytes ≡ None
    → slice_get (items_of (tokens_of file bytes) (firsts_of bytes)) j ≡ Some it → it.kind ≡ Run → it.from ≤ k → k < it.to
    → IsTextAt (placed (tokens_of file bytes) (firsts_of bytes)) k

-- what `ListMoves` asks of the lines of a list
pub record IsTextList (ps : List Placed) (l : List Span) : Type 0 where
  pub text : text_behind true (take (begin_of l) ps) ≡ true
  pub plain : list_any begins_directive (take (close_of l - begin_of l) (drop (begin_of l) ps)) ≡ false

-- The law: a list stands so from its `(` to before its `)` where these tokens are of one run.
abbrev pub RunListsAreText : Type 0
RunListsAreText = (file : ℕ) (bytes : List ℕ) (j : ℕ) (it : Item) (l : List Span) → open_comment_of bytes ≡ None
    → slice_get (items_of (tokens_of file bytes) (firsts_of bytes)) j ≡ Some it → it.kind ≡ Run
    → 0 < begin_of l → it.from ≤ begin_of l - 1 → begin_of l - 1 < it.to → close_of l ≤ it.to
    → IsTextList (placed (tokens_of file bytes) (firsts_of bytes)) l
