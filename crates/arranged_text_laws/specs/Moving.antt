-- Files whose lists have their items in another order (this project's, over ISO/IEC 9899:1999, 5.1.1.2 phases 2 and 3, and 6.10):
-- the tokens and the items that they have.
use Rattle.std.specs.Prelude.{◌≡◌, ℕ, ◌+◌, ◌-◌, true, Ok, List, [], ◌∷◌, length, map, slice_get, unwrap_or}
use Rattle.std.specs.List.{list_all}
use Rattle.std.specs.Option.{option_map_or}
use Rattle.cs_base.specs.declared.positions.Pos.{Pos}
use Rattle.cs_base.specs.Token.{Token, origin_at}
use Rattle.lexer.specs.Lines.{byte_offset_of}
use Rattle.lexer.specs.Tokens.{tokens_of, firsts_of}
use Rattle.lexer.specs.FileText.{file_text, text_value}
use Rattle.line_shape.specs.Items.{items_of}
use Rattle.list_cuts.specs.declared.spans.Span.{Span}
use Rattle.list_cuts.specs.Cuts.{IsOrder, arranged}
use Rattle.list_cuts.specs.Spans.{fits, all_rearranged}
use Rattle.list_cuts.specs.CutOf.{cut_of, are_nested}
use Rattle.arranged_text_laws.specs.Arranging.{MayMove}
use Rattle.arranged_text_laws.specs.Tokens.{cut_in, TokensAreArranged}
use Rattle.arranged_text_laws.specs.Lists.{ListsMayMove}

-- ---- the bytes of items

-- the byte at a position of the file
abbrev pub byte_in : List ℕ → Pos → ℕ
byte_in bytes p = unwrap_or (byte_offset_of bytes p.at) 0

-- the byte at which a token begins, and that behind its last character
abbrev pub first_byte : List ℕ → Token → ℕ
first_byte bytes t = option_map_or (byte_in bytes) (origin_at t 0) 0

abbrev pub end_byte : List ℕ → Token → ℕ
end_byte bytes t = option_map_or (λ p. byte_in bytes p + 1) (origin_at t (length t.text - 1)) 0

-- from the first byte of an item to behind its last
abbrev pub item_bytes : List ℕ → List Token → Span → Span
item_bytes bytes toks s = record {
  begin = option_map_or (first_byte bytes) (slice_get toks s.begin) 0;
  end = option_map_or (end_byte bytes) (slice_get toks (s.end - 1)) 0;
}

-- the same of all items of lists
abbrev pub byte_lists : ℕ → List ℕ → List (List Span) → List (List Span)
byte_lists file bytes lists = map (map (item_bytes bytes (tokens_of file bytes))) lists

-- ---- the law

-- The cut of the bytes may move, and gives that of the tokens; and the lists of bytes are one in another as those of tokens are.
pub record FileMoves (file : ℕ) (bytes : List ℕ) (lists : List (List Span)) : Type 0 where
  pub moves : MayMove (cut_of (byte_lists file bytes lists)) bytes
  pub cut : cut_in file (cut_of (byte_lists file bytes lists)) bytes ≡ cut_of lists
  pub nested : are_nested (byte_lists file bytes lists) ≡ true

-- each list has so many items
abbrev pub AreLong : ℕ → List (List Span) → Type 0
AreLong n [] = Unit {0}
AreLong n (l ∷ lists) = (length l ≡ n) × AreLong n lists

-- Once the items of its lists are in another order, a file has a text, its tokens are those that it had, in the order that the
-- cut of its tokens gives, and its items, directive lines and runs of text lines, are those that it had.
pub record FileIsArranged (order : List ℕ) (file : ℕ) (bytes : List ℕ) (lists : List (List Span)) : Type 0 where
  pub fit : list_all (λ l. fits order l (length bytes)) (byte_lists file bytes lists) ≡ true
  pub bytes_arranged : all_rearranged order (byte_lists file bytes lists) bytes ≡ arranged order (cut_of (byte_lists file bytes lists)) bytes
  pub new : TokensAreArranged order (cut_of (byte_lists file bytes lists)) file bytes
  pub cut : cut_in file (cut_of (byte_lists file bytes lists)) bytes ≡ cut_of lists
  pub read : file_text file (arranged order (cut_of (byte_lists file bytes lists)) bytes)
      ≡ Ok (text_value file (arranged order (cut_of (byte_lists file bytes lists)) bytes))
  pub items : items_of (tokens_of file (arranged order (cut_of (byte_lists file bytes lists)) bytes)) (firsts_of (arranged order (cut_of (byte_lists file bytes lists)) bytes))
      ≡ items_of (tokens_of file bytes) (firsts_of bytes)

-- The law: so it is where its lists may move.
abbrev pub FilesMayMove : Type 0
FilesMayMove = (file : ℕ) (bytes : List ℕ) (lists : List (List Span)) → ListsMayMove file bytes lists → FileMoves file bytes lists

abbrev pub FilesAreArranged : Type 0
FilesAreArranged = (order : List ℕ) (file : ℕ) (bytes : List ℕ) (lists : List (List Span)) → IsOrder (length order) order → AreLong (length order) lists
    → ListsMayMove file bytes lists → FileIsArranged order file bytes lists

-- The law: it does not matter which number the file has.
abbrev pub NumbersDoNotMatter : Type 0
NumbersDoNotMatter = (file other : ℕ) (bytes : List ℕ) (lists : List (List Span)) → ListsMayMove file bytes lists → ListsMayMove other bytes lists
