-- Lists in a file whose items may come in another order (this project's, over ISO/IEC 9899:1999, 6.4 and 6.10): what is asked
-- of the tokens of the file, by whose numbers the items are given.
use Rattle.std.specs.Prelude.{◌≡◌, ◌<◌, ℕ, zero, suc, ◌+◌, ◌-◌, ◌==◌, ◌&&◌, nat_le, nat_lt, not, if◌then◌else◌, Bool, true, false, None, Some, List, [], ◌∷◌, codes, length, take, drop, slice_get}
use Rattle.std.specs.List.{list_any}
use Rattle.std.specs.Option.{option_map_or}
use Rattle.cs_base.specs.Token.{Token}
use Rattle.cs_base.specs.Limits.{most_bytes}
use Rattle.lexer.specs.Characters.{line_feed}
use Rattle.lexer.specs.Logical.{Character, logical_of}
use Rattle.lexer.specs.Tokens.{tokens_of, firsts_of, open_comment_of}
use Rattle.line_shape.specs.Signs.{is_sign, is_hash, is_open, is_comma, is_close}
use Rattle.list_cuts.specs.declared.spans.Span.{Span}
use Rattle.list_cuts.specs.Spans.{end_of}
use Rattle.list_cuts.specs.CutOf.{are_nested}
use Rattle.arranged_text_laws.specs.Calm.{is_odd}
use Rattle.arranged_text_laws.specs.Runs.{begins_directive, text_behind}
use Rattle.arranged_text_laws.specs.FileItems.{placed}

-- ---- lines of the logical text (5.1.1.2)

-- character k is a line feed
abbrev pub is_line_feed_at : List ℕ → ℕ → Bool
is_line_feed_at bytes k = option_map_or (λ (c : Character). c.byte == line_feed) (slice_get (logical_of bytes) k) false

-- the character with which the line of a character begins
unfoldable pub line_begin : List ℕ → ℕ → ℕ
line_begin bytes zero = 0
line_begin bytes (suc k) = if is_line_feed_at bytes k then suc k else line_begin bytes k

-- the line of a character is one of those from a character to another
abbrev pub is_line_among : List ℕ → ℕ → ℕ → ℕ → Bool
is_line_among bytes at from to = nat_le (line_begin bytes from) (line_begin bytes at) && nat_le (line_begin bytes at) (line_begin bytes to)

-- ---- tokens of a file

-- there is a token k, and it passes a test
abbrev pub passes : (Token → Bool) → List Token → ℕ → Bool
passes test toks k = option_map_or test (slice_get toks k) false

-- the number of its first character
abbrev pub place_of : List Token → ℕ → ℕ
place_of toks k = option_map_or (λ (t : Token). t.at.at) (slice_get toks k) 0

-- an item may begin with a token other than `#`
abbrev pub may_begin : Token → Bool
may_begin t = not (is_hash t)

-- and end with one other than `/` and `(`
abbrev pub may_end : Token → Bool
may_end t = not (is_sign (codes "/") t) && not (is_open t)

-- ---- lists

-- An item has tokens, and these are its first and its last.
pub record IsItem (toks : List Token) (s : Span) : Type 0 where
  pub some : s.begin < s.end
  pub first : passes may_begin toks s.begin ≡ true
  pub last : passes may_end toks (s.end - 1) ≡ true

-- A comma stands behind each item but the last one, and `)` behind that.
abbrev pub AreItems : List Token → List Span → Type 0
AreItems toks [] = ⊥
AreItems toks (s ∷ []) = IsItem toks s × (passes is_close toks s.end ≡ true)
AreItems toks (s ∷ t ∷ more) = IsItem toks s × (passes is_comma toks s.end ≡ true) × (t.begin ≡ s.end + 1) × AreItems toks (t ∷ more)

-- the first token of the first item, and the `)`
abbrev pub begin_of : List Span → ℕ
begin_of [] = 0
begin_of (s ∷ more) = s.begin

abbrev pub close_of : List Span → ℕ
close_of [] = 0
close_of (s ∷ more) = end_of s more

-- A list whose items may come in another order: `(` stands before it in a text line, it holds no directive line, and no odd
-- token stands in one of its lines, from that of its `(` to that of its `)`.
pub record ListMoves (file : ℕ) (bytes : List ℕ) (l : List Span) : Type 0 where
  pub behind : 0 < begin_of l
  pub opens : passes is_open (tokens_of file bytes) (begin_of l - 1) ≡ true
  pub items : AreItems (tokens_of file bytes) l
  pub text : text_behind true (take (begin_of l) (placed (tokens_of file bytes) (firsts_of bytes))) ≡ true
  pub plain : list_any begins_directive (take (close_of l - begin_of l) (drop (begin_of l) (placed (tokens_of file bytes) (firsts_of bytes)))) ≡ false
  pub even : (k : ℕ) (t : Token) → slice_get (tokens_of file bytes) k ≡ Some t → is_odd t.kind ≡ true
      → is_line_among bytes t.at.at (place_of (tokens_of file bytes) (begin_of l - 1)) (place_of (tokens_of file bytes) (close_of l)) ≡ false

abbrev pub EachMoves : ℕ → List ℕ → List (List Span) → Type 0
EachMoves file bytes [] = Unit {0}
EachMoves file bytes (l ∷ lists) = ListMoves file bytes l × EachMoves file bytes lists

-- each list begins behind the begin of the one before it
abbrev pub Rise : List (List Span) → Type 0
Rise [] = Unit {0}
Rise (l ∷ []) = Unit {0}
Rise (l ∷ m ∷ lists) = (begin_of l < begin_of m) × Rise (m ∷ lists)

-- So it is with each of the lists of a file, which has a text, and each stands inside an item of one before it or behind it.
pub record ListsMayMove (file : ℕ) (bytes : List ℕ) (lists : List (List Span)) : Type 0 where
  pub small : nat_lt most_bytes (length bytes) ≡ false
  pub shut : open_comment_of bytes ≡ None
  pub some : 0 < length lists
  pub each : EachMoves file bytes lists
  pub rise : Rise lists
  pub nested : are_nested lists ≡ true
