-- The items of a source file (ISO/IEC 9899:1999, 6.10): its directive lines, each sorted by its kind, and
-- the runs of text lines between them.
use Rattle.std.specs.Prelude.{◌≡◌, ℕ, ◌+◌, ◌<◌, Bool, true, false, ◌&&◌, if◌then◌else◌, Option, Some, None, List, [], ◌∷◌, ◌++◌, length, drop, get_or}
use Rattle.std.specs.List.{onto_first}
use Rattle.cs_base.specs.Token.{Token}
use Rattle.cs_base.specs.declared.positions.Pos.{Pos}
use Rattle.cs_base.specs.declared.causes.Cause.{Cause}
use Rattle.cs_base.specs.declared.causes.Cause.TheVariants.{UnknownDirective}
use Rattle.line_shape.specs.declared.items.Item.{Item}
use Rattle.line_shape.specs.declared.items.ItemKind.{ItemKind}
use Rattle.line_shape.specs.declared.items.ItemKind.TheVariants.{Run, Empty, Bad}
use Rattle.line_shape.specs.Signs.{is_hash}
use Rattle.line_shape.specs.Directives.{directive_named, is_run, nests_when_bad}
use Rattle.line_shape.specs.BadLines.{cause_on}

-- ---- lines

-- the lines behind a token, and the token before them: on a line of its own, or on the first
abbrev pub onto_lines : Token → Bool → List (List Token) → List (List Token)
onto_lines t true lines = (t ∷ []) ∷ lines
onto_lines t false lines = onto_first t lines

-- The lines of a file that have tokens. For each token it is given whether it is the first of its line.
unfoldable pub lines_of : List Token → List Bool → List (List Token)
lines_of [] firsts = []
lines_of (t ∷ toks) firsts = onto_lines t (get_or firsts 1 false) (lines_of toks (drop 1 firsts))

-- ---- the kind of a line

-- a directive, unless something stands against it
abbrev pub kind_unless : Option Cause → Pos → ItemKind → ItemKind
kind_unless None at kind = kind
kind_unless (Some cause) at kind = Bad cause at (nests_when_bad kind)

-- the kind of a line whose `#` is at this position, by the directive that its word names
abbrev pub named_kind : Option ItemKind → Pos → List Token → ItemKind
named_kind None at operands = Bad UnknownDirective at false
named_kind (Some kind) at operands = kind_unless (cause_on kind operands) at kind

-- the kind of a directive line by the tokens behind its `#`, where none make a null directive (6.10.7)
unfoldable pub directive_kind : Pos → List Token → ItemKind
directive_kind at [] = Empty
directive_kind at (word ∷ operands) = named_kind (directive_named word) at operands

-- a line is a directive where it begins with `#` (6.10 paragraph 2), and text where not
abbrev pub line_kind : List Token → ItemKind
line_kind [] = Run
line_kind (t ∷ toks) = if is_hash t then directive_kind t.at toks else Run

-- ---- pieces

-- the tokens of a directive line, or those of the text lines between two directives
pub record Piece : Type 0 where
  pub kind : ItemKind
  pub toks : List Token

abbrev pub piece : ItemKind → List Token → Piece
piece kind toks = record { kind = kind; toks = toks }

-- a line before the pieces behind it: a text line joins the run with which they begin
abbrev pub onto_pieces : Piece → List Piece → List Piece
onto_pieces line [] = line ∷ []
onto_pieces line (next ∷ pieces) =
    if is_run line.kind && is_run next.kind then piece Run (line.toks ++ next.toks) ∷ pieces
    else line ∷ next ∷ pieces

-- the pieces of lines
unfoldable pub pieces_of : List (List Token) → List Piece
pieces_of [] = []
pieces_of (line ∷ lines) = onto_pieces (piece (line_kind line) line) (pieces_of lines)

-- ---- items

-- the last of the tokens t and toks
abbrev pub last_of : Token → List Token → Token
last_of t [] = t
last_of t (u ∷ toks) = last_of u toks

-- the item of a piece whose first token has this index; a piece without tokens is none
abbrev pub item_of : ItemKind → ℕ → List Token → List Item
item_of kind from [] = []
item_of kind from (t ∷ toks) =
    record {
      kind = kind;
      at = t.at;
      first_line = t.line;
      last_line = (last_of t toks).line;
      from = from;
      to = from + length (t ∷ toks);
    }
    ∷ []

-- the items of pieces, the first of whose tokens has this index
unfoldable pub items_from : ℕ → List Piece → List Item
items_from from [] = []
items_from from (p ∷ pieces) = item_of p.kind from p.toks ++ items_from (from + length p.toks) pieces

-- the items of a file, given by its tokens and, for each, whether it is the first of its line
unfoldable pub items_of : List Token → List Bool → List Item
items_of toks firsts = items_from 0 (pieces_of (lines_of toks firsts))

-- items that follow one another, each with a token, from the token with this number to before that one
abbrev pub Follow : ℕ → ℕ → List Item → Type 0
Follow from to [] = from ≡ to
Follow from to (i ∷ items) = (i.from ≡ from) × (from < i.to) × Follow i.to to items
