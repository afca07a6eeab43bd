-- What the walk over a file answers.
use Rattle.std.specs.Prelude.{◌≡◌, ℕ, List, length, Some, None}
use Rattle.lexer.specs.declared.refusal.LexRefusal.{LexRefusal}
use Rattle.lexer.specs.declared.refusal.LexRefusal.TheVariants as refusal
use Rattle.lexer.specs.declared.scan.Scanned.{Scanned}
use Rattle.lexer.specs.Logical.{logical_of}
use Rattle.lexer.specs.Lines.{line_column_of}
use Rattle.lexer.specs.Tokens.{tokens_of, firsts_of, open_comment_of}

-- the tokens of a file, for each whether it is the first of its line, and the number of characters
pub record IsScanned (file : ℕ) (bytes : List ℕ) (s : Scanned) : Type 0 where
  pub toks : s.toks.items ≡ tokens_of file bytes
  pub firsts : s.firsts.items ≡ firsts_of bytes
  pub len : s.len ≡ length (logical_of bytes)
  pub closed : open_comment_of bytes ≡ None

-- a comment without end begins at this character, line and column
pub record IsOpen (bytes : List ℕ) (at line column : ℕ) : Type 0 where
  pub open_comment : open_comment_of bytes ≡ Some at
  pub place : line_column_of bytes at ≡ Some (line, column)

-- why the walk gives no tokens
abbrev pub ScanRefused : List ℕ → LexRefusal → Type 0
ScanRefused bytes refusal.FileTooLarge = ⊥
ScanRefused bytes (refusal.OpenComment at line column) = IsOpen bytes at line column
ScanRefused bytes refusal.Memory = Unit {0}
