-- Lists of tokens that reading cannot tell apart.
use Rattle.std.specs.Prelude.{ℕ, ◌≡◌, List, length}
use Rattle.std.specs.Str.{bytes_eq}
use Rattle.c99_grammar.specs.declared.dialects.Dialect.{Dialect}
use Rattle.cs_base.specs.Token.{Token}
use Rattle.c99_read.specs.Reading.{read_of}
use Rattle.c99_read.specs.State.{base_at, spelling_at}
use Rattle.c99_grammar.specs.Standard.{Grammar, grammar}

-- as many tokens, of the same classes, and names alike in one list exactly where they are in the other
pub record IsAlike (g : Grammar) (a b : List Token) : Type 0 where
  pub as_long : length a ≡ length b
  pub classes : (k : ℕ) → base_at g a k ≡ base_at g b k
  pub spellings : (i j : ℕ) → bytes_eq (spelling_at a i) (spelling_at a j) ≡ bytes_eq (spelling_at b i) (spelling_at b j)

-- such lists read to the same tree, or the same fault, by each dialect
abbrev pub AlikeReadAlike : Type 0
AlikeReadAlike = (s : Dialect) (a b : List Token) → IsAlike (grammar s) a b → read_of (grammar s) a ≡ read_of (grammar s) b
