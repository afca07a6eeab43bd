-- The grammars of the dialects that are read.
use Rattle.std.specs.Prelude.{List}
use Rattle.c99_grammar.specs.declared.dialects.Dialect.{Dialect}
use Rattle.c99_grammar.specs.declared.dialects.Dialect.TheVariants.{Iso, Gnu}
use Rattle.c99_grammar.specs.declared.dialects.Edition.{Edition}
use Rattle.c99_grammar.specs.declared.dialects.Edition.TheVariants.{C99}
use Rattle.c99_tree.specs.declared.production.Production.{Production}
use Rattle.c99_grammar.specs.declared.classes.Class.{Class}
use Rattle.c99_grammar.specs.Items.{Alternative, Ask}
use Rattle.c99_grammar.specs.Grammar.{table}
use Rattle.c99_grammar.specs.GnuGrammar.{gnu_table}
use Rattle.c99_grammar.specs.First.{first, pairs}
use Rattle.c99_grammar.specs.GnuFirst.{gnu_first, gnu_pairs}
use Rattle.c99_grammar.specs.Spellings.{Spelled, keywords_of, gnu_keywords}

-- A dialect's grammar: its table of productions, with which classes each production starts, with which it starts where
-- what stands behind is so, and its keywords.
pub record Grammar : Type 0 where
  pub table : Production → List Alternative
  pub first : Production → List Class
  pub pairs : Production → List (Class × Ask)
  pub keywords : List Spelled

-- the grammar of an edition of ISO/IEC 9899
abbrev pub iso : Edition → Grammar
iso s = record { table = λ p. table p s; first = λ p. first p s; pairs = λ p. pairs p s; keywords = keywords_of s }

-- that of gcc
abbrev pub gnu : Grammar
gnu = record { table = gnu_table; first = gnu_first; pairs = gnu_pairs; keywords = gnu_keywords }

-- the grammar of a dialect
abbrev pub grammar : Dialect → Grammar
grammar (Iso s) = iso s
grammar Gnu = gnu

-- ISO/IEC 9899:1999
abbrev pub c99 : Grammar
c99 = iso C99
