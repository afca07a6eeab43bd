-- What is true of the tree of a text in which names are respelled.
use Rattle.std.specs.Prelude.{◌≡◌, List, Ok}
use Rattle.c99_grammar.specs.declared.dialects.Dialect.{Dialect}
use Rattle.cs_base.specs.Token.{Token}
use Rattle.c99_tree.specs.Tree.{Node}
use Rattle.c99_read.specs.Reading.{read_of}
use Rattle.c99_grammar.specs.Standard.{grammar}
use Rattle.renamed_tree_laws.specs.Respelled.{IsReadSo, IsRespelled}

-- a text whose names are of the kinds that another is read with is read to the same tree
abbrev pub TextsOfOneKindReadAlike : Type 0
TextsOfOneKindReadAlike = (s : Dialect) (a b : List Token) (tree : Node) → IsReadSo s a b → read_of (grammar s) a ≡ Ok tree → read_of (grammar s) b ≡ Ok tree

-- a text in which names are respelled with what they denote is read to the same tree
abbrev pub RespelledTextsReadAlike : Type 0
RespelledTextsReadAlike = (s : Dialect) (a b : List Token) (tree : Node) → IsRespelled s a b → read_of (grammar s) a ≡ Ok tree → read_of (grammar s) b ≡ Ok tree
