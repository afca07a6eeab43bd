-- The tree of a unit by its tokens (ISO/IEC 9899:1999, Annex A.2): units are kept without theirs.
use Rattle.std.specs.Prelude.{◌≡◌, List, Result, Ok, Err}
use Rattle.cs_base.specs.declared.ws_units.Standard.{Standard}
use Rattle.cs_base.specs.Token.{Token}
use Rattle.c99_tree.specs.declared.production.Production.TheVariants as production
use Rattle.c99_tree.specs.Tree.{Node, node_of, none}
use Rattle.c99_read.specs.Reading.{Stop, read_of}
use Rattle.c99_read.specs.Below.c99_grammar.Dialects.{dialect}
use Rattle.c99_read.specs.Below.c99_grammar.Standard.{grammar}

-- the tokens are read by this standard to this tree
abbrev pub HasTree : Standard → List Token → Node → Type 0
HasTree standard toks tree = read_of (grammar (dialect standard)) toks ≡ Ok tree

-- the tree that was read, and one without tokens where none was
abbrev pub tree_or_none : Result Node Stop → Node
tree_or_none (Ok tree) = tree
tree_or_none (Err stop) = node_of (record { production = production.TranslationUnit; alternative = 0 }) 0 none

-- the tree of the tokens
abbrev pub tree_of : Standard → List Token → Node
tree_of standard toks = tree_or_none (read_of (grammar (dialect standard)) toks)
