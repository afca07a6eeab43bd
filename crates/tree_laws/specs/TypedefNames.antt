-- What is true of each text that is read, as to its typedef names.
use Rattle.std.specs.Prelude.{Bool, true, false, ◌≡◌, List, length, Ok}
use Rattle.c99_grammar.specs.declared.dialects.Edition.{Edition}
use Rattle.cs_base.specs.Token.{Token}
use Rattle.c99_tree.specs.Tree.{none, node, Node}
use Rattle.c99_tree.specs.declared.production.Production.{Production}
use Rattle.c99_tree.specs.declared.production.Production.TheVariants.{TranslationUnit, External, ExtRest, ExtTail, FunBody}
use Rattle.c99_read.specs.Reading.{produce, at_first, whole, tree_of, read_of}
use Rattle.c99_grammar.specs.Standard.{iso}
use Rattle.name_chains.specs.Frames.{at_first as before}
use Rattle.tree_laws.specs.Agreeing.{agrees}

-- below a node of the production stands no body of a function (ISO/IEC 9899:1999, 6.9.1)
abbrev pub is_bodiless : Production → Bool
is_bodiless TranslationUnit = false
is_bodiless External = false
is_bodiless ExtRest = false
is_bodiless ExtTail = false
is_bodiless FunBody = false
is_bodiless _ = true

-- In the tree that is read of a unit each name is read as it is bound (6.2.1 and 6.7.7): a type name where it denotes a
-- typedef name, and a primary expression or the bare name of a parameter where it denotes none; in bodies of functions
-- and the declaration lists before them too.
abbrev pub NamesAreReadAsTheyAreBound : Type 0
NamesAreReadAsTheyAreBound =
    (s : Edition) (toks : List Token) (tree : Node) → read_of (iso s) toks ≡ Ok tree → agrees s toks tree.under (before (length toks)) ≡ true

-- So it is in the tree that is read of a text as one production by itself, a declaration, a statement or an expression.
abbrev pub NamesOfPartsAreReadAsTheyAreBound : Type 0
NamesOfPartsAreReadAsTheyAreBound =
    (s : Edition) (toks : List Token) (p : Production) (tree : Node) → is_bodiless p ≡ true → tree_of (whole (iso s) 0 (produce p) (at_first toks)) ≡ Ok tree
    → agrees s toks (node tree.label tree.first tree.under none) (before (length toks)) ≡ true
