-- What is true of a text whose names agree with the tree of another one.
use Rattle.std.specs.Prelude.{ℕ, ◌≡◌, true, List, length, Ok}
use Rattle.std.specs.List.{Contains}
use Rattle.c99_grammar.specs.declared.dialects.Edition.{Edition}
use Rattle.cs_base.specs.Token.{Token}
use Rattle.c99_tree.specs.Tree.{Node}
use Rattle.c99_read.specs.Reading.{read_of}
use Rattle.c99_read.specs.State.{base_at}
use Rattle.c99_grammar.specs.Standard.{iso}
use Rattle.scope_bind.specs.Bound.{Bound, binding_of}
use Rattle.name_chains.specs.Frames.{at_first as before, outermost}
use Rattle.tree_laws.specs.RenamedNames.{NamesAreRenamed}
use Rattle.tree_laws.specs.Agreeing.{agrees}
use Rattle.renamed_tree_laws.specs.Loose.{AllLoose, StaysWhole}

-- Of two texts of as many tokens, of the same classes but for typedef names, the second is read to the tree of the first
-- one if in this tree its own names are read as they are bound (ISO/IEC 9899:1999, 6.2.1 and 6.7.7).
abbrev pub AgreeingTextsReadAlike : Type 0
AgreeingTextsReadAlike =
    (s : Edition) (a b : List Token) (tree : Node) → length a ≡ length b → ((k : ℕ) → base_at (iso s) a k ≡ base_at (iso s) b k) → read_of (iso s) a ≡ Ok tree
    → agrees s b tree.under (before (length b)) ≡ true → read_of (iso s) b ≡ Ok tree

-- A text that is renamed so that all names of an entity go together is read to the same tree, if each name in an
-- identifier list or behind the parenthesis of a parameter's declarator, which names nothing before it is declared, goes
-- with all tokens of its spelling where a typedef name of this spelling is hidden (6.7.5.3 paragraphs 3 and 11).
abbrev pub RenamedTextsReadAlike : Type 0
RenamedTextsReadAlike =
    (s : Edition) (old new : List Token) (tree : Node) (b : Bound) → read_of (iso s) old ≡ Ok tree → binding_of old tree ≡ Ok b → NamesAreRenamed old new b.names
    → ((k : ℕ) → base_at (iso s) old k ≡ base_at (iso s) new k) → AllLoose s old (StaysWhole old new b.typedefs) (outermost 0).label 0 tree.under
    → read_of (iso s) new ≡ Ok tree

-- Of a tree that is read, each name in an identifier list or directly behind the parenthesis of a parameter's declarator
-- is one of the bare names of its binding (6.7.5.3 paragraphs 3 and 11).
abbrev pub LooseNamesAreBare : Type 0
LooseNamesAreBare =
    (s : Edition) (toks : List Token) (tree : Node) (b : Bound) → read_of (iso s) toks ≡ Ok tree → binding_of toks tree ≡ Ok b
    → AllLoose s toks (Contains b.bare) (outermost 0).label 0 tree.under
