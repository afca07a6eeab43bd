-- The binding of a tree tells of each identifier in it what its place says.
use Rattle.std.specs.Prelude.{◌≡◌, true, false, List, length}
use Rattle.cs_base.specs.Token.{Token}
use Rattle.c99_tree.specs.Tree.{Forest, none, token, node, Node}
use Rattle.c99_tree.specs.declared.production.Production.TheVariants.{MemRest}
use Rattle.c_types.specs.Trees.{is_at}
use Rattle.name_chains.specs.Frames.{outermost}
use Rattle.scope_bind.specs.Bound.{Bound}
use Rattle.tree_laws.specs.TreesOfTexts.{IsTreeOf, begins_with_token}
use Rattle.tree_laws.specs.BoundNames.{Binds}
use Rattle.tree_laws.specs.Told.{AreTold}

-- an anonymous member begins with a token, the semicolon (C11, 6.7.2.1)
abbrev pub AnonymousBegin : Forest → Type 0
AnonymousBegin none = Unit {0}
AnonymousBegin (token i rest) = AnonymousBegin rest
AnonymousBegin (node m first under rest) = (is_at m MemRest 1 ≡ true → begins_with_token under ≡ true) × AnonymousBegin under × AnonymousBegin rest

-- The law: so it is in each tree of a text that binds.
abbrev pub IdentifiersAreTold : Type 0
IdentifiersAreTold = (toks : List Token) (tree : Node) (b : Bound) → IsTreeOf (length toks) tree → AnonymousBegin tree.under → Binds toks tree b
    → AreTold b.names toks false false (outermost 0).label tree.under
