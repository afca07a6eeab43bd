-- What is true of the names of every text of GNU C.
use Rattle.std.specs.Prelude.{ℕ, ◌<◌, ◌≡◌, ◌≢◌, Bool, true, List, length, Some, Ok, IfErr, All, AllPairs}
use Rattle.cs_base.specs.Token.{Token}
use Rattle.c99_tree.specs.Tree.{Node}
use Rattle.gnu_bind.specs.Below.c_types.Declarations.{alike, has_linkage}
use Rattle.gnu_bind.specs.Below.scope_bind.Below.name_chains.Frames.{outermost}
use Rattle.gnu_bind.specs.Below.scope_bind.declared.bound.Name.{Name}
use Rattle.gnu_bind.specs.Below.scope_bind.Bound.{Bound}
use Rattle.gnu_bind.specs.Below.scope_bind.Causes.{index_of}
use Rattle.gnu_bind.specs.Below.scope_bind.Names.{entity_at, linkage_at}
use Rattle.gnu_bind.specs.Bound.{gnu_binding_of}
use Rattle.gnu_tree_laws.specs.GnuPlaces.{gnu_names_pass}
use Rattle.tree_laws.specs.TreesOfTexts.{IsTreeOf}

-- the text binds so by GNU C
abbrev pub GnuBinds : List Token → Node → Bound → Type 0
GnuBinds toks tree b = gnu_binding_of toks tree ≡ Ok b

-- each name is spelled as the token that names its entity (ISO/IEC 9899:1999, 6.2.1)
abbrev pub GnuNamesAreSpelledAsTheirEntities : Type 0
GnuNamesAreSpelledAsTheirEntities =
    (toks : List Token) (tree : Node) (b : Bound) → GnuBinds toks tree b → All (λ (n : Name). alike toks n.index n.entity ≡ true) b.names

-- a name is a token of the text, and so is the one that names its entity
abbrev pub GnuNamesStandInTheText : Type 0
GnuNamesStandInTheText =
    (toks : List Token) (tree : Node) (b : Bound) → IsTreeOf (length toks) tree → GnuBinds toks tree b
    → All (λ (n : Name). (n.index < length toks) × (n.entity < length toks)) b.names

-- a fault stands at a token of the text
abbrev pub GnuFaultsStandInTheText : Type 0
GnuFaultsStandInTheText =
    (toks : List Token) (tree : Node) → IsTreeOf (length toks) tree → IfErr (gnu_binding_of toks tree) (λ f. index_of f < length toks)

-- no token is two names
abbrev pub EachGnuTokenIsOneName : Type 0
EachGnuTokenIsOneName =
    (toks : List Token) (tree : Node) (b : Bound) → IsTreeOf (length toks) tree → GnuBinds toks tree b
    → AllPairs (λ (m n : Name). m.index ≢ n.index) b.names

-- the token that names an entity is itself a name, and of this entity
abbrev pub GnuEntitiesAreNames : Type 0
GnuEntitiesAreNames =
    (toks : List Token) (tree : Node) (b : Bound) → IsTreeOf (length toks) tree → GnuBinds toks tree b
    → All (λ (n : Name). (entity_at b.names n.index ≡ Some n.entity) × (entity_at b.names n.entity ≡ Some n.entity)) b.names

-- in one unit an identifier that has linkage denotes one entity (6.2.2 paragraph 2)
abbrev pub OneLinkedGnuName : Type 0
OneLinkedGnuName =
    (toks : List Token) (tree : Node) (b : Bound) → IsTreeOf (length toks) tree → GnuBinds toks tree b → (j k : ℕ)
    → has_linkage (linkage_at b.names j) ≡ true → has_linkage (linkage_at b.names k) ≡ true → alike toks j k ≡ true → j ≡ k

-- what is true of each token that stands in the tree where names do is true of each name, and of the token that names
-- its entity
abbrev pub GnuNamesPass : Type 0
GnuNamesPass =
    (test : ℕ → Bool) (toks : List Token) (tree : Node) (b : Bound) → IsTreeOf (length toks) tree
    → gnu_names_pass toks test (outermost 0).label 0 tree.under ≡ true → GnuBinds toks tree b
    → All (λ (n : Name). (test n.index ≡ true) × (test n.entity ≡ true)) b.names
