-- What is true of the binding of every text.
use Rattle.std.specs.Prelude.{ℕ, ◌<◌, ◌≤◌, ◌≡◌, ◌≢◌, Bool, true, List, length, Some, Ok, IfErr, All, AllPairs}
use Rattle.cs_base.specs.Token.{Token}
use Rattle.c99_tree.specs.Tree.{Node}
use Rattle.scope_bind.specs.declared.bound.Name.{Name}
use Rattle.c_types.specs.declared.lists.List.{List as NameList}
use Rattle.c_types.specs.declared.lists.Range.{Range}
use Rattle.scope_bind.specs.Causes.{index_of}
use Rattle.c_types.specs.Declarations.{alike, has_linkage}
use Rattle.name_chains.specs.Frames.{outermost}
use Rattle.scope_bind.specs.Bound.{Bound, binding_of}
use Rattle.scope_bind.specs.Names.{entity_at, linkage_at}
use Rattle.tree_laws.specs.TreesOfTexts.{names_pass, IsTreeOf, IsPlainTree}

-- the text binds so
abbrev pub Binds : List Token → Node → Bound → Type 0
Binds toks tree b = binding_of toks tree ≡ Ok b

-- each name is spelled as the token that names its entity (ISO/IEC 9899:1999, 6.2.1)
abbrev pub NamesAreSpelledAsTheirEntities : Type 0
NamesAreSpelledAsTheirEntities =
    (toks : List Token) (tree : Node) (b : Bound) → Binds toks tree b → All (λ (n : Name). alike toks n.index n.entity ≡ true) b.names

-- a name is a token of the text, and so is the one that names its entity
abbrev pub NamesStandInTheText : Type 0
NamesStandInTheText =
    (toks : List Token) (tree : Node) (b : Bound) → IsTreeOf (length toks) tree → Binds toks tree b
    → All (λ (n : Name). (n.index < length toks) × (n.entity < length toks)) b.names

-- a fault stands at a token of the text
abbrev pub FaultsStandInTheText : Type 0
FaultsStandInTheText =
    (toks : List Token) (tree : Node) → IsTreeOf (length toks) tree → IfErr (binding_of toks tree) (λ f. index_of f < length toks)

-- no token is two names
abbrev pub EachTokenIsOneName : Type 0
EachTokenIsOneName =
    (toks : List Token) (tree : Node) (b : Bound) → IsTreeOf (length toks) tree → Binds toks tree b
    → AllPairs (λ (m n : Name). m.index ≢ n.index) b.names

-- the token that names an entity is itself a name, and of this entity
abbrev pub EntitiesAreNames : Type 0
EntitiesAreNames =
    (toks : List Token) (tree : Node) (b : Bound) → IsTreeOf (length toks) tree → Binds toks tree b
    → All (λ (n : Name). (entity_at b.names n.index ≡ Some n.entity) × (entity_at b.names n.entity ≡ Some n.entity)) b.names

-- In one unit an identifier that has linkage denotes one entity (6.2.2 paragraph 2): two tokens of one spelling, each of
-- which names an entity that has linkage, are one token.
abbrev pub OneLinkedName : Type 0
OneLinkedName =
    (toks : List Token) (tree : Node) (b : Bound) → IsTreeOf (length toks) tree → Binds toks tree b → (j k : ℕ)
    → has_linkage (linkage_at b.names j) ≡ true → has_linkage (linkage_at b.names k) ≡ true → alike toks j k ≡ true → j ≡ k

-- what is true of each token that stands in the tree where names do is true of each name, and of the token that names
-- its entity
abbrev pub BoundNamesPass : Type 0
BoundNamesPass =
    (test : ℕ → Bool) (toks : List Token) (tree : Node) (b : Bound) → IsTreeOf (length toks) tree
    → names_pass test (outermost 0).label 0 tree.under ≡ true → Binds toks tree b
    → All (λ (n : Name). (test n.index ≡ true) × (test n.entity ≡ true)) b.names

-- ---- Lists (6.7.5.3, 6.5.2.2) and bodies (6.9.1)

-- The parameter lists stand in order of the declared names, each of which has one at most, where no block stands in a
-- declarator: there another declarator could stand in front of the name.
abbrev pub ParameterListsAreInOrder : Type 0
ParameterListsAreInOrder =
    (toks : List Token) (tree : Node) (b : Bound) → IsPlainTree (length toks) tree → Binds toks tree b
    → AllPairs (λ (l m : NameList). l.name < m.name) b.declarators

-- the argument lists stand in order of the names that are called, each of which has one at most
abbrev pub ArgumentListsAreInOrder : Type 0
ArgumentListsAreInOrder =
    (toks : List Token) (tree : Node) (b : Bound) → IsTreeOf (length toks) tree → Binds toks tree b
    → AllPairs (λ (l m : NameList). l.name < m.name) b.calls

-- a body begins behind its name, and ends in a text of so many tokens
pub record IsBody (count : ℕ) (r : Range) : Type 0 where
  pub behind : r.name < r.from
  pub ends : r.from ≤ r.to
  pub within : r.to < count

abbrev pub BodiesStandInTheText : Type 0
BodiesStandInTheText =
    (toks : List Token) (tree : Node) (b : Bound) → IsTreeOf (length toks) tree → Binds toks tree b
    → All (IsBody (length toks)) b.functions

-- each body ends before the name of a later one: no two overlap, and they stand in order of their names
abbrev pub BodiesAreApart : Type 0
BodiesAreApart =
    (toks : List Token) (tree : Node) (b : Bound) → IsTreeOf (length toks) tree → Binds toks tree b
    → AllPairs (λ (r s : Range). r.to < s.name) b.functions
