-- What is true of the tree of every text that is read.
use Rattle.std.specs.Prelude.{ℕ, ◌<◌, ◌≤◌, ◌≡◌, ◌≢◌, true, List, length, Some, Ok, IfErr, All, AllPairs}
use Rattle.c99_grammar.specs.declared.dialects.Dialect.{Dialect}
use Rattle.c99_grammar.specs.declared.dialects.Edition.{Edition}
use Rattle.cs_base.specs.Token.{Token}
use Rattle.c99_tree.specs.Tree.{Node}
use Rattle.c99_read.specs.Reading.{Stop, syntax, too_deep, read_of}
use Rattle.c99_read.specs.State.{base_at, is_identifier}
use Rattle.c99_grammar.specs.Standard.{Grammar, iso, grammar}
use Rattle.scope_bind.specs.declared.bound.Name.{Name}
use Rattle.c_types.specs.declared.lists.List.{List as NameList}
use Rattle.c_types.specs.declared.lists.Range.{Range}
use Rattle.scope_bind.specs.Causes.{index_of}
use Rattle.scope_bind.specs.Bound.{Bound, binding_of}
use Rattle.c_types.specs.Declarations.{alike, has_linkage}
use Rattle.scope_bind.specs.Names.{entity_at, linkage_at}
use Rattle.tree_laws.specs.TreesOfTexts.{AreFrom, token_count, IsTreeOf, IsPlainTree}
use Rattle.tree_laws.specs.BoundNames.{Binds, IsBody}
use Rattle.tree_laws.specs.Shapes.{reads_all}

-- the text has the tree by the grammar
abbrev pub Reads : Grammar → List Token → Node → Type 0
Reads g toks tree = read_of g toks ≡ Ok tree

-- by any grammar the tokens of the tree are those from the first one of the text on, one after another
abbrev pub TokensStandInOrder : Type 0
TokensStandInOrder = (g : Grammar) (toks : List Token) (tree : Node) → Reads g toks tree → AreFrom 0 tree.under

-- .. and they are as many as the text has, where a unit ends with it
abbrev pub AllTokensStandInTrees : Type 0
AllTokensStandInTrees =
    (g : Grammar) (toks : List Token) (tree : Node) → reads_all g ≡ true → Reads g toks tree → token_count tree.under ≡ length toks

-- by each dialect the tree that is read is one of the text (ISO/IEC 9899:1999 and 9899:2011, Annex A.2)
abbrev pub TreesAreOfTheirTexts : Type 0
TreesAreOfTheirTexts = (d : Dialect) (toks : List Token) (tree : Node) → Reads (grammar d) toks tree → IsTreeOf (length toks) tree

-- .. and by each edition one in whose declarators no block stands
abbrev pub TreesOfEditionsArePlain : Type 0
TreesOfEditionsArePlain = (s : Edition) (toks : List Token) (tree : Node) → Reads (iso s) toks tree → IsPlainTree (length toks) tree

-- the index of the token at which reading stops
abbrev pub place_of : Stop → ℕ
place_of (syntax k) = k
place_of (too_deep k) = k

-- by any grammar reading stops at a token of the text, or where it ends
abbrev pub ReadingStopsInTheText : Type 0
ReadingStopsInTheText = (g : Grammar) (toks : List Token) → IfErr (read_of g toks) (λ stop. place_of stop ≤ length toks)

-- ---- Texts that are read and bound

-- this is so of each text that is read by an edition, and of its binding
abbrev pub OfEachBinding : (Edition → List Token → Bound → Type 0) → Type 0
OfEachBinding P =
    (s : Edition) (toks : List Token) (tree : Node) (b : Bound) → Reads (iso s) toks tree → Binds toks tree b → P s toks b

-- a name is a token of the text, and so is the one that names its entity (6.2.1)
abbrev pub ReadNamesStandInTheText : Type 0
ReadNamesStandInTheText = OfEachBinding (λ s toks b. All (λ (n : Name). (n.index < length toks) × (n.entity < length toks)) b.names)

-- a fault of binding stands at a token of the text
abbrev pub ReadFaultsStandInTheText : Type 0
ReadFaultsStandInTheText =
    (s : Edition) (toks : List Token) (tree : Node) → Reads (iso s) toks tree → IfErr (binding_of toks tree) (λ f. index_of f < length toks)

-- no token is two names
abbrev pub EachReadTokenIsOneName : Type 0
EachReadTokenIsOneName = OfEachBinding (λ s toks b. AllPairs (λ (m n : Name). m.index ≢ n.index) b.names)

-- a name is an identifier (6.4.2) that is no keyword, and so is the one that names its entity
abbrev pub ReadNamesAreIdentifiers : Type 0
ReadNamesAreIdentifiers =
    OfEachBinding (λ s toks b. All (λ (n : Name). (is_identifier (base_at (iso s) toks n.index) ≡ true) × (is_identifier (base_at (iso s) toks n.entity) ≡ true)) b.names)

-- the token that names an entity is itself a name, and of this entity
abbrev pub ReadEntitiesAreNames : Type 0
ReadEntitiesAreNames =
    OfEachBinding (λ s toks b. All (λ (n : Name). (entity_at b.names n.index ≡ Some n.entity) × (entity_at b.names n.entity ≡ Some n.entity)) b.names)

-- an identifier that has linkage denotes one entity in the text (6.2.2 paragraph 2)
abbrev pub OneReadLinkedName : Type 0
OneReadLinkedName = OfEachBinding (λ s toks b. (j k : ℕ) → has_linkage (linkage_at b.names j) ≡ true → has_linkage (linkage_at b.names k) ≡ true → alike toks j k ≡ true → j ≡ k)

-- the parameter lists stand in order of the declared names, each of which has one at most (6.7.5.3)
abbrev pub ReadParameterListsAreInOrder : Type 0
ReadParameterListsAreInOrder = OfEachBinding (λ s toks b. AllPairs (λ (l m : NameList). l.name < m.name) b.declarators)

-- the argument lists stand in order of the names that are called, each of which has one at most (6.5.2.2)
abbrev pub ReadArgumentListsAreInOrder : Type 0
ReadArgumentListsAreInOrder = OfEachBinding (λ s toks b. AllPairs (λ (l m : NameList). l.name < m.name) b.calls)

-- a body stands behind its name, and in the text (6.9.1)
abbrev pub ReadBodiesStandInTheText : Type 0
ReadBodiesStandInTheText = OfEachBinding (λ s toks b. All (IsBody (length toks)) b.functions)

-- each body ends before the name of a later one
abbrev pub ReadBodiesAreApart : Type 0
ReadBodiesAreApart = OfEachBinding (λ s toks b. AllPairs (λ (r s : Range). r.to < s.name) b.functions)
