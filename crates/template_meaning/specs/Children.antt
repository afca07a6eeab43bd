-- Which children the nodes of a tree have: those of the alternative by which each was read (ISO/IEC 9899:1999, Annex A.2).
use Rattle.std.specs.Prelude.{ℕ, zero, suc, ◌+◌, ◌≡◌, ◌⊎◌, Bool, true, false, List, [], ◌∷◌, ◌++◌, Some, slice_get}
use Rattle.c99_grammar.specs.declared.dialects.Edition.{Edition}
use Rattle.cs_base.specs.Token.{Token}
use Rattle.c99_tree.specs.Tree.{Forest, none, token, node, Node}
use Rattle.c99_tree.specs.declared.production.Label.{Label}
use Rattle.c99_tree.specs.declared.production.Production.{Production}
use Rattle.c99_tree.specs.declared.production.Production.TheVariants.{TranslationUnit, Expr, Primary}
use Rattle.c99_grammar.specs.Items.{Item, one, part, end_of_text, act, ◌·◌, choice, maybe, many, deep, Alternative}
use Rattle.c99_grammar.specs.Standard.{Grammar, iso}
use Rattle.c99_read.specs.State.{collapses}
use Rattle.tree_laws.specs.ReadTexts.{Reads}
use Rattle.tree_laws.specs.Shapes.{has_no_declaring}

-- a child: a token, or a node of a production
pub data Child : Type 0 where
  a_token : Child
  a_node : Production → Child

abbrev pub children : Forest → List Child
children none = []
children (token i rest) = a_token ∷ children rest
children (node l first under rest) = a_node l.production ∷ children rest

-- an operand of operators (6.5): a node of these stands for an expression that is nothing but this operand
abbrev pub is_operand : Production → Bool
is_operand Primary = true
is_operand Expr = false
is_operand p = collapses p

-- what is read for a production is a node of it; or, for an expression, an operand that is all of it
abbrev pub StandsFor : Production → Production → Type 0
StandsFor p q = (q ≡ p) ⊎ ((collapses p ≡ true) × (is_operand q ≡ true))

-- so many parts that are so, one behind the other
abbrev pub AreTimes : (List Child → Type 0) → ℕ → List Child → Type 0
AreTimes P zero w = w ≡ []
AreTimes P (suc n) w = (xs : List Child) × (ys : List Child) × (w ≡ xs ++ ys) × P xs × AreTimes P n ys

-- the children are such as the item says
abbrev pub AreOfItem : Item → List Child → Type 0
AreOfItem (one classes) w = w ≡ a_token ∷ []
AreOfItem (part p) w = (q : Production) × (w ≡ a_node q ∷ []) × StandsFor p q
AreOfItem end_of_text w = w ≡ []
AreOfItem (act a) w = w ≡ []
AreOfItem (a · b) w = (xs : List Child) × (ys : List Child) × (w ≡ xs ++ ys) × AreOfItem a xs × AreOfItem b ys
AreOfItem (choice a b) w = AreOfItem a w ⊎ AreOfItem b w
AreOfItem (maybe a) w = AreOfItem a w ⊎ (w ≡ [])
AreOfItem (many t a) w = (n : ℕ) × AreTimes (AreOfItem a) n w
AreOfItem (deep a) w = AreOfItem a w

-- this is so of each node below
abbrev pub EachNode : (Label → Forest → Type 0) → Forest → Type 0
EachNode P none = Unit {0}
EachNode P (token i rest) = EachNode P rest
EachNode P (node l first under rest) = P l under × EachNode P under × EachNode P rest

-- no function, no statement and no declaration but that of parameters and members is read for the production (6.7.5, 6.9.1)
abbrev pub IsInner : Label → Forest → Type 0
IsInner l under = has_no_declaring l.production ≡ true

-- A node has the children of one alternative of its production, which its label tells; and below one that is no such
-- construct there is none.
pub record IsOfAlternative (g : Grammar) (l : Label) (under : Forest) : Type 0 where
  pub number : ℕ
  pub numbered : l.alternative ≡ number + 1
  pub alternative : Alternative
  pub is_one : slice_get (g.table l.production) number ≡ Some alternative
  pub own : AreOfItem alternative.body (children under)
  pub inner : has_no_declaring l.production ≡ true → EachNode IsInner under

-- the tree as a child
abbrev pub whole_of : Node → Forest
whole_of tree = node tree.label tree.first tree.under none

-- The law: so it is with each node of the tree that is read of a text by an edition, which is a translation unit.
abbrev pub ChildrenAreOfAlternatives : Type 0
ChildrenAreOfAlternatives = (s : Edition) (toks : List Token) (tree : Node) → Reads (iso s) toks tree
    → (tree.label.production ≡ TranslationUnit) × EachNode (IsOfAlternative (iso s)) (whole_of tree)
