-- Which tokens of a tree are parentheses and commas: those that an alternative has by their class (ISO/IEC 9899:1999,
-- Annex A.2).
use Rattle.std.specs.Prelude.{ℕ, zero, suc, ◌+◌, ◌≡◌, ◌⊎◌, Bool, true, false, List, [], ◌∷◌, ◌++◌, Some, slice_get}
use Rattle.c99_grammar.specs.declared.dialects.Dialect.{Dialect}
use Rattle.cs_base.specs.Token.{Token}
use Rattle.c99_tree.specs.Tree.{Forest, none, token, node, Node}
use Rattle.c99_tree.specs.declared.production.Label.{Label}
use Rattle.c99_grammar.specs.declared.classes.Class.{Class}
use Rattle.c99_grammar.specs.declared.classes.Class.TheVariants.{LeftParen, RightParen, Comma}
use Rattle.c99_grammar.specs.Items.{Item, one, part, end_of_text, act, ◌·◌, choice, maybe, many, deep, Alternative}
use Rattle.c99_grammar.specs.Standard.{Grammar, grammar}
use Rattle.c99_read.specs.State.{base_at}
use Rattle.tree_laws.specs.ReadTexts.{Reads}
use Rattle.reordered_text_laws.specs.Trees.{EachNode}

-- a child: a token with its number, or a node
pub data Child : Type 0 where
  a_token : ℕ → Child
  a_node : Child

abbrev pub children : Forest → List Child
children none = []
children (token i rest) = a_token i ∷ children rest
children (node l first under rest) = a_node ∷ children rest

-- the parentheses and the comma
abbrev pub is_mark : Class → Bool
is_mark LeftParen = true
is_mark RightParen = true
is_mark Comma = true
is_mark _ = false

-- so many parts that are so, one behind the other
abbrev pub AreTimes : (List Child → Type 0) → ℕ → List Child → Type 0
AreTimes P zero w = w ≡ []
AreTimes P (suc n) w = (xs : List Child) × (ys : List Child) × (w ≡ xs ++ ys) × P xs × AreTimes P n ys

module _ (g : Grammar) (toks : List Token) where
  -- where only one of these is asked for, the token has this class
  abbrev pub HasClass : List Class → ℕ → Type 0
  HasClass classes i = (c : Class) → classes ≡ c ∷ [] → is_mark c ≡ true → base_at g toks i ≡ c

  -- the children are such as the item says
  abbrev pub AreOfItem : Item → List Child → Type 0
  AreOfItem (one classes) w = (i : ℕ) × (w ≡ a_token i ∷ []) × HasClass classes i
  AreOfItem (part p) w = w ≡ a_node ∷ []
  AreOfItem end_of_text w = w ≡ []
  AreOfItem (act a) w = w ≡ []
  AreOfItem (a · b) w = (xs : List Child) × (ys : List Child) × (w ≡ xs ++ ys) × AreOfItem a xs × AreOfItem b ys
  AreOfItem (choice a b) w = AreOfItem a w ⊎ AreOfItem b w
  AreOfItem (maybe a) w = AreOfItem a w ⊎ (w ≡ [])
  AreOfItem (many t a) w = (n : ℕ) × AreTimes (AreOfItem a) n w
  AreOfItem (deep a) w = AreOfItem a w

  -- A node has the children of one alternative of its production, which its label tells.
  pub record IsOfClasses (l : Label) (under : Forest) : Type 0 where
    pub number : ℕ
    pub numbered : l.alternative ≡ number + 1
    pub alternative : Alternative
    pub is_one : slice_get (g.table l.production) number ≡ Some alternative
    pub own : AreOfItem alternative.body (children under)

-- The law: so it is with each node of a tree that is read of a text by a dialect.
abbrev pub TokensAreOfClasses : Type 0
TokensAreOfClasses = (s : Dialect) (toks : List Token) (tree : Node) → Reads (grammar s) toks tree → EachNode (IsOfClasses (grammar s) toks) tree.under
