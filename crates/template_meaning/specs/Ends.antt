-- Which tokens may stand in a tree, and end an item of a list: those that an alternative asks for by their class (ISO/IEC
-- 9899:1999, 6.4.6 and Annex A.2).
use Rattle.std.specs.Prelude.{ℕ, zero, suc, ◌+◌, ◌<◌, ◌≤◌, ◌≡◌, ◌⊎◌, ◌||◌, true, false, List, [], ◌∷◌, ◌++◌, Some, length, slice_get}
use Rattle.c99_grammar.specs.declared.dialects.Edition.{Edition}
use Rattle.cs_base.specs.Token.{Token}
use Rattle.c99_tree.specs.Tree.{Forest, none, token, node, Node}
use Rattle.c99_tree.specs.declared.production.Label.{Label}
use Rattle.c99_tree.specs.declared.production.Production.TheVariants.{Args, Params}
use Rattle.c99_grammar.specs.declared.classes.Class.{Class}
use Rattle.c99_grammar.specs.declared.classes.Class.TheVariants.{LeftParen, Slash, Hash}
use Rattle.c99_grammar.specs.Classes.{is_same, among}
use Rattle.c99_grammar.specs.Items.{Item, one, part, end_of_text, act, ◌·◌, choice, maybe, many, deep, Alternative}
use Rattle.c99_grammar.specs.Standard.{Grammar, iso}
use Rattle.c99_read.specs.State.{base_at, is_identifier}
use Rattle.c_types.specs.Trees.{is_node, last_token}
use Rattle.tree_laws.specs.ReadTexts.{Reads}
use Rattle.tree_laws.specs.TreesOfTexts.{token_count}
use Rattle.template_meaning.specs.Children.{EachNode}

-- ---- Children by the classes of tokens

-- a child: a token with its number, or a node
pub data Sign : Type 0 where
  a_token : ℕ → Sign
  a_node : Sign

abbrev pub signs : Forest → List Sign
signs none = []
signs (token i rest) = a_token i ∷ signs rest
signs (node l first under rest) = a_node ∷ signs rest

-- so many parts that are so, one behind the other
abbrev pub AreTimes : (List Sign → Type 0) → ℕ → List Sign → Type 0
AreTimes P zero w = w ≡ []
AreTimes P (suc n) w = (xs : List Sign) × (ys : List Sign) × (w ≡ xs ++ ys) × P xs × AreTimes P n ys

module _ (g : Grammar) (toks : List Token) where
  -- a token that is no identifier is of one of the classes
  abbrev pub HasClass : List Class → ℕ → Type 0
  HasClass classes i = (c : Class) → is_identifier c ≡ false → base_at g toks i ≡ c → among classes c ≡ true

  -- the children are such as the item says
  abbrev pub AreOfClasses : Item → List Sign → Type 0
  AreOfClasses (one classes) w = (i : ℕ) × (w ≡ a_token i ∷ []) × HasClass classes i
  AreOfClasses (part p) w = w ≡ a_node ∷ []
  AreOfClasses end_of_text w = w ≡ []
  AreOfClasses (act a) w = w ≡ []
  AreOfClasses (a · b) w = (xs : List Sign) × (ys : List Sign) × (w ≡ xs ++ ys) × AreOfClasses a xs × AreOfClasses b ys
  AreOfClasses (choice a b) w = AreOfClasses a w ⊎ AreOfClasses b w
  AreOfClasses (maybe a) w = AreOfClasses a w ⊎ (w ≡ [])
  AreOfClasses (many t a) w = (n : ℕ) × AreTimes (AreOfClasses a) n w
  AreOfClasses (deep a) w = AreOfClasses a w

  -- A node has the children of one alternative of its production, which its label tells.
  pub record IsOfClasses (l : Label) (under : Forest) : Type 0 where
    pub number : ℕ
    pub numbered : l.alternative ≡ number + 1
    pub alternative : Alternative
    pub is_one : slice_get (g.table l.production) number ≡ Some alternative
    pub own : AreOfClasses alternative.body (signs under)

  -- ---- What tokens are not

  abbrev pub IsNot : Class → ℕ → Type 0
  IsNot c i = is_same (base_at g toks i) c ≡ false

  -- it may end an item: it is no `/` and no `(`
  abbrev pub MayEnd : ℕ → Type 0
  MayEnd i = IsNot Slash i × IsNot LeftParen i

  -- each child that is a node has tokens, and the last one may end an item
  abbrev pub EndWell : Forest → Type 0
  EndWell none = Unit {0}
  EndWell (token i rest) = EndWell rest
  EndWell (node l first under rest) = ((1 ≤ token_count under) × MayEnd (last_token under 0)) × EndWell rest

  -- so it is with the items of an argument list or a parameter list
  abbrev pub ItemsEndWell : Label → Forest → Type 0
  ItemsEndWell l under = (is_node l Args || is_node l Params) ≡ true → EndWell under

-- The law: no token of a text that is read is `#`, and so it is with the items of each list in its tree.
abbrev pub TokensMayStand : Type 0
TokensMayStand = (s : Edition) (toks : List Token) (tree : Node) → Reads (iso s) toks tree
    → ((k : ℕ) → k < length toks → IsNot (iso s) toks Hash k) × EachNode (ItemsEndWell (iso s) toks) tree.under
