-- What is special about a node of GNU C: arguments of attributes, calls of some built-in functions, blocks in
-- expressions, and what stands in them.
use Rattle.std.specs.Prelude.{ℕ, Bool, true, false, ◌&&◌, ◌||◌, not, List, Option, None, Some, if◌then◌else◌, ◌==◌}
use Rattle.std.specs.Option.{option_map_or}
use Rattle.cs_base.specs.Token.{Token}
use Rattle.c99_tree.specs.Tree.{Forest, none, token, node, Node}
use Rattle.c99_tree.specs.declared.production.Label.{Label}
use Rattle.c99_tree.specs.declared.production.Production.{Production}
use Rattle.c99_tree.specs.declared.production.Production.TheVariants.{FunBody, Cond, Unary, Primary, Post, Args, Block, BlockItem, Statement, AttrItem}
use Rattle.c_types.specs.declared.frames.Frame.{Frame}
use Rattle.c_types.specs.Trees.{is_node, is_at, first_token}
use Rattle.c_types.specs.Shapes.{first_node, second_node, lone_token}
use Rattle.c_types.specs.Declarations.{spelling_at}
use Rattle.gnu_bind.specs.Words.{is_word_attribute, is_fetch}
use Rattle.gnu_bind.specs.declared.senses.Special.{Special}
use Rattle.gnu_bind.specs.declared.senses.Special.TheVariants.{Usual as usual, Open as open_, Word as word, Fetch as fetch, Choice as choice, Value as value}
use Rattle.gnu_bind.specs.declared.senses.Sense.{Sense}

-- ---- Attributes

-- the token behind two others, or the one given
abbrev pub third_or : Forest → ℕ → ℕ
third_or (token n rest) k = n
third_or _ k = k

abbrev pub second_or : Forest → ℕ → ℕ
second_or (token b rest) k = third_or rest k
second_or _ k = k

-- the name behind `::`, or the one given: a list of arguments has at most one token before its arguments
abbrev pub name_behind : Forest → ℕ → ℕ
name_behind (token a rest) k = second_or rest k
name_behind _ k = k

-- the token that names an attribute
abbrev pub attribute_name : Forest → ℕ
attribute_name (node l first under rest) = name_behind rest (first_token under 0)
attribute_name _ = 0

-- ---- Calls

abbrev pub callee_by : Label → Option ℕ → Label → Option ℕ
callee_by l (Some i) m = if is_at l Primary 1 && is_at m Post 2 then Some i else None
callee_by l None m = None

abbrev pub callee_of : Option Node → Option Node → Option ℕ
callee_of (Some n) (Some m) = callee_by n.label (lone_token n.under) m.label
callee_of _ _ = None

-- the name that is called where a postfix expression begins with a name and a list of arguments (6.5.2.2)
abbrev pub callee_in : Forest → Option ℕ
callee_in f = callee_of (first_node f) (second_node f)

-- ---- Conditions

abbrev pub begins_with_token : Forest → Bool
begins_with_token (token i rest) = true
begins_with_token _ = false

abbrev pub begins_with_two : Forest → Bool
begins_with_two (token i rest) = begins_with_token rest
begins_with_two _ = false

-- two signs behind the first operand: `a ?: b`
abbrev pub omits_second : Forest → Bool
omits_second (node l first under rest) = begins_with_two rest
omits_second _ = false

-- ---- The sense of a node

abbrev pub is_value : Special → Bool
is_value value = true
is_value _ = false

abbrev pub is_fetching : Special → Bool
is_fetching fetch = true
is_fetching _ = false

abbrev pub is_choosing : Special → Bool
is_choosing choice = true
is_choosing _ = false

abbrev pub special_if : Bool → Special → Special
special_if is s = if is then s else usual

-- a block that begins with `__label__` declares labels
abbrev pub declares_labels : Forest → Bool
declares_labels none = false
declares_labels (token i rest) = declares_labels rest
declares_labels (node l first under rest) = is_at l BlockItem 7 || declares_labels rest

-- outside the body of a function, or among the declarations before it (6.9.1 paragraph 6)
abbrev pub is_outside : Frame → Bool
is_outside f = f.listing || not (option_map_or (λ b. true) f.body false)

-- what asks for a label there is in no function
abbrev pub away : Sense → Frame → Sense
away s f = record s { homeless = s.homeless || is_outside f }

module _ (toks : List Token) where
  abbrev pub is_fetch_by : Option ℕ → Bool
  is_fetch_by None = false
  is_fetch_by (Some i) = is_fetch (spelling_at toks i)

  -- The arguments of an attribute take its sense, and the first one theirs. The call of such a built-in function and
  -- its arguments take that of the postfix expression. A block in an expression has a value, and so have its items, and
  -- the statements that they are.
  abbrev pub special_in : Production → Forest → Frame → Special → Special
  special_in AttrItem under f s = if is_word_attribute (spelling_at toks (attribute_name under)) then word else open_
  special_in Args under f s = special_if (is_node f.label AttrItem || is_node f.label Post) s
  special_in Primary under f s = special_if (is_node f.label Args && (f.nth == 0)) s
  special_in Unary under f s = special_if (is_fetch_by (callee_in under)) fetch
  special_in Post under f s = special_if (is_node f.label Unary && (f.nth == 1)) s
  special_in Cond under f s = special_if (omits_second under) choice
  special_in Block under f s = special_if (is_node f.label Primary) value
  special_in BlockItem under f s = special_if (is_value s && (is_node f.label Block || (is_node f.label BlockItem || is_node f.label Statement))) value
  special_in Statement under f s = special_if (is_value s && is_node f.label BlockItem) value
  special_in _ under f s = usual

  -- a block in an expression that is outside: in it no label is a function's
  abbrev pub is_homeless : Production → Frame → Bool
  is_homeless Block f = is_node f.label Primary && is_outside f
  is_homeless _ f = false

  abbrev pub is_labelling : Production → Forest → Bool
  is_labelling Block under = declares_labels under
  is_labelling FunBody under = declares_labels under
  is_labelling _ under = false

  -- .. and whether it stands in such a block, or in one that declares labels
  abbrev pub sense_in : Production → Forest → Frame → Sense → Sense
  sense_in p under f s = record {
    special = special_in p under f s.special;
    homeless = s.homeless || is_homeless p f;
    labels = s.labels || is_labelling p under;
  }

-- at the beginning of a unit
abbrev pub usual_sense : Sense
usual_sense = record { special = usual; homeless = false; labels = false }
