-- The binding of a unit of GNU C: the walk over its tree. What GNU C does not change is as in the standards.
use Rattle.std.specs.Prelude.{ℕ, ◌+◌, ◌==◌, Bool, false, ◌&&◌, ◌||◌, List, if◌then◌else◌}
use Rattle.cs_base.specs.Token.{Token}
use Rattle.c99_tree.specs.Tree.{Forest, none, token, node}
use Rattle.c99_tree.specs.declared.production.Label.{Label}
use Rattle.c99_tree.specs.declared.production.Production.{Production}
use Rattle.c99_tree.specs.declared.production.Production.TheVariants.{SuRest, Unary, Primary, Block, BlockItem, Statement, AutoDecl, MemberPath}
use Rattle.c_types.specs.Types.{CType, arithmetic, nothing, unknown, pointer, adjusted}
use Rattle.c_types.specs.Tags.{number_in}
use Rattle.c_types.specs.Trees.{is_node, first_token, last_token}
use Rattle.c_types.specs.Declarations.{Facts, with_complete}
use Rattle.c_types.specs.declared.entity.EntityKind.TheVariants.{Object}
use Rattle.c_types.specs.declared.entity.Linkage.TheVariants.{External, Absent}
use Rattle.c_types.specs.declared.frames.Frame.{Frame}
use Rattle.c_types.specs.declared.frames.Position.{Position}
use Rattle.scope_bind.specs.Below.name_chains.Frames.{State}
use Rattle.scope_bind.specs.Below.name_chains.Entering.{facts_in, found_in, frame_in}
use Rattle.scope_bind.specs.declared.ordinary.Declared.{Declared}
use Rattle.scope_bind.specs.Ordinary.{declared}
use Rattle.scope_bind.specs.Walk.{facts_at, found_at, position_at, facts_after, frame_after}
use Rattle.gnu_bind.specs.declared.senses.Special.{Special}
use Rattle.gnu_bind.specs.declared.senses.Sense.{Sense}
use Rattle.gnu_bind.specs.Senses.{sense_in, away, is_value, begins_with_two}
use Rattle.gnu_bind.specs.declared.roles.GnuRole.{GnuRole}
use Rattle.gnu_bind.specs.declared.roles.GnuRole.TheVariants.{Standard as standard, Name as name, BlockLabel as block_label, Label as label, Jump as jump, Address as address, Path as path, Brace as brace}
use Rattle.gnu_bind.specs.Roles.{role_in}
use Rattle.gnu_bind.specs.Names.{name_read, name_type, path_read, path_type}
use Rattle.gnu_bind.specs.BlockLabels.{with_block_label, labelled, jumped}
use Rattle.gnu_bind.specs.Types.{type_after}
use Rattle.gnu_bind.specs.Alone.{stands_alone}
use Rattle.gnu_bind.specs.OpenLists.{open_after}

-- ---- A node is entered

-- braces, perhaps with nothing in them, follow `struct` or `union`
abbrev pub has_braces : Label → Forest → Bool
has_braces l under = is_node l SuRest && ((l.alternative == 2) || begins_with_two under)

-- without an expression at its end a block has no value
abbrev pub value_type : Special → CType
value_type s = if is_value s then nothing else arithmetic

-- ---- `__auto_type`

-- the name behind the word
abbrev pub auto_name : Forest → ℕ
auto_name (token i rest) = first_token rest 0
auto_name _ = 0

-- its name is visible behind the initializer, of which it has the type, and linkage as an object without specifiers has
abbrev pub auto_declared : Frame → ℕ → ℕ → CType → Declared
auto_declared f i last t = record {
  name_at = i;
  last = last;
  kind = Object;
  ctype = adjusted t;
  linkage = if f.scope.depth == 0 then External else Absent;
  listing = false;
  listed = false;
}

module _ (toks : List Token) where
  -- the type that a node begins with
  abbrev pub type_in : Production → Label → Special → Frame → Facts → CType
  type_in Primary l s f facts = if l.alternative == 6 then unknown else found_in toks Primary l f facts
  type_in Unary l s f facts = if l.alternative == 4 then pointer nothing else arithmetic
  type_in MemberPath l s f facts = f.found
  type_in AutoDecl l s f facts = unknown
  type_in Block l s f facts = value_type s
  type_in BlockItem l s f facts = value_type s
  type_in Statement l s f facts = value_type s
  type_in p l s f facts = found_in toks p l f facts

  -- the frame of a node of this sense
  abbrev pub frame_begun : Label → Forest → Special → Frame → Facts → Frame
  frame_begun l under s f facts = record (frame_in toks l under f facts) {
    alone = stands_alone l.production under f;
    has_body = (frame_in toks l under f facts).has_body || has_braces l under;
    found = type_in l.production l s f facts;
  }

  abbrev pub begun : Label → ℕ → Forest → Sense → State → State
  begun l first under s t = record {
    facts = facts_in l.production first under t.frame t.facts;
    frame = frame_begun l under s.special t.frame t.facts;
  }

  -- ---- A token is read

  abbrev pub facts_by : GnuRole → Sense → ℕ → Frame → Facts → Facts
  facts_by (standard r) s i f facts = facts_at toks r i f facts
  facts_by name s i f facts = name_read toks s.special f i facts
  facts_by block_label s i f facts = with_block_label toks f.scope i facts
  facts_by label s i f facts = labelled toks s f i facts
  facts_by jump s i f facts = jumped toks s i facts
  facts_by address s i f facts = jumped toks (away s f) i facts
  facts_by path s i f facts = path_read toks f i facts
  facts_by brace s i f facts = with_complete (number_in f.found) facts

  abbrev pub type_by : GnuRole → Sense → ℕ → Frame → Facts → CType
  type_by (standard r) s i f facts = found_at toks r i f facts
  type_by name s i f facts = name_type toks s.special f i facts
  type_by path s i f facts = path_type toks f i facts
  type_by _ s i f facts = f.found

  abbrev pub place_by : GnuRole → ℕ → Frame → Facts → Position
  place_by (standard r) i f facts = position_at toks r i f facts
  place_by _ i f facts = f.position

  abbrev pub read_as : GnuRole → Sense → ℕ → State → State
  read_as r s i t = record {
    facts = facts_by r s i t.frame t.facts;
    frame = record t.frame {
      nth = t.frame.nth + 1;
      token = i;
      found = type_by r s i t.frame t.facts;
      position = place_by r i t.frame t.facts;
    };
  }

  abbrev pub read : Sense → ℕ → State → State
  read s i t = read_as (role_in t.frame.label.production t.frame.label.alternative t.frame.nth) s i t

  -- ---- A node is left

  abbrev pub with_auto : Frame → Forest → CType → Facts → Facts
  with_auto f under t facts = declared toks f.scope (auto_declared f (auto_name under) (last_token under 0) t) facts

  abbrev pub facts_ended : Production → ℕ → Frame → Label → Forest → Frame → Facts → Facts
  facts_ended AutoDecl first f l under child facts = with_auto f under child.found facts
  facts_ended p first f l under child facts = facts_after toks p first f l under child.body facts

  -- the frame around, once a child is left
  abbrev pub frame_ended : Special → Frame → Label → Forest → Frame → Frame
  frame_ended s f l under child = record (frame_after toks f l under child) {
    kept = open_after f l under;
    found = type_after toks f.label.production s f l under child;
  }

  -- a node is left, in one of this sense: `t` is the state before it, and `t'` at its end
  abbrev pub ended : Sense → Label → ℕ → Forest → State → State → State
  ended s l first under t t' = record {
    facts = facts_ended l.production first t.frame l under t'.frame t'.facts;
    frame = frame_ended s.special t.frame l under t'.frame;
  }

  -- the children of a node of this sense, one after another
  unfoldable pub walked : Sense → Forest → State → State
  walked s none t = t
  walked s (token i rest) t = walked s rest (read s i t)
  walked s (node l first under rest) t =
      let below : Sense = sense_in toks l.production under t.frame s in
      walked s rest (ended s l first under t (walked below under (begun l first under below t)))
