-- The binding of a unit: one walk over its tree, in the order of its tokens.
-- A node is entered with what is known around it; a token does what its place in the node says; and when a node is
-- left, the one around it goes on with what it knew, and with what its child has found.
use Rattle.std.specs.Prelude.{ℕ, ◌+◌, ◌==◌, List, Option, if◌then◌else◌}
use Rattle.cs_base.specs.Token.{Token}
use Rattle.c99_tree.specs.Tree.{Forest, none, token, node}
use Rattle.c99_tree.specs.declared.production.Label.{Label}
use Rattle.c99_tree.specs.declared.production.Production.{Production}
use Rattle.c99_tree.specs.declared.production.Production.TheVariants.{ExtRest, FunBody, InitDecl, Specs, Members, MemRest, Mdecl, Enumerators, Enumerator, Declarator, Param, Pdecl}
use Rattle.c_types.specs.Types.{CType, arithmetic, target_of}
use Rattle.c_types.specs.Trees.{words_of, name_below, is_node, last_token, first_list}
use Rattle.c_types.specs.Declarations.{Facts, with_complete}
use Rattle.c_types.specs.declared.frames.Body.{Body}
use Rattle.c_types.specs.declared.frames.Frame.{Frame}
use Rattle.c_types.specs.declared.frames.Position.{Position}
use Rattle.name_chains.specs.Frames.{State}
use Rattle.scope_bind.specs.Ordinary.{used, used_type, named_facts, named_type, with_object, with_parameter, with_listed, with_enumerator}
use Rattle.c_types.specs.Tags.{number_in, with_tag, tag_type, with_enumeration}
use Rattle.name_chains.specs.Members.{with_member, with_anonymous, member_used, member_type}
use Rattle.scope_bind.specs.Labels.{with_label, with_jump, with_labels}
use Rattle.scope_bind.specs.Expressions.{found_after}
use Rattle.name_chains.specs.Initializers.{position_after, designated_facts, designated_type, designated_position}
use Rattle.name_chains.specs.Entering.{entered}
use Rattle.scope_bind.specs.declared.roles.Role.{Role}
use Rattle.scope_bind.specs.declared.roles.Role.TheVariants.{Plain as plain, Primary as primary, TypeName as type_name, Tag as tag, EnumerationTag as enumeration_tag, Listed as listed, Member as member, PointedMember as pointed_member, Designated as designated, Label as label, Jump as jump}
use Rattle.scope_bind.specs.Roles.{role_of}

module _ (toks : List Token) where
  abbrev pub facts_at : Role → ℕ → Frame → Facts → Facts
  facts_at plain i f facts = facts
  facts_at primary i f facts = named_facts toks f i facts
  facts_at type_name i f facts = used toks i facts
  facts_at tag i f facts = with_tag toks f i facts
  facts_at enumeration_tag i f facts = with_enumeration toks f i facts
  facts_at listed i f facts = with_listed toks f i facts
  facts_at member i f facts = member_used toks f.given i facts
  facts_at pointed_member i f facts = member_used toks (target_of f.given) i facts
  facts_at designated i f facts = designated_facts toks f.given i facts
  facts_at label i f facts = with_label toks f.body i facts
  facts_at jump i f facts = with_jump i facts

  abbrev pub found_at : Role → ℕ → Frame → Facts → CType
  found_at primary i f facts = named_type toks f i facts
  found_at type_name i f facts = used_type toks i facts
  found_at tag i f facts = tag_type toks f i facts
  found_at enumeration_tag i f facts = if f.has_body then tag_type toks f i facts else f.found
  found_at member i f facts = member_type toks f.given i arithmetic facts
  found_at pointed_member i f facts = member_type toks (target_of f.given) i arithmetic facts
  found_at designated i f facts = designated_type toks f.given i facts
  found_at _ i f facts = f.found

  abbrev pub position_at : Role → ℕ → Frame → Facts → Position
  position_at designated i f facts = designated_position toks f.given i facts f.position
  position_at _ i f facts = f.position

  -- a token is read
  abbrev pub passed_as : Role → ℕ → State → State
  passed_as r i s = record {
    facts = facts_at r i s.frame s.facts;
    frame = record s.frame {
      nth = s.frame.nth + 1;
      token = i;
      found = found_at r i s.frame s.facts;
      position = position_at r i s.frame s.facts;
    };
  }

  abbrev pub passed : ℕ → State → State
  passed i s = passed_as (role_of s.frame.label.production s.frame.label.alternative s.frame.nth) i s

  -- ---- Leaving a node

  -- a declarator is complete: in a declaration, and among members
  abbrev pub declared_in : Production → Frame → Label → Forest → Facts → Facts
  declared_in ExtRest f l under facts = with_object toks f under (name_below l under) facts
  declared_in InitDecl f l under facts = with_object toks f under (name_below l under) facts
  declared_in Mdecl f l under facts = with_member toks f under (name_below l under) facts
  declared_in _ f l under facts = facts

  abbrev pub parameter_in : Production → Frame → Label → Forest → Facts → Facts
  parameter_in Param f l under facts = with_parameter toks f under (name_below l under) facts
  parameter_in _ f l under facts = facts

  -- what is known once a child of the production is left
  abbrev pub facts_after : Production → ℕ → Frame → Label → Forest → Option Body → Facts → Facts
  facts_after Declarator first f l under body facts = declared_in f.label.production f l under facts
  facts_after Pdecl first f l under body facts = parameter_in f.label.production f l under facts
  facts_after Enumerator first f l under body facts = with_enumerator toks f first (last_token under first) facts
  facts_after MemRest first f l under body facts = if l.alternative == 1 then with_anonymous toks f first facts else facts
  facts_after Members first f l under body facts = with_complete (number_in f.found) facts
  facts_after Enumerators first f l under body facts = with_complete (number_in f.found) facts
  facts_after FunBody first f l under body facts = with_labels toks body facts
  facts_after _ first f l under body facts = facts

  abbrev pub kept_after : Frame → Label → Forest → Option ℕ
  kept_after f l under = if is_node l Declarator then first_list under else f.kept

  -- the frame around, once a child is left
  abbrev pub frame_after : Frame → Label → Forest → Frame → Frame
  frame_after f l under child = record f {
    nth = f.nth + 1;
    base = if is_node l Specs then child.found else f.base;
    words = if is_node l Specs then words_of under else f.words;
    kept = kept_after f l under;
    found = found_after toks f.label.production f l under child;
    position = position_after f.label.production f l under child;
  }

  -- a node is left: `s` is the state before it, and `s'` at its end
  abbrev pub left : Label → ℕ → Forest → State → State → State
  left l first under s s' = record {
    facts = facts_after l.production first s.frame l under s'.frame.body s'.facts;
    frame = frame_after s.frame l under s'.frame;
  }

  -- the children, one after another
  unfoldable pub walked : Forest → State → State
  walked none s = s
  walked (token i rest) s = walked rest (passed i s)
  walked (node l first under rest) s = walked rest (left l first under s (walked under (entered toks l first under s)))
