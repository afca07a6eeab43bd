-- Places in brace lists (ISO/IEC 9899:1999, 6.7.8), as far as designators name members in them.
-- Differs: which subobjects a list without braces of its own fills is not followed; the place behind is unknown.
use Rattle.std.specs.Prelude.{ℕ, ◌+◌, Bool, true, false, ◌&&◌, ◌||◌, not, List, [], ◌∷◌, Option, None, Some, slice_get, if◌then◌else◌, ◌==◌}
use Rattle.std.specs.Option.{option_map_or}
use Rattle.cs_base.specs.Token.{Token}
use Rattle.c99_tree.specs.Tree.{Forest}
use Rattle.c99_tree.specs.declared.production.Label.{Label}
use Rattle.c99_tree.specs.declared.production.Production.{Production}
use Rattle.c99_tree.specs.declared.production.Production.TheVariants.{Designator, InitItem, InitList}
use Rattle.c_types.specs.declared.declarations.Cause.TheVariants.{DesignatorAfterElision as designator_after_elision}
use Rattle.c_types.specs.declared.types.Base.{Base}
use Rattle.c_types.specs.declared.types.Base.TheVariants.{Union}
use Rattle.c_types.specs.Types.{CType, arithmetic, unknown, is_record, is_array, is_arithmetic, is_unknown, inner_of}
use Rattle.c_types.specs.Tags.{number_in}
use Rattle.c_types.specs.Trees.{is_node, is_text}
use Rattle.c_types.specs.declared.declarations.Declaration.{Declaration}
use Rattle.c_types.specs.Declarations.{Facts, with_fault}
use Rattle.c_types.specs.declared.frames.Frame.{Frame}
use Rattle.c_types.specs.declared.frames.Position.{Position}
use Rattle.c_types.specs.declared.declarations.Space.{Space}
use Rattle.c_types.specs.declared.declarations.Space.TheVariants.{Inner as inner}
use Rattle.c_types.specs.declared.frames.Position.TheVariants.{Numbered as numbered, Lost as lost, Beyond as beyond}
use Rattle.name_chains.specs.Members.{is_known, members_of, member_at, member_used, member_type}

-- ---- Places

-- the type of member number n, in a structure or union that is complete
abbrev pub member_place : CType → ℕ → Facts → CType
member_place t n facts =
    if is_known t facts then option_map_or (λ d. d.ctype) (slice_get (members_of (number_in t) facts) n) arithmetic else arithmetic

abbrev pub is_union_base : Base → Bool
is_union_base (Union n) = true
is_union_base _ = false

-- place number n in a list of the type: a union has one (paragraph 17)
abbrev pub place_at : CType → ℕ → Facts → CType
place_at t n facts = if is_union_base t.base && not (n == 0) then arithmetic else member_place t n facts

-- the place at a position, in a list of a type that is known and no array
abbrev pub next_member : CType → Position → Facts → CType
next_member t lost facts = unknown
next_member t (numbered n) facts = place_at t n facts
next_member t beyond facts = arithmetic

abbrev pub is_lost : Position → Bool
is_lost lost = true
is_lost _ = false

-- the next place in a list of the type
abbrev pub next_place : CType → Position → Facts → CType
next_place t at facts =
    if is_unknown t || is_lost at then unknown else (if is_array t then inner_of t else next_member t at facts)

abbrev pub behind : Position → Position
behind (numbered n) = numbered (n + 1)
behind at = at

-- the element that `[` and an index designate
abbrev pub element_of : CType → CType
element_of t = if is_unknown t then unknown else (if is_array t then inner_of t else arithmetic)

-- ---- Items

-- An item without braces fills a part of such a place alone (paragraph 20), unless it has structure or union type,
-- or is a string for an array of characters (paragraphs 13 and 14). So it may at a place of unknown type.
abbrev pub is_part : CType → CType → Bool → Bool
is_part place item text =
    is_unknown place ||
    (not (is_record item) && (if is_array place then not (text && is_arithmetic (inner_of place)) else is_record place))

-- an initializer without braces does so
abbrev pub is_elision : Label → Forest → Frame → Bool
is_elision l under child = (l.alternative == 2) && is_part child.given child.found (is_text under)

-- the next place once an item is read
abbrev pub after_item : Frame → Label → Forest → Frame → Position
after_item f l under child = if is_elision l under child then lost else behind f.position

-- the next place once a designator is read: of several, none is known
abbrev pub after_designator : Frame → Frame → Position
after_designator f child = if f.nth == 0 then child.position else lost

-- the next place of a node of the production, once this child is read
abbrev pub position_after : Production → Frame → Label → Forest → Frame → Position
position_after InitItem f l under child =
    if is_node l Designator then after_designator f child else after_item f l under child
position_after InitList f l under child = if is_node l InitItem then child.position else f.position
position_after _ f l under child = f.position

-- ---- Designators

abbrev pub is_inner : Space → Bool
is_inner (inner n) = true
is_inner _ = false

-- how many members stand before this one
abbrev pub number_before : List Declaration → Declaration → ℕ
number_before [] d = 0
number_before (e ∷ later) d = if e.name_at == d.name_at then 0 else number_before later d + 1

module _ (toks : List Token) where
  abbrev pub designated_facts : CType → ℕ → Facts → Facts
  designated_facts place i facts =
      if is_unknown place then with_fault true designator_after_elision i facts else member_used toks place i facts

  abbrev pub designated_type : CType → ℕ → Facts → CType
  designated_type place i facts = if is_unknown place then unknown else member_type toks place i unknown facts

  -- the number of the member designated; behind a name of an anonymous member no place is known
  abbrev pub position_of : CType → Facts → Option Declaration → Position → Position
  position_of place facts None at = at
  position_of place facts (Some d) at =
      if is_inner d.space then lost else numbered (number_before (members_of (number_in place) facts) d)

  abbrev pub designated_position : CType → ℕ → Facts → Position → Position
  designated_position place i facts at = position_of place facts (member_at toks place i facts) at
