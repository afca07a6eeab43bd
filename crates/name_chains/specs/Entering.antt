-- What is known where a node begins: its scope, what is given to it, and the type that it starts with.
use Rattle.std.specs.Prelude.{ℕ, ◌+◌, Bool, true, false, ◌&&◌, ◌||◌, not, List, [], ◌++◌, Option, None, Some, filter_map, if◌then◌else◌, ◌==◌, nat_lt}
use Rattle.cs_base.specs.Token.{Token}
use Rattle.c99_tree.specs.Tree.{Forest}
use Rattle.c99_tree.specs.declared.production.Label.{Label}
use Rattle.c99_tree.specs.declared.production.Production.{Production}
use Rattle.c99_tree.specs.declared.production.Production.TheVariants.{External, ExtTail, FunBody, Declaration as DeclarationNode, Specs, Main, StructSpec, SuRest, Members, EnRest, Enumerators, Suffix, Init, InitList, InitItem, Designator, CastRest, SizeLit, Primary, Post, Block, Statement, Sub}
use Rattle.c_types.specs.Types.{CType, arithmetic, array, enumeration, called}
use Rattle.c_types.specs.Trees.{is_node, is_list, last_token, first_token, has_node, is_bare}
use Rattle.c_types.specs.declared.declarations.Space.{Space}
use Rattle.c_types.specs.declared.declarations.Space.TheVariants.{Members as members, Inner as inner_names, Unnamed as unnamed}
use Rattle.c_types.specs.declared.declarations.Declaration.{Declaration}
use Rattle.c_types.specs.Declarations.{Facts}
use Rattle.c_types.specs.declared.frames.Scope.{Scope}
use Rattle.c_types.specs.declared.frames.Body.{Body}
use Rattle.c_types.specs.declared.frames.Frame.{Frame}
use Rattle.c_types.specs.declared.frames.Position.{Position}
use Rattle.c_types.specs.declared.frames.Position.TheVariants.{Numbered as numbered, Beyond as beyond}
use Rattle.name_chains.specs.Frames.{State}
use Rattle.c_types.specs.Tags.{number_in, new_record}
use Rattle.name_chains.specs.Initializers.{next_place, element_of}

-- a scope in the present one, which ends before the token
abbrev pub inner : Scope → ℕ → Scope
inner around to = record { depth = around.depth + 1; to = to }

-- selection and iteration statements (6.8.4 paragraph 3, 6.8.5 paragraph 5)
abbrev pub is_scoped : ℕ → Bool
is_scoped n = nat_lt 4 n && nat_lt n 10

-- Blocks, function bodies and parameter lists are scopes (6.2.1 paragraph 4), which end before their last token,
-- and so are such statements and what stands below them, to the end.
abbrev pub scope_in : Production → Label → Forest → Scope → Scope
scope_in Block l under around = inner around (last_token under 0)
scope_in FunBody l under around = inner around (last_token under 0)
scope_in Suffix l under around = if is_list l then inner around (last_token under 0) else around
scope_in Sub l under around = inner around (last_token under 0 + 1)
scope_in Statement l under around = if is_scoped l.alternative then inner around (last_token under 0 + 1) else around
scope_in _ l under around = around

abbrev pub body_in : Production → Forest → Option Body → Option Body
body_in FunBody under around = Some (record { from = first_token under 0; to = last_token under 0 })
body_in _ under around = around

-- the declarations between the list and the body (6.9.1 paragraph 6)
abbrev pub listing_in : Production → Frame → Bool
listing_in DeclarationNode f = is_node f.label FunBody
listing_in _ f = f.listing

abbrev pub alone_in : Production → Forest → Frame → Bool
alone_in External under f = is_bare under
alone_in DeclarationNode under f = is_bare under
alone_in Specs under f = f.alone
alone_in Main under f = f.alone
alone_in StructSpec under f = f.alone
alone_in SuRest under f = f.alone
alone_in _ under f = false

abbrev pub owner_in : Production → Frame → ℕ
owner_in Members f = number_in f.found
owner_in _ f = f.owner

-- what is given to a node: to an initializer its place, to a designator the place so far, to what follows an
-- operand or a type name that
abbrev pub given_in : Production → Frame → CType
given_in ExtTail f = f.found
given_in Init f = f.found
given_in Designator f = f.found
given_in CastRest f = f.found
given_in SizeLit f = f.found
given_in Post f = f.found
given_in _ f = f.given

abbrev pub position_in : Production → Label → Frame → Position
position_in InitList l f = numbered 0
position_in InitItem l f = if l.alternative == 1 then beyond else f.position
position_in _ l f = f.position

-- the name spaces of members have no scopes
abbrev pub is_member : Space → Bool
is_member (members n) = true
is_member (inner_names n) = true
is_member (unnamed n) = true
is_member _ = false

-- the declarations of a list that a body begins with: its names have the body as a second range
abbrev pub kept_here : ℕ → ℕ → ℕ → ℕ → Declaration → Option Declaration
kept_here list depth from to d =
    if (d.to == list) && ((d.depth == depth) && not (is_member d.space)) then Some (record d { from = from; to = to }) else None

abbrev pub with_kept : Option ℕ → ℕ → ℕ → ℕ → Facts → Facts
with_kept None depth from to facts = facts
with_kept (Some list) depth from to facts =
    record facts { declared = filter_map (kept_here list depth from to) facts.declared ++ facts.declared }

abbrev pub facts_in : Production → ℕ → Forest → Frame → Facts → Facts
facts_in FunBody first under f facts =
    with_kept f.kept (f.scope.depth + 1) first (last_token under 0) (record facts { jumps = [] })
facts_in _ first under f facts = facts

module _ (toks : List Token) where
  -- the type that a node begins with
  abbrev pub found_in : Production → Label → Frame → Facts → CType
  found_in ExtTail l f facts = f.found
  found_in CastRest l f facts = f.found
  found_in SizeLit l f facts = f.found
  found_in Post l f facts = if l.alternative == 2 then called f.found else f.found
  found_in InitItem l f facts = if l.alternative == 1 then f.given else next_place f.given f.position facts
  found_in Designator l f facts = element_of f.found
  found_in SuRest l f facts = new_record toks f.token
  found_in EnRest l f facts = enumeration f.token
  found_in Primary l f facts = if l.alternative == 4 then array arithmetic else arithmetic
  found_in _ l f facts = arithmetic

  abbrev pub frame_in : Label → Forest → Frame → Facts → Frame
  frame_in l under f facts = record f {
    label = l;
    nth = 0;
    scope = scope_in l.production l under f.scope;
    body = body_in l.production under f.body;
    listing = listing_in l.production f;
    alone = alone_in l.production under f;
    has_body = has_node Members under || has_node Enumerators under;
    owner = owner_in l.production f;
    given = given_in l.production f;
    found = found_in l.production l f facts;
    position = position_in l.production l f;
  }

  -- a node is entered
  abbrev pub entered : Label → ℕ → Forest → State → State
  entered l first under s = record {
    facts = facts_in l.production first under s.frame s.facts;
    frame = frame_in l under s.frame s.facts;
  }
