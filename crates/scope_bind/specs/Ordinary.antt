-- Ordinary identifiers (ISO/IEC 9899:1999, 6.2.1, 6.2.2, 6.7 paragraph 3).
use Rattle.std.specs.Prelude.{ℕ, ◌+◌, Bool, true, false, ◌&&◌, ◌||◌, not, List, Option, None, Some, codes, if◌then◌else◌}
use Rattle.std.specs.Option.{option_map_or}
use Rattle.std.specs.Str.{bytes_eq}
use Rattle.cs_base.specs.Token.{Token}
use Rattle.c99_tree.specs.Tree.{Forest}
use Rattle.c_types.specs.declared.entity.EntityKind.{EntityKind}
use Rattle.c_types.specs.declared.entity.EntityKind.TheVariants.{Object, Function, Typedef, Parameter, Enumerator}
use Rattle.c_types.specs.declared.entity.Linkage.{Linkage}
use Rattle.c_types.specs.declared.entity.Linkage.TheVariants.{Absent}
use Rattle.c_types.specs.declared.declarations.Cause.TheVariants.{Undeclared as undeclared, Redeclared as redeclared, MixedLinkage as mixed_linkage}
use Rattle.scope_bind.specs.declared.ordinary.Declared.{Declared}
use Rattle.c_types.specs.Types.{CType, arithmetic, array, is_function, adjusted}
use Rattle.c_types.specs.Trees.{last_token, declarator_type}
use Rattle.c_types.specs.declared.declarations.Space.TheVariants.{Ordinary as ordinary}
use Rattle.c_types.specs.declared.declarations.Declaration.{Declaration}
use Rattle.c_types.specs.Declarations.{spelling_at, Facts, has_linkage, is_typedef_name, with_fault, with_use, with_declaration, visible, in_scope, linked, is_mixed}
use Rattle.c_types.specs.declared.frames.Scope.{Scope}
use Rattle.c_types.specs.declared.frames.Frame.{Frame}
use Rattle.scope_bind.specs.Linkage.{linkage_of}

-- A second declaration in one scope is of the same entity where both have linkage, where both are typedef names,
-- or where it gives the type of a parameter that the identifier list names (6.9.1 paragraph 6).
abbrev pub is_again : Declared → Declaration → Bool
is_again n d =
    if has_linkage n.linkage then has_linkage d.linkage
    else (n.listing && d.listed) || (is_typedef_name n.kind && is_typedef_name d.kind)

-- the entity where no declaration in the scope is the same: that of the spelling where it has linkage, or a new one
abbrev pub linked_entity : Declared → Option Declaration → ℕ
linked_entity n None = n.name_at
linked_entity n (Some d) = if has_linkage n.linkage then d.entity else n.name_at

-- the entity, given the declaration of the spelling in the scope and one that has linkage
abbrev pub entity_of : Declared → Option Declaration → Option Declaration → ℕ
entity_of n None link = linked_entity n link
entity_of n (Some d) link = if is_again n d then d.entity else linked_entity n link

-- an identifier list names it
abbrev pub is_listed : Declared → Option Declaration → Bool
is_listed n prior = n.listing && option_map_or (λ d. d.listed) prior false

abbrev pub declaration_of : Scope → Declared → ℕ → Bool → Declaration
declaration_of scope n entity listed = record {
  space = ordinary;
  name_at = n.name_at;
  entity = entity;
  kind = n.kind;
  linkage = n.linkage;
  ctype = n.ctype;
  depth = scope.depth;
  from = n.last + 1;
  to = scope.to;
  listed = listed;
}

module _ (toks : List Token) where
  -- what stands against the declaration
  abbrev pub declared_faults : Declared → Option Declaration → Facts → Facts
  declared_faults n prior facts =
      with_fault (n.listing && not (is_listed n prior)) undeclared n.name_at
      (with_fault (option_map_or (λ d. not (is_again n d)) prior false) redeclared n.name_at
      (with_fault (has_linkage n.linkage && is_mixed toks n.linkage n.name_at facts) mixed_linkage n.name_at facts))

  -- the declaration, where this one of the spelling stands in the scope
  abbrev pub declared_after : Scope → Declared → Option Declaration → Facts → Facts
  declared_after scope n prior facts =
      with_declaration
      (declaration_of scope n (entity_of n prior (linked toks n.name_at facts)) (n.listed || is_listed n prior))
      (declared_faults n prior facts)

  abbrev pub declared : Scope → Declared → Facts → Facts
  declared scope n facts = declared_after scope n (in_scope toks ordinary scope.depth n.name_at n.last facts) facts

  -- ---- Uses

  -- an identifier, which must be visible
  abbrev pub used_as : ℕ → Option Declaration → Facts → Facts
  used_as i None facts = with_fault true undeclared i facts
  used_as i (Some d) facts = with_use i d.entity facts

  abbrev pub used : ℕ → Facts → Facts
  used i facts = used_as i (visible toks ordinary i i facts) facts

  -- the type of the declaration that it denotes
  abbrev pub used_type : ℕ → Facts → CType
  used_type i facts = option_map_or (λ d. d.ctype) (visible toks ordinary i i facts) arithmetic

  -- `__func__` in a function's body (6.4.2.2)
  abbrev pub is_func : Frame → ℕ → Bool
  is_func f i = (option_map_or (λ b. true) f.body false && not f.listing) && bytes_eq (spelling_at toks i) (codes "__func__")

  -- a primary expression that is an identifier (6.5.1)
  abbrev pub named_facts : Frame → ℕ → Facts → Facts
  named_facts f i facts = if is_func f i then facts else used i facts

  abbrev pub named_type : Frame → ℕ → Facts → CType
  named_type f i facts = if is_func f i then array arithmetic else used_type i facts

  -- ---- Declarations

  -- An object or function at the end of its declarator, and a typedef name or parameter of the old style.
  abbrev pub new_kind : Frame → CType → EntityKind
  new_kind f t =
      if f.words.has_typedef then Typedef
      else (if f.listing then Parameter else (if is_function t then Function else Object))

  abbrev pub new_type : Frame → CType → CType
  new_type f t = if f.listing && not (f.words.has_typedef) then adjusted t else t

  abbrev pub new_linkage : Frame → ℕ → ℕ → CType → Facts → Linkage
  new_linkage f i last t facts =
      if f.words.has_typedef || f.listing then Absent
      else linkage_of f.scope.depth (is_function t) f.words (visible toks ordinary i last facts)

  abbrev pub new_object : Frame → ℕ → ℕ → CType → Facts → Declared
  new_object f i last t facts = record {
    name_at = i;
    last = last;
    kind = new_kind f t;
    ctype = new_type f t;
    linkage = new_linkage f i last t facts;
    listing = f.listing;
    listed = false;
  }

  -- the name of a declarator, whose scope begins behind it (6.2.1 paragraph 7)
  abbrev pub with_object : Frame → Forest → Option ℕ → Facts → Facts
  with_object f under None facts = facts
  with_object f under (Some i) facts =
      declared f.scope (new_object f i (last_token under i) (declarator_type f.base under) facts) facts

  -- a name without linkage of a kind and a type
  abbrev pub plain_name : ℕ → ℕ → EntityKind → CType → Bool → Declared
  plain_name i last kind t listed = record {
    name_at = i;
    last = last;
    kind = kind;
    ctype = t;
    linkage = Absent;
    listing = false;
    listed = listed;
  }

  -- a parameter of a prototype; with `typedef`, which is a slip, it is a typedef name
  abbrev pub new_parameter : Frame → ℕ → ℕ → CType → Declared
  new_parameter f i last t =
      if f.words.has_typedef then plain_name i last Typedef t false else plain_name i last Parameter (adjusted t) false

  abbrev pub with_parameter : Frame → Forest → Option ℕ → Facts → Facts
  with_parameter f under None facts = facts
  with_parameter f under (Some i) facts =
      declared f.scope (new_parameter f i (last_token under i) (declarator_type f.base under)) facts

  -- a name in an identifier list
  abbrev pub with_listed : Frame → ℕ → Facts → Facts
  with_listed f i facts = declared f.scope (plain_name i i Parameter arithmetic true) facts

  -- an enumeration constant, whose scope begins behind its enumerator
  abbrev pub with_enumerator : Frame → ℕ → ℕ → Facts → Facts
  with_enumerator f i last facts = declared f.scope (plain_name i last Enumerator arithmetic false) facts
