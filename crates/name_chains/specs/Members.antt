-- Members of structures and unions (ISO/IEC 9899:1999, 6.2.3, 6.5.2.3 and 6.7.2.1).
use Rattle.std.specs.Prelude.{ℕ, ◌+◌, Bool, true, false, ◌&&◌, List, [], ◌∷◌, Option, None, Some, filter, reverse, is_some, if◌then◌else◌}
use Rattle.std.specs.Option.{option_map_or}
use Rattle.cs_base.specs.Token.{Token}
use Rattle.c99_tree.specs.Tree.{Forest}
use Rattle.c_types.specs.declared.entity.EntityKind.TheVariants.{Member}
use Rattle.c_types.specs.declared.entity.Linkage.TheVariants.{Absent}
use Rattle.c_types.specs.declared.declarations.Cause.TheVariants.{NoMember as no_member, Redeclared as redeclared}
use Rattle.c_types.specs.Types.{CType, is_record}
use Rattle.c_types.specs.Tags.{number_in}
use Rattle.c_types.specs.Trees.{last_token, declarator_type}
use Rattle.c_types.specs.declared.declarations.Space.TheVariants.{Members as members, Inner as inner, Unnamed as unnamed}
use Rattle.c_types.specs.declared.declarations.Declaration.{Declaration}
use Rattle.c_types.specs.Declarations.{is_space, Facts, is_in, with_fault, with_use, with_declaration, anywhere}
use Rattle.c_types.specs.declared.frames.Frame.{Frame}
use Rattle.name_chains.specs.Places.{is_member_of}

abbrev pub member_declaration : Frame → ℕ → ℕ → CType → Declaration
member_declaration f i last t = record {
  space = members f.owner;
  name_at = i;
  entity = i;
  kind = Member;
  linkage = Absent;
  ctype = t;
  depth = f.scope.depth;
  from = last + 1;
  to = f.scope.to;
  listed = false;
}

-- a structure or union that is complete (6.7.2.1 paragraph 7)
abbrev pub is_known : CType → Facts → Bool
is_known t facts = is_record t && is_in facts.complete (number_in t)

-- its members in order, with the places of those that are anonymous
abbrev pub members_of : ℕ → Facts → List Declaration
members_of number facts = reverse (filter (is_member_of number) facts.declared)

-- ---- Anonymous members (C11, 6.7.2.1 paragraph 13)

-- it is found among the members of the structure or union
abbrev pub is_found_in : ℕ → Declaration → Bool
is_found_in number d = is_space d.space (members number)

-- the same, as a name of an anonymous member of this one
abbrev pub lifted : ℕ → Declaration → Declaration
lifted owner d = record d { space = inner owner }

-- all that is found there, in order
abbrev pub found_of : ℕ → Facts → List Declaration
found_of number facts = reverse (filter (is_found_in number) facts.declared)

-- the place of a structure or union without a name, by the semicolon
abbrev pub unnamed_declaration : Frame → ℕ → Declaration
unnamed_declaration f i = record {
  space = unnamed f.owner;
  name_at = i;
  entity = i;
  kind = Member;
  linkage = Absent;
  ctype = f.base;
  depth = f.scope.depth;
  from = i + 1;
  to = f.scope.to;
  listed = false;
}

-- a declaration more that no identifier of its own declares
abbrev pub with_silent : Declaration → Facts → Facts
with_silent d facts = record facts { declared = d ∷ facts.declared }

module _ (toks : List Token) where
  -- a member twice in one structure or union (6.2.3: each has a name space of its own)
  abbrev pub with_member : Frame → Forest → Option ℕ → Facts → Facts
  with_member f under None facts = facts
  with_member f under (Some i) facts =
      with_declaration (member_declaration f i (last_token under i) (declarator_type f.base under))
      (with_fault (is_some (anywhere toks (members f.owner) i facts)) redeclared i facts)

  -- names of an anonymous member: one that the structure or union around it has is declared twice
  abbrev pub with_lifted : ℕ → List Declaration → Facts → Facts
  with_lifted owner [] facts = facts
  with_lifted owner (d ∷ later) facts =
      with_lifted owner later (with_silent (lifted owner d) (with_fault (is_some (anywhere toks (members owner) d.name_at facts)) redeclared d.name_at facts))

  -- the semicolon behind the specifiers of a member without a declarator
  abbrev pub with_anonymous : Frame → ℕ → Facts → Facts
  with_anonymous f i facts =
      if f.words.anonymous
      then with_silent (unnamed_declaration f i) (with_lifted f.owner (found_of (number_in f.base) facts) facts)
      else facts

  -- the member that token i names in a structure or union
  abbrev pub member_at : CType → ℕ → Facts → Option Declaration
  member_at t i facts = if is_known t facts then anywhere toks (members (number_in t)) i facts else None

  abbrev pub member_used_as : ℕ → Option Declaration → Facts → Facts
  member_used_as i None facts = with_fault true no_member i facts
  member_used_as i (Some d) facts = with_use i d.entity facts

  abbrev pub member_used : CType → ℕ → Facts → Facts
  member_used t i facts = member_used_as i (member_at t i facts) facts

  -- its type, or the one given where it is not there
  abbrev pub member_type : CType → ℕ → CType → Facts → CType
  member_type t i other facts = option_map_or (λ d. d.ctype) (member_at t i facts) other
