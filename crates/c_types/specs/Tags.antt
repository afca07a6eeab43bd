-- Tags (ISO/IEC 9899:1999, 6.2.3 and 6.7.2.3).
use Rattle.std.specs.Prelude.{ℕ, ◌+◌, Bool, true, false, ◌&&◌, ◌||◌, not, List, Option, None, Some, codes, if◌then◌else◌, ◌==◌}
use Rattle.std.specs.Option.{option_map_or}
use Rattle.std.specs.Str.{bytes_eq}
use Rattle.cs_base.specs.Token.{Token}
use Rattle.c_types.specs.declared.entity.EntityKind.TheVariants.{Tag}
use Rattle.c_types.specs.declared.entity.Linkage.TheVariants.{Absent}
use Rattle.c_types.specs.declared.declarations.Cause.TheVariants.{Undeclared as undeclared, TagRedefined as tag_redefined}
use Rattle.c_types.specs.declared.types.Base.{Base}
use Rattle.c_types.specs.declared.types.Base.TheVariants.{Structure, Union, Enumeration}
use Rattle.c_types.specs.Types.{CType, structure, union}
use Rattle.c_types.specs.declared.declarations.Space.TheVariants.{Tags as tags}
use Rattle.c_types.specs.declared.declarations.Declaration.{Declaration}
use Rattle.c_types.specs.Declarations.{spelling_at, Facts, is_in, with_fault, with_use, with_declaration, with_begun, looked_up, visible, is_live}
use Rattle.c_types.specs.declared.frames.Scope.{Scope}
use Rattle.c_types.specs.declared.frames.Frame.{Frame}

-- the number of a structure, union or enumeration: the token of its first tag, or of its word where it has none
abbrev pub base_number : Base → ℕ
base_number (Structure n) = n
base_number (Union n) = n
base_number (Enumeration n) = n
base_number _ = 0

abbrev pub number_in : CType → ℕ
number_in t = base_number t.base

-- another one of the same sort
abbrev pub base_renumbered : Base → ℕ → Base
base_renumbered (Structure n) m = Structure m
base_renumbered (Union n) m = Union m
base_renumbered (Enumeration n) m = Enumeration m
base_renumbered b m = b

abbrev pub renumbered : CType → ℕ → CType
renumbered t m = record t { base = base_renumbered t.base m }

-- both are structures, both are unions, or both are enumerations
abbrev pub is_base_sort : Base → Base → Bool
is_base_sort (Structure n) (Structure m) = true
is_base_sort (Union n) (Union m) = true
is_base_sort (Enumeration n) (Enumeration m) = true
is_base_sort _ _ = false

abbrev pub is_sort : CType → CType → Bool
is_sort s t = is_base_sort s.base t.base

-- an earlier declaration of the tag is of the same type, and a list in braces stands in one of them at most
abbrev pub is_same_tag : Frame → Facts → Declaration → Bool
is_same_tag f facts d = is_sort d.ctype f.found && not (f.has_body && is_in facts.begun d.entity)

abbrev pub tag_entity : Frame → ℕ → Facts → Option Declaration → ℕ
tag_entity f i facts None = i
tag_entity f i facts (Some d) = if is_same_tag f facts d then d.entity else i

-- it declares the tag: with a list in braces, with a semicolon alone, or where no such tag is visible
abbrev pub is_declaring : Frame → Option Declaration → Bool
is_declaring f None = true
is_declaring f (Some d) = f.has_body || f.alone

abbrev pub tag_declaration : Scope → ℕ → ℕ → CType → Declaration
tag_declaration scope i entity t = record {
  space = tags;
  name_at = i;
  entity = entity;
  kind = Tag;
  linkage = Absent;
  ctype = t;
  depth = scope.depth;
  from = i + 1;
  to = scope.to;
  listed = false;
}

-- the tag with the entity, where an earlier declaration may stand
abbrev pub tag_named : Frame → ℕ → Option Declaration → ℕ → Facts → Facts
tag_named f i prior entity facts =
    if is_declaring f prior
    then with_begun f.has_body entity (with_declaration (tag_declaration f.scope i entity (renumbered f.found entity)) facts)
    else with_use i (option_map_or (λ d. d.entity) prior i) facts

-- an enumeration without a list must be complete (6.7.2.3 paragraph 2)
abbrev pub is_complete : Facts → Declaration → Bool
is_complete facts d = is_in facts.complete (number_in d.ctype)

abbrev pub enumeration_used : Frame → ℕ → Option Declaration → Facts → Facts
enumeration_used f i None facts = with_fault true undeclared i facts
enumeration_used f i (Some d) facts =
    with_use i d.entity
    (with_fault (not (is_complete facts d)) undeclared i (with_fault (not (is_sort d.ctype f.found)) tag_redefined i facts))

abbrev pub is_prior_tag : Frame → ℕ → Declaration → Bool
is_prior_tag f i d = is_live i d && (not (f.has_body || f.alone) || (d.depth == f.scope.depth))

abbrev pub with_tag_after : Frame → ℕ → Option Declaration → Facts → Facts
with_tag_after f i prior facts =
    with_fault (option_map_or (λ d. not (is_same_tag f facts d)) prior false) tag_redefined i
    (tag_named f i prior (tag_entity f i facts prior) facts)

module _ (toks : List Token) where
  -- a structure or a union, as the word says
  abbrev pub new_record : ℕ → CType
  new_record word = if bytes_eq (spelling_at toks word) (codes "union") then union word else structure word

  -- the earlier declaration: one that is visible, and in this scope where it declares the tag anew
  abbrev pub prior_tag : Frame → ℕ → Facts → Option Declaration
  prior_tag f i facts = looked_up toks tags i (is_prior_tag f i) facts

  abbrev pub with_tag : Frame → ℕ → Facts → Facts
  with_tag f i facts = with_tag_after f i (prior_tag f i facts) facts

  -- the type that the tag stands for
  abbrev pub tag_type : Frame → ℕ → Facts → CType
  tag_type f i facts = renumbered f.found (tag_entity f i facts (prior_tag f i facts))

  abbrev pub with_enumeration : Frame → ℕ → Facts → Facts
  with_enumeration f i facts =
      if f.has_body then with_tag f i facts else enumeration_used f i (visible toks tags i i facts) facts
