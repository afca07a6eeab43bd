-- Identifiers in expressions of GNU C.
use Rattle.std.specs.Prelude.{ℕ, ◌+◌, Bool, true, false, ◌&&◌, ◌||◌, not, List, Option, is_some, if◌then◌else◌}
use Rattle.std.specs.Option.{option_map_or}
use Rattle.cs_base.specs.Token.{Token}
use Rattle.c_types.specs.Types.{CType, arithmetic, unknown, array}
use Rattle.c_types.specs.declared.entity.EntityKind.TheVariants.{Function}
use Rattle.c_types.specs.declared.entity.Linkage.TheVariants.{External}
use Rattle.c_types.specs.declared.declarations.Space.TheVariants.{Ordinary as ordinary}
use Rattle.c_types.specs.declared.declarations.Declaration.{Declaration}
use Rattle.c_types.specs.Declarations.{spelling_at, Facts, with_use, visible, linked}
use Rattle.c_types.specs.declared.frames.Scope.{Scope}
use Rattle.c_types.specs.declared.frames.Frame.{Frame}
use Rattle.scope_bind.specs.Below.name_chains.Members.{with_silent, member_used, member_type}
use Rattle.scope_bind.specs.Ordinary.{is_func, named_facts, named_type}
use Rattle.cs_base.specs.Reserved.{is_built_in, is_function_word}
use Rattle.gnu_bind.specs.Words.{is_path_sign, begins_call}
use Rattle.gnu_bind.specs.declared.senses.Special.{Special}
use Rattle.gnu_bind.specs.declared.senses.Special.TheVariants.{Open as open_, Word as word}

-- ---- Functions that are called and not declared

-- the entity is that of the spelling that has linkage (6.2.2 paragraph 2), or a new one
abbrev pub implied_entity : ℕ → Option Declaration → ℕ
implied_entity i link = option_map_or (λ d. d.entity) link i

-- What the call is taken to declare, in the innermost block around it: a function that returns `int`, of external linkage
-- (ISO/IEC 9899:1990, 6.3.2.2; gcc's manual, "Warning Options", `-Wimplicit-function-declaration`). Of its type the result
-- alone counts, which is that of the name too.
abbrev pub implied_function : Scope → ℕ → ℕ → Declaration
implied_function scope i entity = record {
  space = ordinary;
  name_at = i;
  entity = entity;
  kind = Function;
  linkage = External;
  ctype = arithmetic;
  depth = scope.depth;
  from = i + 1;
  to = scope.to;
  listed = false;
}

-- the identifier is a use of that function
abbrev pub implied_by : Scope → ℕ → ℕ → Facts → Facts
implied_by scope i entity facts = with_silent (implied_function scope i entity) (with_use i entity facts)

module _ (toks : List Token) where
  -- a name of the function, in its body
  abbrev pub names_function : Frame → ℕ → Bool
  names_function f i = (option_map_or (λ b. true) f.body false && not f.listing) && is_function_word (spelling_at toks i)

  -- nothing of this name is visible
  abbrev pub is_unseen : ℕ → Facts → Bool
  is_unseen i facts = not (is_some (visible toks ordinary i i facts))

  -- The identifier is a word, and denotes nothing: a built-in function or the first argument of an attribute, where
  -- nothing of its name is visible; and that argument of some attributes anyway.
  abbrev pub is_word : Special → ℕ → Facts → Bool
  is_word word i facts = true
  is_word open_ i facts = is_unseen i facts
  is_word _ i facts = is_built_in (spelling_at toks i) && is_unseen i facts

  -- the identifier is called, nothing of its name is visible, and it is not that of the function (6.4.2.2)
  abbrev pub is_implied : Frame → ℕ → Facts → Bool
  is_implied f i facts = begins_call (spelling_at toks (i + 1)) && (is_unseen i facts && not (is_func toks f i))

  -- .. of the entity of its spelling that has linkage
  abbrev pub implied : Scope → ℕ → Facts → Facts
  implied scope i facts = implied_by scope i (implied_entity i (linked toks i facts)) facts

  -- an identifier that denotes something
  abbrev pub denoting : Frame → ℕ → Facts → Facts
  denoting f i facts = if is_implied f i facts then implied f.scope i facts else named_facts toks f i facts

  abbrev pub denoted_type : Frame → ℕ → Facts → CType
  denoted_type f i facts = if is_implied f i facts then arithmetic else named_type toks f i facts

  -- ---- Expressions

  -- an identifier as an expression (6.5.1)
  abbrev pub name_read : Special → Frame → ℕ → Facts → Facts
  name_read s f i facts = if names_function f i || is_word s i facts then facts else denoting f i facts

  -- its type: that of a word is unknown
  abbrev pub name_type : Special → Frame → ℕ → Facts → CType
  name_type s f i facts =
      if names_function f i then array arithmetic else (if is_word s i facts then unknown else denoted_type f i facts)

  -- a token of a path to a member: a name denotes a member of what the path has come to
  abbrev pub path_read : Frame → ℕ → Facts → Facts
  path_read f i facts = if is_path_sign (spelling_at toks i) then facts else member_used toks f.found i facts

  abbrev pub path_type : Frame → ℕ → Facts → CType
  path_type f i facts = if is_path_sign (spelling_at toks i) then f.found else member_type toks f.found i arithmetic facts
