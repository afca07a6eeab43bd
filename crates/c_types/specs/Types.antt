-- Types as far as names depend on them (ISO/IEC 9899:1999, 6.2.5): which structure or union has the member.
-- Differs: arithmetic types are one type, and expressions of enumerated type have it; qualifiers count for nothing.
use Rattle.std.specs.Prelude.{ℕ, Bool, true, false, ◌&&◌, ◌||◌, not, List, [], ◌∷◌, drop, if◌then◌else◌}
use Rattle.c_types.specs.declared.types.Base.{Base}
use Rattle.c_types.specs.declared.types.Base.TheVariants.{Arithmetic, Nothing, Structure, Union, Enumeration, Unknown}
use Rattle.c_types.specs.declared.types.Derivation.{Derivation}
use Rattle.c_types.specs.declared.types.Derivation.TheVariants.{Pointer, Array, Function}

-- A type: what it is derived from in the end, and its derivations, the outermost first. A structure, a union and an
-- enumeration have a number. A tag alone has enumerated type, and `Unknown` is a type that no rule gives: that of some
-- places in an initializer, and in GNU C that of what a built-in function gives.
pub record CType : Type 0 where
  pub base : Base
  pub derivations : List Derivation

-- a type that is not derived
abbrev pub plain : Base → CType
plain base = record { base = base; derivations = [] }

abbrev pub arithmetic : CType
arithmetic = plain Arithmetic

abbrev pub nothing : CType
nothing = plain Nothing

abbrev pub unknown : CType
unknown = plain Unknown

abbrev pub structure : ℕ → CType
structure n = plain (Structure n)

abbrev pub union : ℕ → CType
union n = plain (Union n)

abbrev pub enumeration : ℕ → CType
enumeration n = plain (Enumeration n)

-- a pointer to it, an array of it, and a function that returns it
abbrev pub pointer : CType → CType
pointer t = record t { derivations = Pointer ∷ t.derivations }

abbrev pub array : CType → CType
array t = record t { derivations = Array ∷ t.derivations }

abbrev pub function : CType → CType
function t = record t { derivations = Function ∷ t.derivations }

-- ---- What a type is

abbrev pub begins_pointing : List Derivation → Bool
begins_pointing (Pointer ∷ more) = true
begins_pointing (Array ∷ more) = true
begins_pointing _ = false

-- pointer types, and arrays, which become pointers (6.3.2.1 paragraph 3)
abbrev pub is_pointing : CType → Bool
is_pointing t = begins_pointing t.derivations

abbrev pub begins_function : List Derivation → Bool
begins_function (Function ∷ more) = true
begins_function _ = false

abbrev pub is_function : CType → Bool
is_function t = begins_function t.derivations

abbrev pub begins_array : List Derivation → Bool
begins_array (Array ∷ more) = true
begins_array _ = false

abbrev pub is_array : CType → Bool
is_array t = begins_array t.derivations

abbrev pub are_none : List Derivation → Bool
are_none [] = true
are_none _ = false

abbrev pub is_plain : CType → Bool
is_plain t = are_none t.derivations

abbrev pub is_record_base : Base → Bool
is_record_base (Structure n) = true
is_record_base (Union n) = true
is_record_base _ = false

-- structure and union types
abbrev pub is_record : CType → Bool
is_record t = is_plain t && is_record_base t.base

abbrev pub is_nothing_base : Base → Bool
is_nothing_base Nothing = true
is_nothing_base _ = false

abbrev pub is_nothing : CType → Bool
is_nothing t = is_plain t && is_nothing_base t.base

abbrev pub is_arithmetic_base : Base → Bool
is_arithmetic_base Arithmetic = true
is_arithmetic_base _ = false

abbrev pub is_arithmetic : CType → Bool
is_arithmetic t = is_plain t && is_arithmetic_base t.base

abbrev pub is_unknown_base : Base → Bool
is_unknown_base Unknown = true
is_unknown_base _ = false

abbrev pub is_unknown : CType → Bool
is_unknown t = is_plain t && is_unknown_base t.base

-- ---- What a type gives

-- without its outermost derivation
abbrev pub inner_of : CType → CType
inner_of t = record t { derivations = drop 1 t.derivations }

-- what stands where a type does not give it: of an unknown type that is unknown too
abbrev pub lacking : CType → CType
lacking t = if is_unknown t then unknown else arithmetic

-- what it points to, or its element
abbrev pub target_of : CType → CType
target_of t = if is_pointing t then inner_of t else lacking t

-- the type of a parameter that is declared so (6.7.5.3 paragraphs 7 and 8)
abbrev pub adjusted : CType → CType
adjusted t = if is_array t then pointer (inner_of t) else (if is_function t then pointer t else t)

-- Array subscripting (6.5.2.1): the operand in front may be the integer, and one of unknown type is where the other one
-- points.
abbrev pub subscripted : CType → CType → CType
subscripted left inside =
    if is_pointing left || (is_unknown left && not (is_pointing inside)) then target_of left else target_of inside

-- the result of a function
abbrev pub result_of : CType → CType
result_of t = if is_function t then inner_of t else lacking t

abbrev pub begins_pointer : List Derivation → Bool
begins_pointer (Pointer ∷ more) = true
begins_pointer _ = false

-- function calls (6.5.2.2): of a function, or of what a pointer points to
abbrev pub called : CType → CType
called t = if begins_pointer t.derivations then result_of (inner_of t) else result_of t

-- indirection (6.5.3.2 paragraph 4); a function becomes a pointer to it first
abbrev pub pointed_to : CType → CType
pointed_to t = if is_function t then t else target_of t

-- the operand in front tells the type of the sum: a pointer, or one of unknown type that may be a pointer
abbrev pub tells_sum : Bool → CType → CType → Bool
tells_sum minus left right = is_pointing left || (is_unknown left && not (is_pointing right && not minus))

-- additive operators (6.5.6): a pointer and an integer, or two pointers and a minus sign
abbrev pub sum_type : Bool → CType → CType → CType
sum_type minus left right =
    if is_pointing left && (is_pointing right && minus) then arithmetic
    else (if tells_sum minus left right then left else (if is_pointing right then right else lacking right))

-- it points to something else than `void`
abbrev pub points_to_something : CType → Bool
points_to_something t = is_pointing t && not (is_nothing (target_of t))

-- it tells of a structure or union, where it is derived from one
abbrev pub tells_members : CType → Bool
tells_members t = is_record t || points_to_something t

-- Conditional operator (6.5.15 paragraphs 5 and 6): the second operand, if it tells of a structure or union; and where
-- it is unknown, the third one only if that does.
abbrev pub chosen : CType → CType → CType
chosen second third =
    if tells_members second || (is_unknown second && not (tells_members third)) then second else third
