-- Declarations with their ranges, and which of them a name denotes (ISO/IEC 9899:1999, 6.2.1 and 6.2.3).
use Rattle.std.specs.Prelude.{ℕ, Bool, true, false, ◌&&◌, not, List, [], ◌∷◌, ◌++◌, Option, None, find, slice_get, if◌then◌else◌, ◌==◌, nat_lt}
use Rattle.std.specs.List.{list_any}
use Rattle.std.specs.Option.{option_map_or}
use Rattle.std.specs.Str.{bytes_eq}
use Rattle.cs_base.specs.Token.{Token}
use Rattle.c_types.specs.declared.entity.EntityKind.{EntityKind}
use Rattle.c_types.specs.declared.entity.EntityKind.TheVariants.{Typedef}
use Rattle.c_types.specs.declared.entity.Linkage.{Linkage}
use Rattle.c_types.specs.declared.entity.Linkage.TheVariants.{External, Internal, Absent}
use Rattle.c_types.specs.declared.declarations.Cause.{Cause}
use Rattle.c_types.specs.declared.declarations.Fault.{Fault}
use Rattle.c_types.specs.Faults.{first_fault}
use Rattle.c_types.specs.declared.declarations.Space.{Space}
use Rattle.c_types.specs.declared.declarations.Space.TheVariants.{Ordinary as ordinary, Tags as tags, Members as members, Inner as inner, Labels as labels}
use Rattle.c_types.specs.declared.declarations.Declaration.{Declaration}
use Rattle.c_types.specs.declared.declarations.Occurrence.{Occurrence}

-- the first is the second, or names in it are found where the second is asked for
abbrev pub is_space : Space → Space → Bool
is_space ordinary ordinary = true
is_space tags tags = true
is_space (members n) (members m) = n == m
is_space (inner n) (members m) = n == m
is_space (labels n) (labels m) = n == m
is_space _ _ = false

-- What is known once a part of a unit is read: the declarations in the order in which their ranges began, the
-- latest first; the identifiers that are bound, the latest first; the tags whose `{` has been read, and the
-- structures, unions and enumerations that are complete; the `goto`s of the function; and the first fault.
pub record Facts : Type 0 where
  pub declared : List Declaration
  pub occurrences : List Occurrence
  pub begun : List ℕ
  pub complete : List ℕ
  pub jumps : List ℕ
  pub fault : Option Fault

abbrev pub no_facts : Facts
no_facts = record { declared = []; occurrences = []; begun = []; complete = []; jumps = []; fault = None }

abbrev pub has_linkage : Linkage → Bool
has_linkage Absent = false
has_linkage _ = true

abbrev pub is_linkage : Linkage → Linkage → Bool
is_linkage External External = true
is_linkage Internal Internal = true
is_linkage Absent Absent = true
is_linkage _ _ = false

abbrev pub is_typedef_name : EntityKind → Bool
is_typedef_name Typedef = true
is_typedef_name _ = false

abbrev pub is_in : List ℕ → ℕ → Bool
is_in numbers n = list_any (λ m. m == n) numbers

-- the token stands in the range
abbrev pub is_live : ℕ → Declaration → Bool
is_live k d = not (nat_lt k d.from) && nat_lt k d.to

-- ---- What is noted

abbrev pub with_fault : Bool → Cause → ℕ → Facts → Facts
with_fault wrong cause index facts =
    if wrong then record facts { fault = first_fault facts.fault (record { cause = cause; index = index }) } else facts

abbrev pub with_occurrence : ℕ → ℕ → Bool → Facts → Facts
with_occurrence index entity declares facts =
    record facts { occurrences = record { index = index; entity = entity; declares = declares } ∷ facts.occurrences }

abbrev pub with_use : ℕ → ℕ → Facts → Facts
with_use index entity facts = with_occurrence index entity false facts

abbrev pub with_declaration : Declaration → Facts → Facts
with_declaration d facts = with_occurrence d.name_at d.entity true (record facts { declared = d ∷ facts.declared })

abbrev pub with_begun : Bool → ℕ → Facts → Facts
with_begun begins entity facts = if begins then record facts { begun = facts.begun ++ entity ∷ [] } else facts

abbrev pub with_complete : ℕ → Facts → Facts
with_complete number facts = record facts { complete = facts.complete ++ number ∷ [] }

-- ---- What is found

-- the spelling of token k
abbrev pub spelling_at : List Token → ℕ → List ℕ
spelling_at toks k = option_map_or (λ t. t.text) (slice_get toks k) []

module _ (toks : List Token) where
  -- two tokens have one spelling
  abbrev pub alike : ℕ → ℕ → Bool
  alike i j = bytes_eq (spelling_at toks i) (spelling_at toks j)

  -- a declaration in the name space that spells its name as token i
  abbrev pub is_named : Space → ℕ → Declaration → Bool
  is_named space i d = is_space d.space space && alike i d.name_at

  -- the latest declaration in the name space that is named as token i and of which the test holds
  abbrev pub looked_up : Space → ℕ → (Declaration → Bool) → Facts → Option Declaration
  looked_up space i test facts = find (λ d. is_named space i d && test d) facts.declared

  -- What token i denotes, at token k: of the declarations whose ranges hold k, the one whose range began last,
  -- which is that of the innermost scope (6.2.1 paragraph 4).
  abbrev pub visible : Space → ℕ → ℕ → Facts → Option Declaration
  visible space i k facts = looked_up space i (is_live k) facts

  -- the declaration of its spelling in the scope that has so many around it
  abbrev pub in_scope : Space → ℕ → ℕ → ℕ → Facts → Option Declaration
  in_scope space depth i k facts = looked_up space i (λ d. is_live k d && (d.depth == depth)) facts

  -- the declaration of its spelling in a name space without scopes
  abbrev pub anywhere : Space → ℕ → Facts → Option Declaration
  anywhere space i facts = looked_up space i (λ d. true) facts

  -- an earlier declaration of its spelling that has linkage, in whatever scope
  abbrev pub linked : ℕ → Facts → Option Declaration
  linked i facts = looked_up ordinary i (λ d. has_linkage d.linkage) facts

  -- one that has the other linkage
  abbrev pub is_mixed : Linkage → ℕ → Facts → Bool
  is_mixed linkage i facts =
      list_any (λ d. is_named ordinary i d && (has_linkage d.linkage && not (is_linkage d.linkage linkage))) facts.declared
