-- Lists in the order of the places of their names.
use Rattle.std.proofs.Common.{◌≡◌, ℕ, ◌+◌, ◌<◌, ◌≤◌, suc, Bool, true, false, List, [], ◌∷◌, length, get_or, Option, Some, None, slice_get, inl, inr, refl, sym, ap, subst, ◌∙◌, arith}
use Rattle.std.specs.Borrow.{Bor}
use Rattle.std.specs.Prelude.{◌==◌, nat_lt}
use Rattle.std.specs.List.{list_any}
use Rattle.std.specs.List.Sorted.{IsNonDecreasingBy}
use Rattle.std.specs.Option.{option_map_or}
use Rattle.std.proofs.lemmas.Bool.{cases_Bool, and_parts, eqb-true}
use Rattle.std.proofs.lemmas.Bool.Decides.{nat_tests}
use Rattle.std.proofs.lemmas.Option.{get_or_from_slice_get, slice_get_within}
use Rattle.cs_base.specs.declared.positions.Pos.{Pos}
use Rattle.cs_base.specs.Token.{Token}
use Rattle.cs_base.proofs.ListLemmas.{any_there as some_at}
use Rattle.c_types.specs.declared.lists.List.{List as NameList}
use Rattle.template_rules.specs.ListPlaces.{name_number, place_number}
use Rattle.template_rules.specs.Functions.{origin_of}
use Rattle.template_rules.specs.MacroOffences.{is_list_at, is_list_in, is_same, is_same_list}
use Rattle.template_rules.specs.declared.unit_functions.UnitFunctions.{UnitFunctions}
use Rattle.template_rules.proofs.FoundLemmas.{found_any}

-- one place has one number
same_number : (p q : Option Pos) → is_same p q ≡ true → option_map_or place_number q 0 ≡ option_map_or place_number p 0
same_number None q is = absurd (cc)
same_number (Some p) None is = absurd (cc)
same_number (Some p) (Some q) is =
    let parts = and_parts (p.file == q.file) (p.at == q.at) is in
    let file : p.file ≡ q.file = eqb-true p.file q.file parts.0 in
    let at : p.at ≡ q.at = eqb-true p.at q.at parts.1 in
    rw (file, at) refl

-- so lists at the same places have it
pub same_names : (toks others : List Token) (l m : NameList) → is_same_list toks others l m ≡ true → name_number others m ≡ name_number toks l
same_names toks others l m is =
    same_number (origin_of toks l.name) (origin_of others m.name) (and_parts (is_same (origin_of toks l.name) (origin_of others m.name)) _ is).0

-- no list before this one passes a test
abbrev pub NoneTo : {X : Type 0} → (X → Bool) → List X → ℕ → Type 0
NoneTo {X} p xs n = (k : ℕ) (x : X) → slice_get xs k ≡ Some x → k < n → p x ≡ false

pub none_passes : {X : Type 0} (p : X → Bool) (xs : List X) → ((k : ℕ) (x : X) → slice_get xs k ≡ Some x → p x ≡ false) → list_any p xs ≡ false
none_passes p [] none = refl
none_passes p (x ∷ xs) none = rw (none 0 x refl, none_passes p xs (λ k y at. none (suc k) y at)) refl

-- ---- the lists of a unit, by the places of their names

module _ (f : UnitFunctions) (toks : List Token) (l : NameList) (k number : ℕ) (places : List (Bor NameList)) (are : places ≡ f.by_place.items) where
  abbrev pub stands : Bor NameList → Bool
  stands m = is_list_at f.class.members toks l k f.text.now f.bound.now.names number m.now

  abbrev number_of : Bor NameList → ℕ
  number_of m = name_number f.text.now.toks m.now

  -- what stands at the same places has the same number
  elsewhere : (m : Bor NameList) → (number_of m ≡ name_number toks l → ⊥) → stands m ≡ false
  elsewhere m other = elim (cases_Bool (stands m)) [
    | inl is ↦ absurd (other (same_names toks f.text.now.toks l m.now (and_parts (is_same_list toks f.text.now.toks l m.now) _ is).0))
    | inr none ↦ none
  ]

  same_any : list_any stands places ≡ is_list_in f.class.members toks l k f.text.now f.bound.now number
  same_any =
      ap (list_any stands) are ∙ sym (f.moved stands) ∙ found_any f toks l k number

  pub stands_in : (j : ℕ) (m : Bor NameList) → slice_get places j ≡ Some m → stands m ≡ true
      → is_list_in f.class.members toks l k f.text.now f.bound.now number ≡ true
  stands_in j m at is = sym same_any ∙ some_at stands places j m at is

  stands_nowhere : ((j : ℕ) (m : Bor NameList) → slice_get places j ≡ Some m → stands m ≡ false)
      → is_list_in f.class.members toks l k f.text.now f.bound.now number ≡ false
  stands_nowhere none = sym same_any ∙ none_passes stands places none

  -- none of lower numbers does
  pub none_lower : (n : ℕ) → ((i : ℕ) (m : Bor NameList) → slice_get places i ≡ Some m → i < n → number_of m < name_number toks l)
      → NoneTo stands places n
  none_lower n lower i m at on = let less = lower i m at on in elsewhere m (λ same. omega (arith, less, same))

  pub none_to_next : (n : ℕ) (m : Bor NameList) → slice_get places n ≡ Some m → stands m ≡ false → NoneTo stands places n
      → NoneTo stands places (n + 1)
  none_to_next n m at other before i x at_i on = elim (cases_Bool (nat_lt i n)) [
    | inl less ↦ before i x at_i (grind (arith, nat_tests))
    | inr here ↦
        let same : i ≡ n = grind (arith, nat_tests) in
        let found : Some x ≡ Some m = sym at_i ∙ ap (slice_get places) same ∙ at in
        let it : x ≡ m = cc in
        rw it other
  ]

  -- and where one has a higher number, none does from there on
  pub none_higher : (n : ℕ) (m : Bor NameList) → slice_get places n ≡ Some m → nat_lt (name_number toks l) (number_of m) ≡ true → NoneTo stands places n
      → is_list_in f.class.members toks l k f.text.now f.bound.now number ≡ false
  none_higher n m at more before = stands_nowhere (λ j x at_j. elim (cases_Bool (nat_lt j n)) [
    | inl less ↦ before j x at_j (grind (arith, nat_tests))
    | inr behind ↦
        let on : n ≤ j = grind (arith, nat_tests) in
        let within = slice_get_within places j x at_j in
        let rising : IsNonDecreasingBy number_of places = subst (λ (xs : List (Bor NameList)). IsNonDecreasingBy number_of xs) (sym are) f.rising in
        let up = rising n j x on within in
        let one : get_or places n x ≡ m = get_or_from_slice_get places n m x at in
        let two : get_or places j x ≡ x = get_or_from_slice_get places j x x at_j in
        let up_ : number_of m ≤ number_of x = rw (one, two) at up in
        let past : name_number toks l < number_of m = grind (arith, nat_tests, more) in
        elsewhere x (λ same. omega (arith, up_, past, same))
  ])

  -- none does where all were looked at
  pub none_left : (n : ℕ) → length places ≤ n → NoneTo stands places n → is_list_in f.class.members toks l k f.text.now f.bound.now number ≡ false
  none_left n past before =
      stands_nowhere (λ j x at. let within = slice_get_within places j x at in before j x at (omega (arith, within, past)))
