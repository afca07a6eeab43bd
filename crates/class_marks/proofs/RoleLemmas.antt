-- What marks on classes tell of names.
use Rattle.std.proofs.Common.{◌≡◌, ℕ, zero, suc, ◌<◌, Bool, true, false, List, [], ◌∷◌, Option, Some, None, length, slice_get, inl, inr, refl, sym, ap, ◌∙◌, arith}
use Rattle.std.specs.Prelude.{slice_index_or}
use Rattle.std.specs.List.{list_any}
use Rattle.std.specs.Option.{option_and_then}
use Rattle.std.proofs.lemmas.Bool.{cases_Bool, eq-eqb, eqb-true}
use Rattle.std.proofs.lemmas.Option.{none-some}
use Rattle.cs_base.specs.declared.positions.Part.{Part}
use Rattle.cs_base.specs.declared.positions.Pos.{Pos}
use Rattle.cs_base.specs.Token.{Token}
use Rattle.cs_base.proofs.ListLemmas.{any_at as any_from}
use Rattle.eclass_map.specs.ClassTable.{Table, class_in, part_of}
use Rattle.eclass_map.specs.Positions.{holds}
use Rattle.eclass_map.proofs.TokenFacts.{holds_from}
use Rattle.analysis.proofs.PartLemmas.{held_character, part_once}
use Rattle.analysis.specs.Analysed.{Analysed}
use Rattle.analysis.specs.Classes.{AreItsClasses}
use Rattle.analysis.specs.Parts.{Holds, IsPart}
use Rattle.analysis.proofs.ClassLemmas.{held_by, member_walked, part_held, walked_member}
use Rattle.class_marks.specs.declared.roles.Role.{Role}
use Rattle.class_marks.specs.Marks.{class_at, is_class, touches, AreMarked}
use Rattle.class_marks.specs.Roles.{names_with}
use Rattle.class_marks.specs.Touching.{HasRole, Touches}
use Rattle.class_marks.proofs.MarkLemmas.{within_class}

-- ---- tests of lists

-- some element passes the test
pub record Passes {X : Type 0} (p : X → Bool) (xs : List X) : Type 0 where
  pub number : ℕ
  pub element : X
  pub at : slice_get xs number ≡ Some element
  pub passed : p element ≡ true

pub some_passes : {X : Type 0} (p : X → Bool) (xs : List X) → list_any p xs ≡ true → Passes p xs
some_passes p [] passed = absurd (cc)
some_passes p (x ∷ xs) passed = elim (cases_Bool (p x)) [
  | inl first ↦ record { number = zero; element = x; at = refl; passed = first }
  | inr other ↦
      let later = some_passes p xs (rw other at passed) in
      record { number = suc later.number; element = later.element; at = later.at; passed = later.passed }
]

-- ---- classes of characters

of_class : (c : ℕ) (found : Option ℕ) → is_class c found ≡ true → found ≡ Some c
of_class c None passed = absurd (cc)
of_class c (Some d) passed = ap (λ (n : ℕ). Some n) (eqb-true d c passed)

is_of_class : (c : ℕ) (found : Option ℕ) → found ≡ Some c → is_class c found ≡ true
is_of_class c found is = rw is (eq-eqb c c refl)

-- the part and the origin that a class comes from
record Comes (classes : Table) (origin : Option Pos) (c : ℕ) : Type 0 where
  at : Pos
  part : Part
  from : origin ≡ Some at
  over : part_of classes at ≡ Some part
  numbered : class_in classes part ≡ Some c

comes_over : (classes : Table) (p : Pos) (c : ℕ) (found : Option Part) → part_of classes p ≡ found → option_and_then (class_in classes) found ≡ Some c
    → Comes classes (Some p) c
comes_over classes p c None over is = absurd (none-some c is)
comes_over classes p c (Some part) over is = record { at = p; part = part; from = refl; over = over; numbered = is }

comes_from : (classes : Table) (origin : Option Pos) (c : ℕ) → class_at classes origin ≡ Some c → Comes classes origin c
comes_from classes None c is = absurd (none-some c is)
comes_from classes (Some p) c is = comes_over classes p c (part_of classes p) refl is

origin_found : (t : Token) (k : ℕ) (p : Pos) (o : Option (Option Pos)) → slice_get t.origins k ≡ o → option_and_then (λ origin. origin) o ≡ Some p
    → slice_get t.origins k ≡ Some (Some p)
origin_found t k p None at is = absurd (none-some p is)
origin_found t k p (Some origin) at is = at ∙ ap (λ (q : Option Pos). Some q) is

-- the class of the character with which a part begins is its own
pub start_class : (a : Analysed) → AreItsClasses a.value a.classes → (part : Part) → IsPart a.value part
    → class_at a.classes (Some part.start) ≡ class_in a.classes part
start_class a own part it =
    let n = own.parts.each part (part_held a.value a.classes own part it) in
    let some = it.some in
    let held : holds part part.start ≡ true = holds_from part part.start (record { file = refl; from = omega arith; less = omega (arith, some) }) in
    within_class a.classes part n.0 part.start own.parts n.1 held ∙ sym n.1

-- ---- names of a class

module _ (a : Analysed) (own : AreItsClasses a.value a.classes) (part : Part) (c : ℕ) (is : class_in a.classes part ≡ Some c) where
  -- the part over a character of a member is the member
  over_member : (p : Pos) (member : Part) → IsPart a.value member → holds member p ≡ true → (found : Option Part) → part_of a.classes p ≡ found
      → Holds a.value p found → found ≡ Some member
  over_member p member it held None over none = absurd (none (held_character a.value member p it held))
  over_member p member it held (Some other) over h = ap (λ (m : Part). Some m) (part_once a.value other member p h.0 it h.1 held)

  touched : (t : Token) → Touches a.value part t → touches a.classes c t ≡ true
  touched t x =
      let at = origin_found t x.character x.at (slice_get t.origins x.character) refl x.origin in
      let over : part_of a.classes x.at ≡ Some x.member =
      over_member x.at x.member x.is_member.is_part x.held (part_of a.classes x.at) refl (held_by a.value a.classes own x.at (part_of a.classes x.at) refl) in
      let walked = member_walked a.value a.classes own part x.member c is x.is_member in
      let numbered : class_in a.classes x.member ≡ Some c = own.parts.walked x.member c walked.0 walked.1 in
      let class : class_at a.classes (Some x.at) ≡ Some c = ap (option_and_then (class_in a.classes)) over ∙ numbered in
      any_from (λ (o : Option Pos). is_class c (class_at a.classes o)) t.origins x.character (Some x.at) at (is_of_class c (class_at a.classes (Some x.at)) class)

  touches_it : (t : Token) → touches a.classes c t ≡ true → Touches a.value part t
  touches_it t passed =
      let x = some_passes (λ (o : Option Pos). is_class c (class_at a.classes o)) t.origins passed in
      let from = comes_from a.classes x.element c (of_class c (class_at a.classes x.element) x.passed) in
      let held : Holds a.value from.at (Some from.part) = held_by a.value a.classes own from.at (Some from.part) from.over in
      let walked = own.parts.member from.part c from.numbered in
      record {
        character = x.number;
        at = from.at;
        member = from.part;
        origin = ap (option_and_then (λ (o : Option Pos). o)) x.at ∙ from.from;
        is_member = walked_member a.value a.classes own part from.part c walked.0 is walked.1;
        held = held.1;
      }

  -- a mark says that some name with the role has a character of the class
  pub marked_role : (role : Role) (marks : List Bool) → AreMarked a.classes (names_with role a.value) marks → c < length marks
      → slice_index_or marks c false ≡ true → HasRole a.value role part
  marked_role role marks told within passed =
      let x = some_passes (touches a.classes c) (names_with role a.value) (sym (told.each c within) ∙ passed) in
      record { number = x.number; name = x.element; listed = x.at; touches = touches_it x.element x.passed }

  pub role_marked : (role : Role) (marks : List Bool) → AreMarked a.classes (names_with role a.value) marks → c < length marks
      → HasRole a.value role part → slice_index_or marks c false ≡ true
  role_marked role marks told within x =
      told.each c within ∙ any_from (touches a.classes c) (names_with role a.value) x.number x.name x.listed (touched x.name x.touches)
