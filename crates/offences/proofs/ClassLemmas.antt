-- The members of a class by its number.
use Rattle.std.proofs.Common.{◌≡◌, ℕ, zero, suc, Bool, true, List, [], ◌∷◌, Some, None, slice_get, inl, inr, refl, sym, ap, subst}
use Rattle.std.specs.List.{find}
use Rattle.std.proofs.lemmas.Bool.{cases_Bool}
use Rattle.std.proofs.lemmas.Option.{same_Some}
use Rattle.cs_base.specs.declared.positions.Part.{Part}
use Rattle.cs_base.specs.declared.positions.Pos.{Pos}
use Rattle.eclass_map.specs.ClassTable.{class_in}
use Rattle.eclass_map.specs.Positions.{holds}
use Rattle.part_respell.specs.Respelled.{member_over}
use Rattle.analysis.specs.Analysed.{Analysed}
use Rattle.analysis.specs.Classes.{AreItsClasses}
use Rattle.analysis.specs.Parts.{IsCharacter, IsPart}
use Rattle.analysis.proofs.ClassLemmas.{walked_member, member_walked}
use Rattle.analysis.proofs.PartLemmas.{held_character, part_once}
use Rattle.offences.specs.Class.{IsApart, IsClass}

-- ---- members by the number of their class

-- the first of a list that passes, where all that pass are the same
find_only : {X : Type 0} (p : X → Bool) (xs : List X) (x : X) (k : ℕ) → slice_get xs k ≡ Some x → p x ≡ true
    → ((j : ℕ) (y : X) → slice_get xs j ≡ Some y → p y ≡ true → y ≡ x) → find p xs ≡ Some x
find_only p [] x k at here only = absurd (cc)
find_only {X = X} p (y ∷ xs) x zero at here only =
    let same : y ≡ x = same_Some y x at in
    let P : X → Type 0 = λ z. p z ≡ true in
    let passes : p y ≡ true = subst P (sym same) here in
    rw passes at
find_only {X = X} p (y ∷ xs) x (suc k) at here only =
    elim (cases_Bool (p y)) [
      | inl passes ↦ rw passes (ap (λ (z : X). Some z) (only zero y refl passes))
      | inr fails ↦ rw fails (find_only p xs x k at here (λ j z is. only (suc j) z is))
    ]

pub find_no : {X : Type 0} (p : X → Bool) (xs : List X) → ((j : ℕ) (y : X) → slice_get xs j ≡ Some y → p y ≡ true → ⊥) → find p xs ≡ None
find_no p [] none = refl
find_no p (y ∷ xs) none =
    elim (cases_Bool (p y)) [
      | inl passes ↦ absurd (none zero y refl passes)
      | inr fails ↦ rw fails (find_no p xs (λ j z is. none (suc j) z is))
    ]

module _ (a : Analysed) (own : AreItsClasses a.value a.classes) (members : List Part) (number : ℕ) (is : IsClass a members number) where
  -- a member has the number of the class, and what has it is a member
  member_numbered : (m : Part) (k : ℕ) → slice_get members k ≡ Some m → class_in a.classes m ≡ Some number
  member_numbered m k at =
      let walked = member_walked a.value a.classes own is.part m number is.numbered (is.listed.each k m at) in
      own.parts.walked m number walked.0 walked.1

  numbered_member : (m : Part) → class_in a.classes m ≡ Some number → (k : ℕ) × (slice_get members k ≡ Some m)
  numbered_member m same =
      let walked = own.parts.member m number same in
      is.listed.all m (walked_member a.value a.classes own is.part m number walked.0 is.numbered walked.1)

  pub over_none : (p : Pos) → (IsCharacter a.value p → ⊥) → member_over members p ≡ None
  over_none p nowhere =
      find_no (λ m. holds m p) members (λ j m at h. nowhere (held_character a.value m p (is.listed.each j m at).is_part h))

  pub over_other : (p : Pos) (part : Part) → IsPart a.value part → holds part p ≡ true → (class_in a.classes part ≡ Some number → ⊥)
      → member_over members p ≡ None
  over_other p part it held other =
      let P : Part → Type 0 = λ m. class_in a.classes m ≡ Some number in
      find_no (λ m. holds m p) members (λ j m at h.
      other (subst P (part_once a.value m part p (is.listed.each j m at).is_part it h held) (member_numbered m j at)))

  pub over_member : (p : Pos) (part : Part) → IsPart a.value part → holds part p ≡ true → class_in a.classes part ≡ Some number
      → member_over members p ≡ Some part
  over_member p part it held same =
      let at = numbered_member part same in
      find_only (λ m. holds m p) members part at.0 at.1 held
      (λ j m is_at h. part_once a.value m part p (is.listed.each j m is_at).is_part it h held)

  pub part_apart : (part : Part) → IsPart a.value part → (class_in a.classes part ≡ Some number → ⊥) → IsApart members part
  part_apart part it other = λ p held. over_other p part it held other
