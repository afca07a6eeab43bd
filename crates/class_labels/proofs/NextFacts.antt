-- What comes after a member of a walk.
use Rattle.std.proofs.Common.{◌≡◌, ℕ, List, [], ◌∷◌, zero, suc, get_or, refl, ap, sym, ◌∙◌, inl, inr, subst, Some, None}
use Rattle.std.specs.Prelude.{slice_get}
use Rattle.std.proofs.lemmas.Option.{none-some, same_Some}
use Rattle.class_labels.specs.Table.{In, Distinct}
use Rattle.class_labels.specs.Links.{members, last_of}
use Rattle.class_labels.proofs.MemberFacts.{last_of-In}

pub In-slice_get : (xs : List ℕ) (k x : ℕ) → slice_get xs k ≡ Some x → In x xs
In-slice_get [] k x at = absurd (none-some x at)
In-slice_get (y ∷ xs) zero x at = inl (sym (same_Some y x at))
In-slice_get (y ∷ xs) (suc k) x at = inr (In-slice_get xs k x at)

-- nothing after the last
pub after_last : (xs : List ℕ) (k x : ℕ) → Distinct xs → slice_get xs k ≡ Some x → x ≡ last_of xs → slice_get xs (suc k) ≡ None
after_last [] k x d at e = absurd (none-some x at)
after_last (y ∷ []) zero x d at e = refl
after_last (y ∷ []) (suc k) x d at e = absurd (none-some x at)
after_last (y ∷ z ∷ zs) zero x d at e =
    let P : ℕ → Type 0 = λ v. In v (z ∷ zs) in
    absurd (d.0 (subst P (sym e ∙ sym (same_Some y x at)) (last_of-In z zs)))
after_last (y ∷ z ∷ zs) (suc k) x d at e = after_last (z ∷ zs) k x d.1 at e

-- after any other its link
pub after_other : (n : ℕ) (nexts : List ℕ) (first k x : ℕ) → slice_get (members n nexts first) k ≡ Some x → (x ≡ last_of (members n nexts first) → ⊥) → slice_get (members n nexts first) (suc k) ≡ Some (get_or nexts x 0)
after_other zero nexts first k x at apart = absurd (none-some x at)
after_other (suc zero) nexts first zero x at apart = absurd (apart (sym (same_Some first x at)))
after_other (suc zero) nexts first (suc k) x at apart = absurd (none-some x at)
after_other (suc (suc n)) nexts first zero x at apart = ap (λ v. Some (get_or nexts v 0)) (same_Some first x at)
after_other (suc (suc n)) nexts first (suc k) x at apart = after_other (suc n) nexts (get_or nexts first 0) k x at apart
