-- The members of a class stand in one list.
use Rattle.std.proofs.Common.{◌≡◌, ℕ, zero, suc, List, [], ◌∷◌, Some, refl, ap, sym, subst, ◌∙◌}
use Rattle.std.specs.Prelude.{slice_get}
use Rattle.std.specs.Cmp.{IsTotalOrder}
use Rattle.std.specs.List.{AllByRecursion}
use Rattle.std.specs.List.Sorted.{IsStrictlySortedBy}
use Rattle.std.specs.Ordering.{ordering_reverse}
use Rattle.std.specs.declared.cmp.Ordering.{Ordering}
use Rattle.std.specs.declared.cmp.Ordering.TheVariants.{Less}
use Rattle.std.proofs.lemmas.Option.{none-some, same_Some}
use Rattle.cs_base.specs.declared.positions.Part.{Part}
use Rattle.offences.specs.First.{IsAmong}
use Rattle.analysis.specs.Analysis.{AnalysisValue}
use Rattle.analysis.specs.Parts.{AreMembers, part_cmp}
use Rattle.analysis.proofs.ListingLemmas.{part_cmp-total}

-- ---- lists in strict order

both_less : {X : Type 0} (c : X → X → Ordering) → IsTotalOrder c → (x y : X) → c x y ≡ Less → c y x ≡ Less → ⊥
both_less c total x y less back =
    let e : Less ≡ ordering_reverse Less = sym less ∙ total.antisymm x y ∙ ap ordering_reverse back in cc

each_at : {X : Type 0} (P : X → Type 0) (xs : List X) (k : ℕ) (y : X) → AllByRecursion P xs → slice_get xs k ≡ Some y → P y
each_at P [] k y all at = absurd (none-some y at)
each_at P (z ∷ xs) zero y all at = subst P (same_Some z y at) all.0
each_at P (z ∷ xs) (suc k) y all at = each_at P xs k y all.1 at

-- what stands in one list stands in the other
abbrev pub AreIn : {X : Type 0} → List X → List X → Type 0
AreIn {X} xs ys = (x : X) → IsAmong xs x → IsAmong ys x

tail_at : {X : Type 0} (c : X → X → Ordering) → IsTotalOrder c → (x : X) (ys : List X) (k : ℕ) (z : X) → c x z ≡ Less
    → slice_get (x ∷ ys) k ≡ Some z → IsAmong ys z
tail_at c total x ys zero z less at = absurd (let e : c z z ≡ Less = subst (λ y. c y z ≡ Less) (same_Some x z at) less in both_less c total z z e e)
tail_at c total x ys (suc k) z less at = (k, at)

tails_in : {X : Type 0} (c : X → X → Ordering) → IsTotalOrder c → (x : X) (xs ys : List X) → IsStrictlySortedBy c (x ∷ xs)
    → AreIn (x ∷ xs) (x ∷ ys) → AreIn xs ys
unfolding IsStrictlySortedBy
tails_in c total x xs ys sorted all z at =
    let found = all z (suc at.0, at.1) in
    tail_at c total x ys found.0 z (each_at (λ y. c x y ≡ Less) xs at.0 z sorted.0 at.1) found.1

heads : {X : Type 0} (c : X → X → Ordering) → IsTotalOrder c → (x y : X) (xs ys : List X) → IsStrictlySortedBy c (x ∷ xs)
    → IsStrictlySortedBy c (y ∷ ys) → (k j : ℕ) → slice_get (y ∷ ys) k ≡ Some x → slice_get (x ∷ xs) j ≡ Some y → y ≡ x
unfolding IsStrictlySortedBy
heads c total x y xs ys s t zero j at back = same_Some y x at
heads c total x y xs ys s t (suc k) zero at back = sym (same_Some x y back)
heads c total x y xs ys s t (suc k) (suc j) at back =
    absurd (both_less c total x y (each_at (λ z. c x z ≡ Less) xs j y s.0 back) (each_at (λ z. c y z ≡ Less) ys k x t.0 at))

-- lists in one strict order that have the same elements are one
pub same_lists : {X : Type 0} (c : X → X → Ordering) → IsTotalOrder c → (xs ys : List X) → IsStrictlySortedBy c xs → IsStrictlySortedBy c ys
    → AreIn xs ys → AreIn ys xs → xs ≡ ys
unfolding IsStrictlySortedBy
same_lists c total [] [] s t all back = refl
same_lists c total [] (y ∷ ys) s t all back = absurd (let found = back y (0, refl) in none-some y found.1)
same_lists c total (x ∷ xs) [] s t all back = absurd (let found = all x (0, refl) in none-some x found.1)
same_lists {X} c total (x ∷ xs) (y ∷ ys) s t all back =
    let found = all x (0, refl) in
    let there = back y (0, refl) in
    let head : y ≡ x = heads c total x y xs ys s t found.0 there.0 found.1 there.1 in
    let t' : IsStrictlySortedBy c (x ∷ ys) = subst (λ (h : X). IsStrictlySortedBy c (h ∷ ys)) head t in
    let all' : AreIn (x ∷ xs) (x ∷ ys) = subst (λ (h : X). AreIn (x ∷ xs) (h ∷ ys)) head all in
    let back' : AreIn (x ∷ ys) (x ∷ xs) = subst (λ (h : X). AreIn (h ∷ ys) (x ∷ xs)) head back in
    let tail = same_lists c total xs ys s.1 t'.1 (tails_in c total x xs ys s all') (tails_in c total x ys xs t' back') in
    subst (λ (h : X). x ∷ xs ≡ h ∷ ys) (sym head) (ap (λ (zs : List X). x ∷ zs) tail)

-- ---- a class

members_in : (a : AnalysisValue) (part : Part) (ms ns : List Part) → AreMembers a part ms → AreMembers a part ns → AreIn ms ns
members_in a part ms ns these those m at = those.all m (these.each at.0 m at.1)

-- the members of a class stand in one list
pub one_list : (a : AnalysisValue) (part : Part) (ms ns : List Part) → AreMembers a part ms → AreMembers a part ns → ms ≡ ns
one_list a part ms ns these those =
    same_lists (part_cmp a) (part_cmp-total a) ms ns these.sorted those.sorted (members_in a part ms ns these those) (members_in a part ns ms those these)
