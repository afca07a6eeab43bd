-- Lists that keep their order while some elements are taken.
use Rattle.std.proofs.Common.{◌≡◌, ℕ, zero, suc, ◌+◌, ◌<◌, List, [], ◌∷◌, ◌++◌, Some, length, get_or, take, slice_get, sym, subst}
use Rattle.std.specs.List.{AllByRecursion}
use Rattle.std.specs.List.Sorted.{IsStrictlySortedBy}
use Rattle.std.specs.declared.cmp.Ordering.{Ordering}
use Rattle.std.specs.declared.cmp.Ordering.TheVariants.{Less}
use Rattle.std.proofs.lemmas.List.{take_more}
use Rattle.std.proofs.lemmas.Option.{none-some, same_Some}
use Rattle.eclass_map.specs.Positions.{holds}
use Rattle.class_marks.specs.Keeping.{Keeps, nothing, taken, skipped}

-- ---- lists that keep their order

pub keeps_kept : {X : Type 0} (P : X → Type 0) (us vs : List X) (x : X) → P x → Keeps P us vs → Keeps P (us ++ x ∷ []) (vs ++ x ∷ [])
keeps_kept P us vs x holds nothing = taken holds nothing
keeps_kept P us vs x holds (taken {xs = xs} {ys = ys} here rest) = taken here (keeps_kept P xs ys x holds rest)
keeps_kept P us vs x holds (skipped {xs = xs} {ys = ys} not rest) = skipped not (keeps_kept P xs ys x holds rest)

pub keeps_left : {X : Type 0} (P : X → Type 0) (us vs : List X) (x : X) → (P x → ⊥) → Keeps P us vs → Keeps P (us ++ x ∷ []) vs
keeps_left P us vs x fails nothing = skipped fails nothing
keeps_left P us vs x fails (taken {xs = xs} {ys = ys} here rest) = taken here (keeps_left P xs ys x fails rest)
keeps_left P us vs x fails (skipped {xs = xs} {ys = ys} not rest) = skipped not (keeps_left P xs ys x fails rest)

each_cons : {X : Type 0} (P : X → Type 0) (y : X) (ys : List X) → P y → ((k : ℕ) (x : X) → slice_get ys k ≡ Some x → P x)
    → (k : ℕ) (x : X) → slice_get (y ∷ ys) k ≡ Some x → P x
each_cons P y ys here rest zero x at = subst P (same_Some y x at) here
each_cons P y ys here rest (suc k) x at = rest k x at

pub keeps_each : {X : Type 0} (P : X → Type 0) (us vs : List X) → Keeps P us vs → (k : ℕ) (x : X) → slice_get vs k ≡ Some x → P x
keeps_each P us vs nothing = λ k x at. absurd (none-some x at)
keeps_each P us vs (taken {x = y} {xs = xs} {ys = ys} here rest) = each_cons P y ys here (keeps_each P xs ys rest)
keeps_each P us vs (skipped {xs = xs} {ys = ys} not rest) = keeps_each P xs ys rest

-- what is kept of a list stands in another
abbrev AreAllIn : {X : Type 0} → (X → Type 0) → List X → List X → Type 0
AreAllIn {X} P us vs = (j : ℕ) (x : X) → slice_get us j ≡ Some x → P x → (k : ℕ) × (slice_get vs k ≡ Some x)

all_taken : {X : Type 0} (P : X → Type 0) (y : X) (us vs : List X) → AreAllIn P us vs → AreAllIn P (y ∷ us) (y ∷ vs)
all_taken P y us vs all zero x at holds = (zero, at)
all_taken P y us vs all (suc j) x at holds = let found = all j x at holds in (suc found.0, found.1)

all_skipped : {X : Type 0} (P : X → Type 0) (y : X) (us vs : List X) → (P y → ⊥) → AreAllIn P us vs → AreAllIn P (y ∷ us) vs
all_skipped P y us vs not all zero x at holds = absurd (not (subst P (sym (same_Some y x at)) holds))
all_skipped P y us vs not all (suc j) x at holds = all j x at holds

pub keeps_all : {X : Type 0} (P : X → Type 0) (us vs : List X) → Keeps P us vs → AreAllIn P us vs
keeps_all P us vs nothing = λ j x at holds. absurd (none-some x at)
keeps_all P us vs (taken {x = y} {xs = xs} {ys = ys} here rest) = all_taken P y xs ys (keeps_all P xs ys rest)
keeps_all P us vs (skipped {x = y} {xs = xs} {ys = ys} not rest) = all_skipped P y xs ys not (keeps_all P xs ys rest)

above_kept : {X : Type 0} (P Q : X → Type 0) (us vs : List X) → Keeps P us vs → AllByRecursion Q us → AllByRecursion Q vs
above_kept P Q us vs nothing all = tt
above_kept P Q us vs (taken {xs = xs} {ys = ys} here rest) all = (all.0, above_kept P Q xs ys rest all.1)
above_kept P Q us vs (skipped {xs = xs} {ys = ys} not rest) all = above_kept P Q xs ys rest all.1

pub keeps_sorted : {X : Type 0} (P : X → Type 0) (cmp : X → X → Ordering) (us vs : List X) → Keeps P us vs → IsStrictlySortedBy cmp us
    → IsStrictlySortedBy cmp vs
unfolding IsStrictlySortedBy
keeps_sorted P cmp us vs nothing sorted = tt
keeps_sorted P cmp us vs (taken {x = y} {xs = xs} {ys = ys} here rest) sorted =
    (above_kept P (λ z. cmp y z ≡ Less) xs ys rest sorted.0, keeps_sorted P cmp xs ys rest sorted.1)
keeps_sorted P cmp us vs (skipped {xs = xs} {ys = ys} not rest) sorted = keeps_sorted P cmp xs ys rest sorted.1

-- an empty list
pub keeps_none : {X : Type 0} (P : X → Type 0) (ys : List X) → ys ≡ [] → Keeps P [] ys
keeps_none P ys is = subst (Keeps P []) (sym is) nothing

-- one element more is taken, or left out
pub keeps_more : {X : Type 0} (P : X → Type 0) (xs : List X) (k : ℕ) (d : X) (ys ys' : List X) → k < length xs → P (get_or xs k d)
    → ys' ≡ ys ++ get_or xs k d ∷ [] → Keeps P (take k xs) ys → Keeps P (take (k + 1) xs) ys'
keeps_more {X = X} P xs k d ys ys' within holds is so_far =
    let x : X = get_or xs k d in
    subst (λ (zs : List X). Keeps P zs ys') (sym (take_more xs k d within))
    (subst (Keeps P (take k xs ++ x ∷ [])) (sym is) (keeps_kept P (take k xs) ys x holds so_far))

pub keeps_same : {X : Type 0} (P : X → Type 0) (xs : List X) (k : ℕ) (d : X) (ys ys' : List X) → k < length xs → (P (get_or xs k d) → ⊥)
    → ys' ≡ ys → Keeps P (take k xs) ys → Keeps P (take (k + 1) xs) ys'
keeps_same {X = X} P xs k d ys ys' within fails is so_far =
    let x : X = get_or xs k d in
    subst (λ (zs : List X). Keeps P zs ys') (sym (take_more xs k d within))
    (subst (Keeps P (take k xs ++ x ∷ [])) (sym is) (keeps_left P (take k xs) ys x fails so_far))
