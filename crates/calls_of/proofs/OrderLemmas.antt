-- What a sort and a `dedup` leave: each element once, in strict order.
use Rattle.std.proofs.Common.{◌≡◌, List, Bool, true, ap, sym, subst, refl}
use Rattle.std.specs.Cmp.{IsTotalOrder}
use Rattle.std.specs.Fn.{Called}
use Rattle.std.specs.List.{dedup}
use Rattle.std.specs.List.Sorted.{IsPermutation, IsSorted, IsSortedByClosure}
use Rattle.std.specs.Ordering.{is_eq, is_lt, eq_by_cmp}
use Rattle.std.specs.declared.cmp.Ordering.{Ordering}
use Rattle.std.specs.declared.cmp.Ordering.TheVariants.{Less, Equal, Greater}
use Rattle.std.proofs.lemmas.Cmp.{eq_by_cmp_equiv}
use Rattle.std.proofs.lemmas.Fn.{always_returns_same}
use Rattle.std.proofs.lemmas.List.Kept.{Contains-dedup, Contains-from_dedup, IsStrictlySortedBy-dedup}
use Rattle.std.proofs.lemmas.List.Sorted.{Contains-permutation, IsPermutation-sym, ranks_by}
use denote.Param.Members.{Mut}
use denote.Ref.{Bor}
use Rattle.calls_of.specs.Orders.{Orders}

-- Of two elements that tie, one is the other.
pub record IsStrict {X : Type 0} (cmp : X → X → Ordering) : Type 0 where
  pub total : IsTotalOrder cmp
  pub tie : (x y : X) → cmp x y ≡ Equal → x ≡ y

-- a sort by a closure that compares as `cmp` does
pub sorted-by : {X : Type 0} (cmp : X → X → Ordering) {F : Type 0} {g : Mut F (Bor X × (Bor X × Unit {0})) Ordering} {f : F} (ys : List X)
    → IsStrict cmp → IsSortedByClosure g f ys
    → ((a : Bor X × (Bor X × Unit {0})) (r : Ordering) (f' : F) → Called g f a r f' → (r ≡ cmp a.0.now a.1.0.now) × (f' ≡ f))
    → IsSorted cmp ys
sorted-by {X} cmp {g = g} {f = f} ys strict sorted called =
    sorted (λ m n. is_lt (cmp m n)) (ranks_by strict.total (λ (n : X). n))
    (always_returns_same g (λ a r. is_lt r ≡ is_lt (cmp a.0.now a.1.0.now)) f (λ a r f' k. (ap is_lt (called a r f' k).0, (called a r f' k).1)))

equal_of : (o : Ordering) → is_eq o ≡ true → o ≡ Equal
equal_of Less e = cc
equal_of Equal e = refl
equal_of Greater e = cc

pub once : {X : Type 0} (cmp : X → X → Ordering) (xs ys zs : List X) → IsStrict cmp → IsPermutation xs ys → IsSorted cmp ys
    → zs ≡ dedup (eq_by_cmp cmp) ys → Orders cmp xs zs
once {X} cmp xs ys zs strict moved sorted left =
    let E : X → X → Bool = eq_by_cmp cmp in
    let all : Orders cmp xs (dedup E ys) = record {
      ordered = IsStrictlySortedBy-dedup strict.total {E = E} (λ x y. refl) ys sorted;
      same = λ x. (
        λ there. Contains-permutation ys xs x (IsPermutation-sym xs ys moved) (Contains-from_dedup E ys x there),
        λ there. Contains-dedup (eq_by_cmp_equiv strict.total) (λ x y e. strict.tie x y (equal_of (cmp x y) e)) ys x (Contains-permutation xs ys x moved there),
      );
    } in
    subst (Orders cmp xs) (sym left) all
