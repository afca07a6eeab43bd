-- Facts on orders.
use Rattle.std.proofs.Common.{List, [], ap, inl, inr, refl, sym, ℕ, ◌∙◌, ◌≡◌}
use Rattle.std.proofs.lemmas.Bool.{cases_Bool, eqb-true}
use Rattle.std.proofs.lemmas.Map.Text.{is_eq-slice_cmp}
use Rattle.std.specs.Ordering.{is_eq, nat_cmp, ordering_then}
use Rattle.std.specs.declared.cmp.Ordering.TheVariants.{Equal, Greater, Less}
use Rattle.std.specs.Prelude.{nat_lt, ◌==◌}
use Rattle.std.specs.Cmp.Lexicographic.{slice_cmp}
use Rattle.std.specs.declared.cmp.Ordering.{Ordering}
use Rattle.cs_base.proofs.FileMapLemmas.{bytes_eq-equal}

pub nat_cmp-tie : (m n : ℕ) → nat_cmp m n ≡ Equal → m ≡ n
nat_cmp-tie m n e = elim (cases_Bool (nat_lt m n)) [
  | inl less ↦ (let wrong : Less ≡ Equal = rw less at e in absurd (cc))
  | inr not_less ↦ elim (cases_Bool (m == n)) [
    | inl same ↦ eqb-true m n same
    | inr apart ↦ (let wrong : Greater ≡ Equal = rw (not_less, apart) at e in absurd (cc))
  ]
]

pub tied : (xs ys : List ℕ) → slice_cmp nat_cmp xs ys ≡ Equal → xs ≡ ys
tied xs ys e = bytes_eq-equal xs ys (sym (is_eq-slice_cmp xs ys) ∙ ap is_eq e)

pub first_decides : (o other : Ordering) → ordering_then o other ≡ Less → (o ≡ Equal → ⊥) → o ≡ Less
first_decides Less other h apart = refl
first_decides Equal other h apart = absurd (apart refl)
first_decides Greater other h apart = absurd (cc)
