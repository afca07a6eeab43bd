-- How long a list of numbers is.
use Rattle.std.proofs.Common.{◌≡◌, ℕ, ◌<◌, ◌≤◌, List, [], ◌∷◌, zero, suc, cond, eqb, length, refl, ap, sym, ◌∙◌, inl, inr, arith, subst}
use Rattle.std.proofs.lemmas.Bool.{cases_eq, cond-true, cond-false, eq-eqb, ne_eqb}
use Rattle.class_labels.specs.Table.{In, Distinct}

-- the list without each n
abbrev pub without : ℕ → List ℕ → List ℕ
without n [] = []
without n (x ∷ xs) = cond (eqb n x) (without n xs) (x ∷ without n xs)

without_same : (n x : ℕ) (xs : List ℕ) → n ≡ x → without n (x ∷ xs) ≡ without n xs
without_same n x xs e = cond-true (eqb n x) (without n xs) (x ∷ without n xs) (eq-eqb n x e)

without_other : (n x : ℕ) (xs : List ℕ) → (n ≡ x → ⊥) → without n (x ∷ xs) ≡ x ∷ without n xs
without_other n x xs ne = cond-false (eqb n x) (without n xs) (x ∷ without n xs) (ne_eqb n x ne)

pub In-without : (n y : ℕ) (xs : List ℕ) → In y xs → (y ≡ n → ⊥) → In y (without n xs)
In-without n y [] i apart = absurd i
In-without n y (x ∷ xs) i apart =
    let P : List ℕ → Type 0 = λ v. In y v in
    elim (cases_eq n x) [
      | inl e ↦ subst P (sym (without_same n x xs e)) (elim i [ inl f ↦ absurd (apart (f ∙ sym e)) | inr j ↦ In-without n y xs j apart ])
      | inr ne ↦ subst P (sym (without_other n x xs ne)) (elim i [ inl f ↦ inl f | inr j ↦ inr (In-without n y xs j apart) ])
    ]

pub without-In : (n y : ℕ) (xs : List ℕ) → In y (without n xs) → In y xs × (y ≡ n → ⊥)
without-In n y [] i = absurd i
without-In n y (x ∷ xs) i =
    let P : List ℕ → Type 0 = λ v. In y v in
    elim (cases_eq n x) [
      | inl e ↦ let r = without-In n y xs (subst P (without_same n x xs e) i) in (inr r.0, r.1)
      | inr ne ↦ elim (subst P (without_other n x xs ne) i) [
        | inl f ↦ (inl f, λ g. ne (sym g ∙ f))
        | inr j ↦ let r = without-In n y xs j in (inr r.0, r.1)
      ]
    ]

length-without-le : (n : ℕ) (xs : List ℕ) → length (without n xs) ≤ length xs
length-without-le n [] = omega arith
length-without-le n (x ∷ xs) = elim (cases_eq n x) [
  | inl e ↦ omega (arith, ap length (without_same n x xs e), length-without-le n xs)
  | inr ne ↦ omega (arith, ap length (without_other n x xs ne), length-without-le n xs)
]

pub length-without-lt : (n : ℕ) (xs : List ℕ) → In n xs → length (without n xs) < length xs
length-without-lt n [] i = absurd i
length-without-lt n (x ∷ xs) i = elim (cases_eq n x) [
  | inl e ↦ omega (arith, ap length (without_same n x xs e), length-without-le n xs)
  | inr ne ↦ elim i [
    | inl e ↦ absurd (ne e)
    | inr j ↦ omega (arith, ap length (without_other n x xs ne), length-without-lt n xs j)
  ]
]

without_none : (n : ℕ) (xs : List ℕ) → (In n xs → ⊥) → without n xs ≡ xs
without_none n [] h = refl
without_none n (x ∷ xs) h = without_other n x xs (λ e. h (inl e)) ∙ ap (λ v. x ∷ v) (without_none n xs (λ i. h (inr i)))

length-without-distinct : (n : ℕ) (xs : List ℕ) → Distinct xs → length xs ≤ suc (length (without n xs))
length-without-distinct n [] d = omega arith
length-without-distinct n (x ∷ xs) d = elim (cases_eq n x) [
  | inl e ↦
      let P : ℕ → Type 0 = λ v. In v xs in
      let same = without_same n x xs e ∙ without_none n xs (λ i. d.0 (subst P e i)) in
      omega (arith, ap length same)
  | inr ne ↦ omega (arith, ap length (without_other n x xs ne), length-without-distinct n xs d.1)
]

Distinct-without : (n : ℕ) (xs : List ℕ) → Distinct xs → Distinct (without n xs)
Distinct-without n [] d = tt
Distinct-without n (x ∷ xs) d =
    let P : List ℕ → Type 0 = λ v. Distinct v in
    elim (cases_eq n x) [
      | inl e ↦ subst P (sym (without_same n x xs e)) (Distinct-without n xs d.1)
      | inr ne ↦ subst P (sym (without_other n x xs ne)) (λ i. d.0 (without-In n x xs i).0, Distinct-without n xs d.1)
    ]

-- different numbers below n are at most n
pub length-distinct : (n : ℕ) (xs : List ℕ) → Distinct xs → ((x : ℕ) → In x xs → x < n) → length xs ≤ n
length-distinct zero [] d below = omega arith
length-distinct zero (x ∷ xs) d below = absurd (let h = below x (inl refl) in omega arith)
length-distinct (suc n) xs d below =
    let rest : length (without n xs) ≤ n = length-distinct n (without n xs) (Distinct-without n xs d) (λ x i.
    let r = without-In n x xs i in
    let h = below x r.0 in
    elim (cases_eq x n) [ inl e ↦ absurd (r.1 e) | inr ne ↦ omega arith ]) in
    omega (arith, length-without-distinct n xs d)
