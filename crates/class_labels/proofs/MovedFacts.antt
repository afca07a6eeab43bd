-- What one move of labels does to a single label.
use Rattle.std.proofs.Common.{◌≡◌, ℕ, ◌-◌, ◌<◌, ◌≤◌, ◌⊎◌, eqb, leb, refl, ap, sym, ◌∙◌, inl, inr, arith}
use Rattle.std.proofs.lemmas.Bool.{cases_Bool, and_parts, and_cases, eqb-true, eqb-false, leb-true, leb-false, cond-true, cond-false}
use Rattle.class_labels.specs.declared.spots.Spot.{Spot}
use Rattle.class_labels.specs.Labels.{spot, moved, goes}

-- the label is of class c and k or more characters in, and so moved
pub record Goes (c k n : ℕ) (s : Spot) : Type 0 where
  pub of_class : s.class ≡ c
  pub far : k ≤ s.offset
  pub to : moved c k n s ≡ spot n (s.offset - k)

-- the label stays as it is
pub record Stays (c k n : ℕ) (s : Spot) : Type 0 where
  pub apart : s.class ≡ c → s.offset < k
  pub kept : moved c k n s ≡ s

pub moved_cases : (c k n : ℕ) (s : Spot) → Goes c k n s ⊎ Stays c k n s
moved_cases c k n s = elim (cases_Bool (goes c k s)) [
  | inl pass ↦
      let both = and_parts (eqb s.class c) (leb k s.offset) pass in
      inl (record {
        of_class = eqb-true s.class c both.0;
        far = leb-true k s.offset both.1;
        to = cond-true (goes c k s) (spot n (s.offset - k)) s pass;
      })
  | inr fail ↦ inr (record {
    apart = λ e. elim (and_cases (eqb s.class c) (leb k s.offset) fail) [
      | inl other ↦ absurd (eqb-false s.class c other e)
      | inr near ↦ leb-false k s.offset near
    ];
    kept = cond-false (goes c k s) (spot n (s.offset - k)) s fail;
  })
]

-- a label that is to be moved, and one that is not
pub moved_there : (c k n o : ℕ) → k ≤ o → moved c k n (spot c o) ≡ spot n (o - k)
moved_there c k n o h = elim (moved_cases c k n (spot c o)) [
  | inl g ↦ g.to
  | inr s ↦ let near : o < k = s.apart refl in absurd (omega arith)
]

pub moved_near : (c k n o : ℕ) → o < k → moved c k n (spot c o) ≡ spot c o
moved_near c k n o h = elim (moved_cases c k n (spot c o)) [
  | inl g ↦ let far : k ≤ o = g.far in absurd (omega arith)
  | inr s ↦ s.kept
]

pub moved_other : (c k n d o : ℕ) → (d ≡ c → ⊥) → moved c k n (spot d o) ≡ spot d o
moved_other c k n d o h = elim (moved_cases c k n (spot d o)) [ inl g ↦ absurd (h g.of_class) | inr s ↦ s.kept ]

pub same_spot : (s t : Spot) → s.class ≡ t.class → s.offset ≡ t.offset → s ≡ t
same_spot s t e f = λ i. record { class = e i; offset = f i }

-- moved to a number that neither has, two labels are as equal as before
pub moved_apart : (c k n : ℕ) (s t : Spot) → (s.class ≡ n → ⊥) → (t.class ≡ n → ⊥) → moved c k n s ≡ moved c k n t → s ≡ t
moved_apart c k n s t fresh_s fresh_t e = elim (moved_cases c k n s) [
  | inl g ↦ elim (moved_cases c k n t) [
    | inl h ↦
        let same : spot n (s.offset - k) ≡ spot n (t.offset - k) = sym g.to ∙ e ∙ h.to in
        let offsets : s.offset - k ≡ t.offset - k = ap (λ (u : Spot). u.offset) same in
        let far_s = g.far in
        let far_t = h.far in
        same_spot s t (g.of_class ∙ sym h.of_class) (omega arith)
    | inr h ↦ absurd (fresh_t (ap (λ (u : Spot). u.class) (sym h.kept ∙ sym e ∙ g.to)))
  ]
  | inr g ↦ elim (moved_cases c k n t) [
    | inl h ↦ absurd (fresh_s (ap (λ (u : Spot). u.class) (sym g.kept ∙ e ∙ h.to)))
    | inr h ↦ sym g.kept ∙ e ∙ h.kept
  ]
]
