-- Spaces, names and types of declarations at moved places.
use Rattle.std.proofs.Common.{ℕ, ◌≡◌, true, ◌&&◌, ◌==◌, List, inl, inr, refl, sym, ap, subst, ◌∙◌}
use Rattle.std.specs.Str.{bytes_eq}
use Rattle.std.proofs.lemmas.Bool.{false≢true, cases_Bool, eqb-true, eq-eqb}
use Rattle.cs_base.specs.Token.{Token}
use Rattle.c_types.specs.Types.{CType}
use Rattle.c_types.specs.Tags.{number_in, base_number}
use Rattle.c_types.specs.declared.types.Base.{Base}
use Rattle.c_types.specs.declared.types.Base.TheVariants.{Arithmetic, Nothing, Structure, Union, Enumeration, Unknown}
use Rattle.c_types.specs.declared.declarations.Space.TheVariants.{Ordinary, Tags, Members, Inner, Unnamed, Labels}
use Rattle.c_types.specs.Declarations.{alike, is_named, is_space, spelling_at}
use Rattle.scope_bind.specs.Named.{Space, Declaration, ordinary, tags, members, labels}
use Rattle.scope_bind.specs.Moved.{moved_base, moved_type, moved_space, IsMoved, AreMovedTexts}

module _ (m : ℕ → ℕ) (old new : List Token) (law : AreMovedTexts m old new) where
  pub same_number : (i j : ℕ) → (m i == m j) ≡ (i == j)
  same_number i j = elim (cases_Bool (i == j)) [
    | inl e ↦ let same : i ≡ j = eqb-true i j e in (subst (λ k. (m i == m k) ≡ true) same (same_self (m i))) ∙ sym e
    | inr e ↦ elim (cases_Bool (m i == m j)) [
      | inl w ↦ let same : i ≡ j = law.apart i j (eqb-true (m i) (m j) w) in absurd (false≢true (sym e ∙ subst (λ k. (i == k) ≡ true) same (same_self i)))
      | inr w ↦ w ∙ sym e
    ]
  ]
    where
      same_self : (k : ℕ) → (k == k) ≡ true
      same_self k = eq-eqb k k refl

  pub same_spelling : (i j : ℕ) → alike new (m i) (m j) ≡ alike old i j
  same_spelling i j =
      ap (λ x. bytes_eq x (spelling_at new (m j))) (law.spelled i) ∙ ap (λ x. bytes_eq (spelling_at old i) x) (law.spelled j)

  pub same_ordinary : (s : Space) → is_space (moved_space m s) ordinary ≡ is_space s ordinary
  same_ordinary Ordinary = refl
  same_ordinary Tags = refl
  same_ordinary (Members n) = refl
  same_ordinary (Inner n) = refl
  same_ordinary (Unnamed n) = refl
  same_ordinary (Labels n) = refl

  pub same_tags : (s : Space) → is_space (moved_space m s) tags ≡ is_space s tags
  same_tags Ordinary = refl
  same_tags Tags = refl
  same_tags (Members n) = refl
  same_tags (Inner n) = refl
  same_tags (Unnamed n) = refl
  same_tags (Labels n) = refl

  pub same_members : (n : ℕ) (s : Space) → is_space (moved_space m s) (members (m n)) ≡ is_space s (members n)
  same_members n Ordinary = refl
  same_members n Tags = refl
  same_members n (Members k) = same_number k n
  same_members n (Inner k) = same_number k n
  same_members n (Unnamed k) = refl
  same_members n (Labels k) = refl

  pub same_labels : (n : ℕ) (s : Space) → is_space (moved_space m s) (labels (m n)) ≡ is_space s (labels n)
  same_labels n Ordinary = refl
  same_labels n Tags = refl
  same_labels n (Members k) = refl
  same_labels n (Inner k) = refl
  same_labels n (Unnamed k) = refl
  same_labels n (Labels k) = same_number k n

  pub named_moved : (space there : Space) (i : ℕ) (d e : Declaration) → is_space (moved_space m d.space) there ≡ is_space d.space space → IsMoved m d e
      → is_named new there (m i) e ≡ is_named old space i d
  named_moved space there i d e same h =
      ap (λ s. is_space s there && alike new (m i) e.name_at) h.space
      ∙ (ap (λ b. b && alike new (m i) e.name_at) same
      ∙ (ap (λ j. is_space d.space space && alike new (m i) j) h.name_at
      ∙ ap (λ b. is_space d.space space && b) (same_spelling i d.name_at)))

  pub number_moved : (t : CType) → number_in (moved_type m t) ≡ m (number_in t)
  number_moved t = by t.base
    where
      by : (b : Base) → base_number (moved_base m b) ≡ m (base_number b)
      by (Structure n) = refl
      by (Union n) = refl
      by (Enumeration n) = refl
      by Arithmetic = sym law.first
      by Nothing = sym law.first
      by Unknown = sym law.first
