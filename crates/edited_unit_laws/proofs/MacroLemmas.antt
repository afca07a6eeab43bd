-- Macros that are kept over the edited files stay so behind a definition and behind an `undef` line.
use Rattle.std.proofs.Common.{◌≡◌, ℕ, true, false, List, Some, refl, ap, sym, subst, ◌∙◌, inl, inr}
use Rattle.std.specs.Str.{bytes_eq}
use Rattle.std.proofs.lemmas.Bool.{cases_Bool}
use Rattle.std.proofs.lemmas.Option.{none-some, same_Some}
use Rattle.cs_base.specs.Token.{Token}
use Rattle.line_shape.specs.Signs.{is_name}
use Rattle.macro_body.specs.declared.definitions.Definition.{Definition}
use Rattle.macro_body.specs.Live.{with_macro, without_macro}
use Rattle.macro_body.specs.Macro.{Table as Macros}
use Rattle.macro_expand.specs.Renaming.{spelled, renamed_macro, occurs, KeepsBody, Keeps}
use Rattle.cs_base.proofs.FileMapLemmas.{bytes_eq-equal}
use Rattle.cs_base.proofs.ListLemmas.{spelled_same as alike}
use Rattle.edited_unit_laws.specs.Keeping.{Change, KeepsNames}
use Rattle.edited_unit_laws.specs.Steps.{IsTaken}

-- two texts are no one text where that is absurd
unlike : (a b : List ℕ) → (a ≡ b → ⊥) → bytes_eq a b ≡ false
unlike a b differ = elim (cases_Bool (bytes_eq a b)) [
  | inl same ↦ absurd (differ (bytes_eq-equal a b same))
  | inr other ↦ other
]

module _ (c : Change) (names : KeepsNames c) (old new : Macros) (keeps : Keeps c.occurring c.renaming old new) where
  -- the macro of another name is not that of a name that is taken
  apart-from : (t : Token) → IsTaken c t → (name : List ℕ) (d : Definition) → old name ≡ Some d → spelled c.renaming t ≡ c.renaming.macro_name name → t.text ≡ name
  apart-from t h name d at e = keeps.spelled_like t name d h.occurs h.named at e

  -- ---- a definition (6.10.3)

  module _ (m : Definition) (taken : IsTaken c m.name) (body : KeepsBody c.occurring c.renaming m m.body) where
    stands-defined : (name : List ℕ) (d : Definition) → with_macro m old name ≡ Some d
        → with_macro (renamed_macro c.renaming m) new (c.renaming.macro_name name) ≡ Some (renamed_macro c.renaming d)
    stands-defined name d e = elim (cases_Bool (bytes_eq name m.name.text)) [
      | inl same ↦
          let is : m ≡ d = same_Some m d (rw same at e) in
          let anew : bytes_eq (c.renaming.macro_name name) (spelled c.renaming m.name) ≡ true =
          alike (c.renaming.macro_name name) (spelled c.renaming m.name) (ap c.renaming.macro_name (bytes_eq-equal name m.name.text same) ∙ sym taken.keeps) in
          rw anew (ap (λ (x : Definition). Some (renamed_macro c.renaming x)) is)
      | inr other ↦
          let at : old name ≡ Some d = rw other at e in
          let anew : bytes_eq (c.renaming.macro_name name) (spelled c.renaming m.name) ≡ false =
          unlike (c.renaming.macro_name name) (spelled c.renaming m.name)
          (λ k. let wrong : bytes_eq name m.name.text ≡ true = alike name m.name.text (sym (apart-from m.name taken name d at (sym k))) in absurd (cc)) in
          rw anew (keeps.stands name d at)
    ]

    defined-before : (before : List ℕ) (d : Definition) → old before ≡ Some d → (e : Definition) × (with_macro m old before ≡ Some e)
    defined-before before d at = elim (cases_Bool (bytes_eq before m.name.text)) [
      | inl same ↦ (m, rw same refl)
      | inr other ↦ (d, rw other at)
    ]

    no_other-defined : (name : List ℕ) (d : Definition) → with_macro (renamed_macro c.renaming m) new name ≡ Some d
        → (before : List ℕ) × (e : Definition) × (with_macro m old before ≡ Some e) × (name ≡ c.renaming.macro_name before)
    no_other-defined name d e = elim (cases_Bool (bytes_eq name (spelled c.renaming m.name))) [
      | inl same ↦ (m.name.text, m, rw (alike m.name.text m.name.text refl) refl, bytes_eq-equal name (spelled c.renaming m.name) same ∙ taken.keeps)
      | inr other ↦
          let k = keeps.no_other name d (rw other at e) in
          let there = defined-before k.0 k.1 k.2 in
          (k.0, there.0, there.1, k.3)
    ]

    apart-defined : (x y : List ℕ) (a b : Definition) → with_macro m old x ≡ Some a → with_macro m old y ≡ Some b → c.renaming.macro_name x ≡ c.renaming.macro_name y → x ≡ y
    apart-defined x y a b ex ey e = elim (cases_Bool (bytes_eq x m.name.text)) [
      | inl xm ↦ elim (cases_Bool (bytes_eq y m.name.text)) [
        | inl ym ↦ bytes_eq-equal x m.name.text xm ∙ sym (bytes_eq-equal y m.name.text ym)
        | inr yo ↦
            bytes_eq-equal x m.name.text xm
            ∙ apart-from m.name taken y b (rw yo at ey) (taken.keeps ∙ ap c.renaming.macro_name (sym (bytes_eq-equal x m.name.text xm)) ∙ e)
      ]
      | inr xo ↦ elim (cases_Bool (bytes_eq y m.name.text)) [
        | inl ym ↦
            sym (apart-from m.name taken x a (rw xo at ex) (taken.keeps ∙ ap c.renaming.macro_name (sym (bytes_eq-equal y m.name.text ym)) ∙ sym e))
            ∙ sym (bytes_eq-equal y m.name.text ym)
        | inr yo ↦ keeps.apart x y a b (rw xo at ex) (rw yo at ey) e
      ]
    ]

    like-defined : (t : Token) (name : List ℕ) (d : Definition) → occurs c.occurring t ≡ true → is_name t ≡ true → with_macro m old name ≡ Some d
        → spelled c.renaming t ≡ c.renaming.macro_name name → t.text ≡ name
    like-defined t name d here named e k = elim (cases_Bool (bytes_eq name m.name.text)) [
      | inl same ↦
          names.apart t m.name here taken.occurs named taken.named (k ∙ ap c.renaming.macro_name (bytes_eq-equal name m.name.text same) ∙ sym taken.keeps)
          ∙ sym (bytes_eq-equal name m.name.text same)
      | inr other ↦ keeps.spelled_like t name d here named (rw other at e) k
    ]

    body-defined : (name : List ℕ) (d : Definition) → with_macro m old name ≡ Some d → KeepsBody c.occurring c.renaming d d.body
    body-defined name d e = elim (cases_Bool (bytes_eq name m.name.text)) [
      | inl same ↦ subst (λ (x : Definition). KeepsBody c.occurring c.renaming x x.body) (same_Some m d (rw same at e)) body
      | inr other ↦ keeps.body name d (rw other at e)
    ]

    pub keeps-defined : Keeps c.occurring c.renaming (with_macro m old) (with_macro (renamed_macro c.renaming m) new)
    keeps-defined = record {
      stands = stands-defined;
      no_other = no_other-defined;
      apart = apart-defined;
      spelled_like = like-defined;
      body = body-defined;
      signs = keeps.signs;
      others = keeps.others;
      untraced = keeps.untraced;
      numbers = keeps.numbers;
    }

  -- ---- a name that is taken away (6.10.3.5 paragraph 2)

  module _ (gone : Token) (taken : IsTaken c gone) where
    left-name : (name : List ℕ) (d : Definition) → without_macro gone.text old name ≡ Some d → (bytes_eq name gone.text ≡ false) × (old name ≡ Some d)
    left-name name d e = elim (cases_Bool (bytes_eq name gone.text)) [
      | inl same ↦ absurd (none-some d (rw same at e))
      | inr other ↦ (other, rw other at e)
    ]

    stands-left : (name : List ℕ) (d : Definition) → without_macro gone.text old name ≡ Some d
        → without_macro (spelled c.renaming gone) new (c.renaming.macro_name name) ≡ Some (renamed_macro c.renaming d)
    stands-left name d e =
        let at = left-name name d e in
        let anew : bytes_eq (c.renaming.macro_name name) (spelled c.renaming gone) ≡ false =
        unlike (c.renaming.macro_name name) (spelled c.renaming gone)
        (λ k. let wrong : bytes_eq name gone.text ≡ true = alike name gone.text (sym (apart-from gone taken name d at.1 (sym k))) in absurd (cc)) in
        rw anew (keeps.stands name d at.1)

    no_other-left : (name : List ℕ) (d : Definition) → without_macro (spelled c.renaming gone) new name ≡ Some d
        → (before : List ℕ) × (e : Definition) × (without_macro gone.text old before ≡ Some e) × (name ≡ c.renaming.macro_name before)
    no_other-left name d e = elim (cases_Bool (bytes_eq name (spelled c.renaming gone))) [
      | inl same ↦ absurd (none-some d (rw same at e))
      | inr other ↦
          let k = keeps.no_other name d (rw other at e) in
          let stays : bytes_eq k.0 gone.text ≡ false =
          unlike k.0 gone.text
          (λ same. let wrong : bytes_eq name (spelled c.renaming gone) ≡ true = alike name (spelled c.renaming gone) (k.3 ∙ ap c.renaming.macro_name same ∙ sym taken.keeps) in absurd (cc)) in
          (k.0, k.1, rw stays k.2, k.3)
    ]

    pub keeps-left : Keeps c.occurring c.renaming (without_macro gone.text old) (without_macro (spelled c.renaming gone) new)
    keeps-left = record {
      stands = stands-left;
      no_other = no_other-left;
      apart = λ x y a b ex ey e. keeps.apart x y a b (left-name x a ex).1 (left-name y b ey).1 e;
      spelled_like = λ t name d here named e k. keeps.spelled_like t name d here named (left-name name d e).1 k;
      body = λ name d e. keeps.body name d (left-name name d e).1;
      signs = keeps.signs;
      others = keeps.others;
      untraced = keeps.untraced;
      numbers = keeps.numbers;
    }

-- a fact of the macros that stays behind both
pub all-defined : (P : Definition → Type 0) (old : Macros) (m : Definition) → P m → ((name : List ℕ) (d : Definition) → old name ≡ Some d → P d)
    → (name : List ℕ) (d : Definition) → with_macro m old name ≡ Some d → P d
all-defined P old m here h name d e = elim (cases_Bool (bytes_eq name m.name.text)) [
  | inl same ↦ subst P (same_Some m d (rw same at e)) here
  | inr other ↦ h name d (rw other at e)
]

pub all-left : (P : Definition → Type 0) (old : Macros) (gone : List ℕ) → ((name : List ℕ) (d : Definition) → old name ≡ Some d → P d)
    → (name : List ℕ) (d : Definition) → without_macro gone old name ≡ Some d → P d
all-left P old gone h name d e = elim (cases_Bool (bytes_eq name gone)) [
  | inl same ↦ absurd (none-some d (rw same at e))
  | inr other ↦ h name d (rw other at e)
]
