-- The table of first tokens: what one token more makes of it, and the links that it gives.
use Rattle.std.proofs.Common.{ℕ, Bor, Bool, true, false, ◌&&◌, cond, List, [], ◌∷◌, ◌++◌, Option, None, Some, ◌≡◌, refl, sym, ap, subst, ◌∙◌, inl, inr}
use Rattle.std.specs.List.{flat_map}
use Rattle.std.specs.Option.{option_or, option_copied}
use Rattle.std.specs.Str.{bytes_eq}
use Rattle.std.specs.Cmp.Lexicographic.{bytes_decides, nat_list_eq_equiv}
use Rattle.std.proofs.lemmas.Bool.{cases_Bool}
use Rattle.std.proofs.lemmas.List.Folds.{find-append}
use Rattle.cs_base.specs.Token.{Token}
use Rattle.cs_base.proofs.OptionLemmas.{option_or-None}
use Rattle.linkage_join.specs.Linkage.{UnitValue, first_spelled, names_of, link_to, unit_links}
use Rattle.linkage_join.specs.Firsts.{Table, with_names, table_links}

option_or-assoc : {X : Type 0} (a b c : Option X) → option_or a (option_or b c) ≡ option_or (option_or a b) c
option_or-assoc None b c = refl
option_or-assoc (Some x) b c = refl

-- tokens go in one after another
pub with_names-push : (own : List ℕ) (toks : List Token) (t : Token) (table : Table) (project text : List ℕ)
    → with_names own (t ∷ []) (with_names own toks table) project text ≡ with_names own (toks ++ t ∷ []) table project text
with_names-push own toks t table project text = elim (cases_Bool (bytes_eq project own)) [
  | inl same ↦ rw same (sym (option_or-assoc (table project text) _ _)
      ∙ ap (option_or (table project text)) (sym (find-append (λ (v : Token). bytes_eq text v.text) toks (t ∷ []))))
  | inr other ↦ rw other (option_or-None _)
]

module _ (old new : Table) (own spelling : List ℕ) (t : Token) (spelled_so : spelling ≡ t.text) (absent : old own t.text ≡ None)
    (put : (project text : List ℕ) → new project text ≡ cond (bytes_eq own project && bytes_eq spelling text) (Some t) (old project text)) where
  put_text : (project text : List ℕ) → new project text ≡ cond (bytes_eq own project && bytes_eq t.text text) (Some t) (old project text)
  put_text project text =
      let P : List ℕ → Type 0 = λ s. new project text ≡ cond (bytes_eq own project && bytes_eq s text) (Some t) (old project text) in
      subst P spelled_so (put project text)

  at_key : (project text : List ℕ) → own ≡ project → t.text ≡ text → new project text ≡ with_names own (t ∷ []) old project text
  at_key project text same spelled =
      let P : List ℕ → Type 0 = λ p. new p t.text ≡ with_names own (t ∷ []) old p t.text in
      let Q : List ℕ → Type 0 = λ s. new project s ≡ with_names own (t ∷ []) old project s in
      subst Q spelled (subst P same (put_text own t.text ∙ rw (absent, nat_list_eq_equiv.refl own, nat_list_eq_equiv.refl t.text) refl))

  -- a token whose spelling had none
  pub with_names-put : (project text : List ℕ) → new project text ≡ with_names own (t ∷ []) old project text
  with_names-put project text = elim (cases_Bool (bytes_eq own project)) [
    | inl same ↦ elim (cases_Bool (bytes_eq t.text text)) [
      | inl spelled ↦ at_key project text ((bytes_decides own project).0 same) ((bytes_decides t.text text).0 spelled)
      | inr apart ↦ put_text project text ∙ rw (nat_list_eq_equiv.symm project own, nat_list_eq_equiv.symm text t.text, same, apart) (sym (option_or-None (old project text)))
    ]
    | inr other ↦ put_text project text ∙ rw (nat_list_eq_equiv.symm project own, other) (sym (option_or-None (old project text)))
  ]

flat_map-pointwise : {X Y : Type 0} (f g : X → List Y) (same : (x : X) → f x ≡ g x) (xs : List X) → flat_map f xs ≡ flat_map g xs
flat_map-pointwise f g same [] = refl
flat_map-pointwise f g same (x ∷ xs) = rw (same x) (ap (λ ys. g x ++ ys) (flat_map-pointwise f g same xs))

-- a table of the first tokens of all units before gives the links of a unit
pub table_links-unit : (table : Table) (units : List UnitValue) (u : UnitValue)
    → ((project text : List ℕ) → table project text ≡ first_spelled text (names_of project units))
    → table_links table u.project u.names ≡ unit_links units u
table_links-unit table units u firsts =
    flat_map-pointwise _ _ (λ (t : Token). ap (λ (first : Option Token). link_to first t) (firsts u.project t.text)) u.names

pub option_copied-cond : {X : Type 0} (test : Bool) (x : Bor X) (o : Option (Bor X))
    → option_copied (cond test (Some x) o) ≡ cond test (Some x.now) (option_copied o)
option_copied-cond true x o = refl
option_copied-cond false x o = refl
