-- Objects, functions, parameters and constants under a renaming: their linkage stays (ISO/IEC 9899:1999, 6.2.2).
use Rattle.std.proofs.Common.{ℕ, ◌≡◌, Bool, true, false, ◌&&◌, ◌||◌, not, if◌then◌else◌, ◌==◌, List, Option, None, Some, inl, inr, refl, sym, ap, subst, ◌∙◌}
use Rattle.std.specs.Prelude.{IfSome}
use Rattle.std.proofs.lemmas.Bool.{cases_Bool, and_parts, and_from, false≢true}
use Rattle.cs_base.specs.Token.{Token}
use Rattle.cs_base.proofs.BoolLemmas.{if_false, if_is as if_true}
use Rattle.c99_tree.specs.Tree.{Forest}
use Rattle.c_types.specs.declared.entity.Linkage.{Linkage}
use Rattle.c_types.specs.declared.entity.Linkage.TheVariants.{External, Internal, Absent}
use Rattle.c_types.specs.Types.{CType, is_function}
use Rattle.c_types.specs.Trees.{last_token, declarator_type}
use Rattle.scope_bind.specs.Named.{Declaration, Declared, Frame, ordinary}
use Rattle.c_types.specs.Declarations.{Facts, has_linkage, is_linkage, is_live, alike, is_named, visible, in_scope, linked, is_mixed}
use Rattle.scope_bind.specs.Linkage.{prior_linkage, follows_prior, own_linkage}
use Rattle.scope_bind.specs.Ordinary.{entity_of, declared, declaration_of, is_listed, declared_faults, new_linkage, new_object, with_object, new_parameter, with_parameter}
use Rattle.tree_laws.proofs.Lookups.{StandApart, In, found_passes, found_in, any_none, named_apart}
use Rattle.tree_laws.proofs.Renaming.{Good, Kept, IsLinked, declaration_good, stand_apart, found_again}
use Rattle.tree_laws.proofs.RenamedNames.{joined, IsClear, declared_clear, declared_back, declared_kept, declared_same}

prior_has : (r : Option Declaration) → has_linkage (prior_linkage r) ≡ true
prior_has None = refl
prior_has (Some d) = elim (cases_Bool (has_linkage d.linkage)) [
  | inl h ↦ ap has_linkage (if_true (has_linkage d.linkage) d.linkage External h) ∙ h
  | inr h ↦ ap has_linkage (if_false (has_linkage d.linkage) d.linkage External h)
]

external_is : (l : Linkage) → is_linkage l External ≡ true → l ≡ External
external_is External e = refl
external_is Internal e = absurd (false≢true e)
external_is Absent e = absurd (false≢true e)

not_both : (p q r : Bool) → (p && (q && not r)) ≡ false → p ≡ true → q ≡ true → r ≡ true
not_both true true true e f g = refl
not_both true true false e f g = absurd (false≢true (sym e))
not_both true false r e f g = absurd (false≢true g)
not_both false q r e f g = absurd (false≢true f)

module _ (a b : List Token) where
  -- where no declaration of the spelling has the other linkage, what the new text finds is external too
  external_at : (i last : ℕ) (facts : Facts) → StandApart a b facts.declared → (r : Option Declaration) → visible b ordinary i last facts ≡ r → is_mixed a External i facts ≡ false
      → prior_linkage r ≡ External
  external_at i last facts apart None e unmixed = refl
  external_at i last facts apart (Some q) e unmixed = elim (cases_Bool (has_linkage q.linkage)) [
    | inl h ↦
        let found : (is_named a ordinary i q && is_live last q) ≡ true =
        named_apart a b facts.declared apart ordinary i (is_live last) q (found_in (λ d. is_named b ordinary i d && is_live last d) facts.declared q e)
        (found_passes (λ d. is_named b ordinary i d && is_live last d) facts.declared q e) in
        if_true (has_linkage q.linkage) q.linkage External h
        ∙ external_is q.linkage (not_both (is_named a ordinary i q) (has_linkage q.linkage) (is_linkage q.linkage External)
        (any_none (λ d. is_named a ordinary i d && (has_linkage d.linkage && not (is_linkage d.linkage External))) facts.declared q unmixed
        (found_in (λ d. is_named b ordinary i d && is_live last d) facts.declared q e))
        ((and_parts (is_named a ordinary i q) (is_live last q) found).0) h)
    | inr h ↦ if_false (has_linkage q.linkage) q.linkage External h
  ]

  abbrev EntitiesAlike : ℕ → Facts → Type 0
  EntitiesAlike i facts = (e : Declaration) → In e facts.declared → IsLinked a i e → alike b i e.entity ≡ true

  prior_same : (i last : ℕ) (facts : Facts) → Kept a facts → Good a b facts → EntitiesAlike i facts → (r : Option Declaration)
      → visible a ordinary i last facts ≡ r → is_mixed a (prior_linkage r) i facts ≡ false
      → prior_linkage (visible b ordinary i last facts) ≡ prior_linkage r
  prior_same i last facts k g alike_all None e unmixed = external_at i last facts (stand_apart a b facts k g) (visible b ordinary i last facts) refl unmixed
  prior_same i last facts k g alike_all (Some p) e unmixed = elim (cases_Bool (has_linkage p.linkage)) [
    | inl h ↦
        let named : is_named a ordinary i p ≡ true =
        (and_parts (is_named a ordinary i p) (is_live last p) (found_passes (λ d. is_named a ordinary i d && is_live last d) facts.declared p e)).0 in
        let entity : alike b i p.entity ≡ true =
        alike_all p (found_in (λ d. is_named a ordinary i d && is_live last d) facts.declared p e)
        (and_from (is_named a ordinary i p) (has_linkage p.linkage) named h) in
        let P : Option Declaration → Type 0 = λ o. IfSome o (λ d. alike b i d.entity ≡ true) in
        ap prior_linkage (found_again a b facts k g ordinary i (is_live last) (subst P (sym e) entity) ∙ e)
    | inr h ↦
        let other : prior_linkage (Some p) ≡ External = if_false (has_linkage p.linkage) p.linkage External h in
        external_at i last facts (stand_apart a b facts k g) (visible b ordinary i last facts) refl (ap (λ l. is_mixed a l i facts) (sym other) ∙ unmixed) ∙ sym other
  ]

  module _ (f : Frame) (i last : ℕ) (t : CType) (facts : Facts) where
    abbrev n : Declared
    n = new_object a f i last t facts

    entities : Kept a facts → Good a b (declared a f.scope n facts) → has_linkage n.linkage ≡ true → EntitiesAlike i facts
    entities k h hl e within link =
        let c : IsClear a b n (in_scope a ordinary f.scope.depth i last facts) facts = declared_clear a b f.scope n facts h in
        subst (λ x. alike b i x ≡ true)
        (joined a n facts k (in_scope a ordinary f.scope.depth i last facts) (linked a i facts)
        (λ d. is_live last d && (d.depth == f.scope.depth)) refl refl c.again hl e within link)
        (declaration_good a b
        (declaration_of f.scope n (entity_of n (in_scope a ordinary f.scope.depth i last facts) (linked a i facts))
        (n.listed || is_listed n (in_scope a ordinary f.scope.depth i last facts)))
        (declared_faults a n (in_scope a ordinary f.scope.depth i last facts) facts) h)

    unmixed_prior : Good a b (declared a f.scope n facts) → n.linkage ≡ prior_linkage (visible a ordinary i last facts)
        → is_mixed a (prior_linkage (visible a ordinary i last facts)) i facts ≡ false
    unmixed_prior h e =
        let c : IsClear a b n (in_scope a ordinary f.scope.depth i last facts) facts = declared_clear a b f.scope n facts h in
        let both : (has_linkage (prior_linkage (visible a ordinary i last facts)) && is_mixed a (prior_linkage (visible a ordinary i last facts)) i facts) ≡ false =
        ap (λ l. has_linkage l && is_mixed a l i facts) (sym e) ∙ c.unmixed in
        sym (ap (λ p. p && is_mixed a (prior_linkage (visible a ordinary i last facts)) i facts) (prior_has (visible a ordinary i last facts))) ∙ both

    followed : Kept a facts → Good a b (declared a f.scope n facts) → n.linkage ≡ prior_linkage (visible a ordinary i last facts)
        → prior_linkage (visible b ordinary i last facts) ≡ prior_linkage (visible a ordinary i last facts)
    followed k h e =
        prior_same i last facts k (declared_back a b f.scope n facts h)
        (entities k h (ap has_linkage e ∙ prior_has (visible a ordinary i last facts)))
        (visible a ordinary i last facts) refl (unmixed_prior h e)

    linkage_at : (plain follows : Bool) (own : Linkage)
        → (n.linkage ≡ prior_linkage (visible a ordinary i last facts) → prior_linkage (visible b ordinary i last facts) ≡ prior_linkage (visible a ordinary i last facts))
        → n.linkage ≡ (if plain then Absent else (if follows then prior_linkage (visible a ordinary i last facts) else own))
        → (if plain then Absent else (if follows then prior_linkage (visible b ordinary i last facts) else own))
        ≡ (if plain then Absent else (if follows then prior_linkage (visible a ordinary i last facts) else own))
    linkage_at true follows own h e = refl
    linkage_at false true own h e = h e
    linkage_at false false own h e = refl

    linkage_same : Kept a facts → Good a b (declared a f.scope n facts) → new_linkage b f i last t facts ≡ new_linkage a f i last t facts
    linkage_same k h =
        linkage_at (f.words.has_typedef || f.listing) (follows_prior f.scope.depth (is_function t) f.words) (own_linkage f.scope.depth f.words)
        (followed k h) refl

    pub object_same : Kept a facts → Good a b (declared a f.scope n facts)
        → declared b f.scope (new_object b f i last t facts) facts ≡ declared a f.scope n facts
    object_same k h =
        ap (λ l. declared b f.scope (record n { linkage = l }) facts) (linkage_same k h)
        ∙ declared_same a b f.scope n facts k h

  -- ---- Declarators

  pub with_object_back : (f : Frame) (under : Forest) (name : Option ℕ) (facts : Facts) → Good a b (with_object a f under name facts) → Good a b facts
  with_object_back f under None facts h = h
  with_object_back f under (Some i) facts h =
      declared_back a b f.scope (n f i (last_token under i) (declarator_type f.base under) facts) facts h

  pub with_object_kept : (f : Frame) (under : Forest) (name : Option ℕ) (facts : Facts) → Kept a facts → Good a b (with_object a f under name facts)
      → Kept a (with_object a f under name facts)
  with_object_kept f under None facts k h = k
  with_object_kept f under (Some i) facts k h =
      declared_kept a b f.scope (n f i (last_token under i) (declarator_type f.base under) facts) facts k h

  pub with_object_same : (f : Frame) (under : Forest) (name : Option ℕ) (facts : Facts) → Kept a facts → Good a b (with_object a f under name facts)
      → with_object b f under name facts ≡ with_object a f under name facts
  with_object_same f under None facts k h = refl
  with_object_same f under (Some i) facts k h = object_same f i (last_token under i) (declarator_type f.base under) facts k h

  pub with_parameter_back : (f : Frame) (under : Forest) (name : Option ℕ) (facts : Facts) → Good a b (with_parameter a f under name facts) → Good a b facts
  with_parameter_back f under None facts h = h
  with_parameter_back f under (Some i) facts h =
      declared_back a b f.scope (new_parameter a f i (last_token under i) (declarator_type f.base under)) facts h

  pub with_parameter_kept : (f : Frame) (under : Forest) (name : Option ℕ) (facts : Facts) → Kept a facts → Good a b (with_parameter a f under name facts)
      → Kept a (with_parameter a f under name facts)
  with_parameter_kept f under None facts k h = k
  with_parameter_kept f under (Some i) facts k h =
      declared_kept a b f.scope (new_parameter a f i (last_token under i) (declarator_type f.base under)) facts k h

  pub with_parameter_same : (f : Frame) (under : Forest) (name : Option ℕ) (facts : Facts) → Kept a facts → Good a b (with_parameter a f under name facts)
      → with_parameter b f under name facts ≡ with_parameter a f under name facts
  with_parameter_same f under None facts k h = refl
  with_parameter_same f under (Some i) facts k h =
      declared_same a b f.scope (new_parameter a f i (last_token under i) (declarator_type f.base under)) facts k h
