-- What is true of the facts of a text without a fault, and of its renaming.
use Rattle.std.proofs.Common.{ℕ, ◌≡◌, Bool, true, false, ◌&&◌, List, ◌∷◌, Option, None, Some, ◌⊎◌, inl, inr, refl, sym, ap, subst, ◌∙◌}
use Rattle.std.specs.Prelude.{IfSome}
use Rattle.std.proofs.lemmas.Bool.{and_parts, false≢true}
use Rattle.cs_base.specs.Token.{Token}
use Rattle.scope_bind.specs.Named.{Cause, Space, Declaration, Occurrence, ordinary}
use Rattle.scope_bind.proofs.ScopeLemmas.{fault_some}
use Rattle.c_types.specs.Declarations.{Facts, has_linkage, with_fault, with_occurrence, with_declaration, is_space, alike, is_named, looked_up}
use Rattle.name_chains.specs.Members.{with_silent}
use Rattle.tree_laws.proofs.Unnamed.{is_unnamed, found_named}
use Rattle.tree_laws.specs.RenamedNames.{StaysApart}
use Rattle.tree_laws.proofs.Lookups.{StandApart, In, found_passes, found_in, alike_same, looked_up_same}

abbrev pub occurrence : ℕ → ℕ → Bool → Occurrence
occurrence index entity declares = record { index = index; entity = entity; declares = declares }

-- the name of the declaration is noted with its entity, as what declares it or as a use
abbrev pub IsNoted : Declaration → List Occurrence → Type 0
IsNoted d os = In (occurrence d.name_at d.entity true) os ⊎ In (occurrence d.name_at d.entity false) os

pub noted_more : (d : Declaration) (o : Occurrence) (os : List Occurrence) → IsNoted d os → IsNoted d (o ∷ os)
noted_more d o os (inl w) = inl (inr w)
noted_more d o os (inr w) = inr (inr w)

-- what is so of each name that is noted is so of it
pub noted_so : (d : Declaration) (os : List Occurrence) (Q : ℕ → ℕ → Type 0) → ((o : Occurrence) → In o os → Q o.index o.entity) → IsNoted d os
    → Q d.name_at d.entity
noted_so d os Q all (inl w) = all (occurrence d.name_at d.entity true) w
noted_so d os Q all (inr w) = all (occurrence d.name_at d.entity false) w

-- nothing is wrong, each name is spelled as its entity in the new text, and no other token gets its spelling
pub record Good (a b : List Token) (facts : Facts) : Type 0 where
  pub clean : facts.fault ≡ None
  pub good : (o : Occurrence) → In o facts.occurrences → alike b o.index o.entity ≡ true
  pub apart : (o : Occurrence) → In o facts.occurrences → StaysApart a b o.index

-- a declaration that has linkage, named as token i
abbrev pub IsLinked : List Token → ℕ → Declaration → Type 0
IsLinked a i d = (is_named a ordinary i d && has_linkage d.linkage) ≡ true

-- a declaration that has linkage is one of an ordinary identifier (6.2.2 paragraph 6, 6.2.3)
abbrev pub IsOrdinary : Declaration → Type 0
IsOrdinary d = has_linkage d.linkage ≡ true → is_space d.space ordinary ≡ true

pub unlinked_ordinary : (d : Declaration) → has_linkage d.linkage ≡ false → IsOrdinary d
unlinked_ordinary d e h = absurd (false≢true (sym e ∙ h))

-- each declaration that has a name is an occurrence, one that has linkage is one of an ordinary identifier, and those of
-- one spelling that have linkage are one entity
pub record Kept (a : List Token) (facts : Facts) : Type 0 where
  pub covered : (d : Declaration) → In d facts.declared → is_unnamed d.space ≡ false → IsNoted d facts.occurrences
  pub linked : (d : Declaration) → In d facts.declared → IsOrdinary d
  pub one : (i : ℕ) (d e : Declaration) → In d facts.declared → In e facts.declared → IsLinked a i d → IsLinked a i e → d.entity ≡ e.entity

-- ---- Faults

module _ (a b : List Token) where
  pub fault_back : (c : Bool) (cause : Cause) (i : ℕ) (facts : Facts) → Good a b (with_fault c cause i facts) → c ≡ false
  fault_back true cause i facts h = absurd (fault_some facts.fault _ h.clean)
  fault_back false cause i facts h = refl

  pub fault_goes : (c : Bool) (cause : Cause) (i : ℕ) (facts : Facts) → Good a b (with_fault c cause i facts) → Good a b facts
  fault_goes true cause i facts h = absurd (fault_some facts.fault _ h.clean)
  fault_goes false cause i facts h = h

  pub occurrence_back : (i e : ℕ) (d : Bool) (facts : Facts) → Good a b (with_occurrence i e d facts) → Good a b facts
  occurrence_back i e d facts h = record { clean = h.clean; good = λ o within. h.good o (inr within); apart = λ o within. h.apart o (inr within) }

  pub occurrence_good : (i e : ℕ) (d : Bool) (facts : Facts) → Good a b (with_occurrence i e d facts) → alike b i e ≡ true
  occurrence_good i e d facts h = h.good (occurrence i e d) (inl refl)

  pub declaration_back : (d : Declaration) (facts : Facts) → Good a b (with_declaration d facts) → Good a b facts
  declaration_back d facts h = record { clean = h.clean; good = λ o within. h.good o (inr within); apart = λ o within. h.apart o (inr within) }

  pub declaration_good : (d : Declaration) (facts : Facts) → Good a b (with_declaration d facts) → alike b d.name_at d.entity ≡ true
  declaration_good d facts h = h.good (occurrence d.name_at d.entity true) (inl refl)

pub fault_none : (c : Bool) (cause : Cause) (i : ℕ) (facts : Facts) → c ≡ false → with_fault c cause i facts ≡ facts
fault_none true cause i facts e = absurd (false≢true (sym e))
fault_none false cause i facts e = refl

-- ---- What is kept

module _ (a : List Token) where
  pub kept_occurrence : (i e : ℕ) (d : Bool) (facts : Facts) → Kept a facts → Kept a (with_occurrence i e d facts)
  kept_occurrence i e d facts k = record { covered = λ x within u. noted_more x (occurrence i e d) facts.occurrences (k.covered x within u); linked = k.linked; one = k.one }

  covered_step : (d x : Declaration) (facts : Facts) → Kept a facts → In x (d ∷ facts.declared) → is_unnamed x.space ≡ false
      → IsNoted x (occurrence d.name_at d.entity true ∷ facts.occurrences)
  covered_step d x facts k (inl same) u = inl (inl (ap (λ y. occurrence y.name_at y.entity true) same))
  covered_step d x facts k (inr within) u = noted_more x (occurrence d.name_at d.entity true) facts.occurrences (k.covered x within u)

  linked_step : (d x : Declaration) (facts : Facts) → Kept a facts → IsOrdinary d → In x (d ∷ facts.declared) → IsOrdinary x
  linked_step d x facts k is (inl same) = subst IsOrdinary same is
  linked_step d x facts k is (inr within) = k.linked x within

  -- the new declaration is of the entity of each one of its spelling that has linkage
  abbrev pub Joins : Declaration → Facts → Type 0
  Joins d facts = (i : ℕ) (e : Declaration) → In e facts.declared → IsLinked a i d → IsLinked a i e → d.entity ≡ e.entity

  one_step : (n : Declaration) (facts : Facts) → Kept a facts → Joins n facts → (i : ℕ) (d e : Declaration)
      → In d (n ∷ facts.declared) → In e (n ∷ facts.declared) → IsLinked a i d → IsLinked a i e → d.entity ≡ e.entity
  one_step n facts k joins i d e (inl s) (inl t) x y = sym (ap (λ z. z.entity) s) ∙ ap (λ z. z.entity) t
  one_step n facts k joins i d e (inl s) (inr v) x y =
      sym (ap (λ z. z.entity) s) ∙ joins i e v (subst (λ z. IsLinked a i z) (sym s) x) y
  one_step n facts k joins i d e (inr u) (inl t) x y =
      sym (joins i d u (subst (λ z. IsLinked a i z) (sym t) y) x) ∙ ap (λ z. z.entity) t
  one_step n facts k joins i d e (inr u) (inr v) x y = k.one i d e u v x y

  pub kept_declaration : (d : Declaration) (facts : Facts) → Kept a facts → IsOrdinary d → Joins d facts → Kept a (with_declaration d facts)
  kept_declaration d facts k is joins = record {
    covered = λ x within u. covered_step d x facts k within u;
    linked = λ x within. linked_step d x facts k is within;
    one = one_step d facts k joins;
  }

  silent_step : (d x : Declaration) (facts : Facts) → Kept a facts → (is_unnamed d.space ≡ false → IsNoted d facts.occurrences)
      → In x (d ∷ facts.declared) → is_unnamed x.space ≡ false → IsNoted x facts.occurrences
  silent_step d x facts k h (inl same) u =
      subst (λ (y : Declaration). is_unnamed y.space ≡ false → IsNoted y facts.occurrences) same h u
  silent_step d x facts k h (inr within) u = k.covered x within u

  -- one that no token of its own declares
  pub kept_silent : (d : Declaration) (facts : Facts) → Kept a facts → (is_unnamed d.space ≡ false → IsNoted d facts.occurrences)
      → IsOrdinary d → Joins d facts → Kept a (with_silent d facts)
  kept_silent d facts k h is joins = record {
    covered = λ x within u. silent_step d x facts k h within u;
    linked = λ x within. linked_step d x facts k is within;
    one = one_step d facts k joins;
  }

  -- a declaration without linkage joins all
  pub joins_unlinked : (d : Declaration) (facts : Facts) → has_linkage d.linkage ≡ false → Joins d facts
  joins_unlinked d facts e i x within l m =
      absurd (false≢true (sym e ∙ (and_parts (is_named a ordinary i d) (has_linkage d.linkage) l).1))

-- ---- Look-ups

module _ (a b : List Token) where
  -- no token gets the spelling of a declared name that it had not
  pub stand_apart : (facts : Facts) → Kept a facts → Good a b facts → StandApart a b facts.declared
  stand_apart facts k g = λ d within named. noted_so d facts.occurrences (λ i e. StaysApart a b i) g.apart (k.covered d within named)

  name_alike : (facts : Facts) → Kept a facts → Good a b facts → (i : ℕ) (d : Declaration) → In d facts.declared → is_unnamed d.space ≡ false → alike b i d.entity ≡ true
      → alike b i d.name_at ≡ true
  name_alike facts k g i d within u e =
      alike_same b i d.name_at d.entity e (noted_so d facts.occurrences (λ j f. alike b j f ≡ true) g.good (k.covered d within u))

  names_alike : (facts : Facts) → Kept a facts → Good a b facts → (space : Space) (i : ℕ) (test : Declaration → Bool) (r : Option Declaration)
      → looked_up a space i test facts ≡ r → IfSome r (λ d. alike b i d.entity ≡ true) → IfSome r (λ d. alike b i d.name_at ≡ true)
  names_alike facts k g space i test None e h = tt
  names_alike facts k g space i test (Some d) e h =
      let passes : (is_named a space i d && test d) ≡ true = found_passes (λ d. is_named a space i d && test d) facts.declared d e in
      name_alike facts k g i d (found_in (λ d. is_named a space i d && test d) facts.declared d e)
      (found_named d.space space ((and_parts (is_space d.space space) (alike a i d.name_at) ((and_parts (is_named a space i d) (test d) passes).0)).0)) h

  -- a name is found again where its entity is spelled as it
  pub found_again : (facts : Facts) → Kept a facts → Good a b facts → (space : Space) (i : ℕ) (test : Declaration → Bool)
      → IfSome (looked_up a space i test facts) (λ d. alike b i d.entity ≡ true) → looked_up b space i test facts ≡ looked_up a space i test facts
  found_again facts k g space i test h =
      looked_up_same a b space i test facts (looked_up a space i test facts) (stand_apart facts k g) refl
      (names_alike facts k g space i test (looked_up a space i test facts) refl h)
