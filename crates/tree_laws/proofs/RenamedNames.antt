-- Ordinary names under a renaming: each is declared and used as before.
use Rattle.std.proofs.Common.{ℕ, ◌≡◌, Bool, true, false, ◌&&◌, ◌||◌, not, if◌then◌else◌, ◌==◌, List, Option, None, Some, inl, inr, refl, sym, ap, subst, ◌∙◌}
use Rattle.std.specs.Prelude.{IfSome}
use Rattle.std.specs.Option.{option_map_or}
use Rattle.std.proofs.lemmas.Bool.{cases_Bool, not-false, and_parts, and_from, false≢true}
use Rattle.cs_base.specs.Token.{Token}
use Rattle.cs_base.proofs.BoolLemmas.{if_is as if_true, not_both as true≢false}
use Rattle.c_types.specs.declared.entity.Linkage.{Linkage}
use Rattle.scope_bind.specs.Named.{Declaration, Declared, Scope, undeclared, redeclared, mixed_linkage, ordinary}
use Rattle.c_types.specs.Declarations.{is_space, Facts, has_linkage, is_linkage, is_live, with_fault, with_declaration, alike, is_named, looked_up, visible, in_scope, linked, is_mixed}
use Rattle.c_types.proofs.TokenLemmas.{alike_back as alike_turned}
use Rattle.scope_bind.specs.Ordinary.{is_again, linked_entity, entity_of, is_listed, declaration_of, declared_faults, declared_after, declared, used_as, used}
use Rattle.tree_laws.proofs.Lookups.{StandApart, In, found_passes, found_in, none_passes, any_same, alike_same, named_apart}
use Rattle.tree_laws.proofs.Renaming.{Good, Kept, IsLinked, Joins, fault_back, fault_goes, fault_none, occurrence_back, occurrence_good, declaration_back, declaration_good, kept_declaration, kept_occurrence, stand_apart, found_again}

-- ---- The entity that a declaration is given

again_of : (n : Declared) (d : Declaration) → option_map_or (λ e. not (is_again n e)) (Some d) false ≡ false → is_again n d ≡ true
again_of n d e = not-false (is_again n d) e

again_entity : (b : List Token) (n : Declared) (r l : Option Declaration) → option_map_or (λ e. not (is_again n e)) r false ≡ false
    → alike b n.name_at (entity_of n r l) ≡ true → IfSome r (λ d. alike b n.name_at d.entity ≡ true)
again_entity b n None l e h = tt
again_entity b n (Some d) l e h =
    subst (λ k. alike b n.name_at k ≡ true) (if_true (is_again n d) d.entity (linked_entity n l) (again_of n d e)) h

unlinked_entity : (n : Declared) (l : Option Declaration) → has_linkage n.linkage ≡ false → linked_entity n l ≡ n.name_at
unlinked_entity n None e = refl
unlinked_entity n (Some d) e = ap (λ c. if c then d.entity else n.name_at) e

linked_entity_alike : (b : List Token) (n : Declared) (l : Option Declaration) → has_linkage n.linkage ≡ true → alike b n.name_at (linked_entity n l) ≡ true
    → IfSome l (λ d. alike b n.name_at d.entity ≡ true)
linked_entity_alike b n None e h = tt
linked_entity_alike b n (Some d) e h =
    subst (λ k. alike b n.name_at k ≡ true) (if_true (has_linkage n.linkage) d.entity n.name_at e) h

-- with another way to find a linked declaration, the entity is the same where it counts
entity_same : (n : Declared) (r l m : Option Declaration) → option_map_or (λ e. not (is_again n e)) r false ≡ false
    → (r ≡ None → linked_entity n l ≡ linked_entity n m) → entity_of n r l ≡ entity_of n r m
entity_same n None l m e h = h refl
entity_same n (Some d) l m e h =
    if_true (is_again n d) d.entity (linked_entity n l) (again_of n d e)
    ∙ sym (if_true (is_again n d) d.entity (linked_entity n m) (again_of n d e))

pub relinked : (a : List Token) (i j : ℕ) (e : Declaration) → alike a i j ≡ true → IsLinked a i e → IsLinked a j e
relinked a i j e same l =
    let named : is_named a ordinary i e ≡ true = (and_parts (is_named a ordinary i e) (has_linkage e.linkage) l).0 in
    let spelled : alike a i e.name_at ≡ true = (and_parts (is_space e.space ordinary) (alike a i e.name_at) named).1 in
    let turned : alike a j e.name_at ≡ true = alike_same a j e.name_at i (alike_turned a i j same) (alike_turned a i e.name_at spelled) in
    and_from (is_named a ordinary j e) (has_linkage e.linkage)
    (and_from (is_space e.space ordinary) (alike a j e.name_at) ((and_parts (is_space e.space ordinary) (alike a i e.name_at) named).0) turned)
    ((and_parts (is_named a ordinary i e) (has_linkage e.linkage) l).1)

module _ (a : List Token) (n : Declared) (facts : Facts) (k : Kept a facts) where
  -- a declaration with linkage is of the entity of each one of its spelling that has linkage
  pub joined : (r l : Option Declaration) (test : Declaration → Bool) → looked_up a ordinary n.name_at test facts ≡ r → linked a n.name_at facts ≡ l
      → option_map_or (λ e. not (is_again n e)) r false ≡ false → has_linkage n.linkage ≡ true
      → (e : Declaration) → In e facts.declared → IsLinked a n.name_at e → entity_of n r l ≡ e.entity
  joined None None test er el again hl e within link =
      absurd (true≢false _ link (none_passes (λ d. is_named a ordinary n.name_at d && has_linkage d.linkage) facts.declared e el within))
  joined None (Some d) test er el again hl e within link =
      if_true (has_linkage n.linkage) d.entity n.name_at hl
      ∙ k.one n.name_at d e (found_in (λ d. is_named a ordinary n.name_at d && has_linkage d.linkage) facts.declared d el) within
      (found_passes (λ d. is_named a ordinary n.name_at d && has_linkage d.linkage) facts.declared d el) link
  joined (Some d) l test er el again hl e within link =
      let named : is_named a ordinary n.name_at d ≡ true =
      (and_parts (is_named a ordinary n.name_at d) (test d) (found_passes (λ d. is_named a ordinary n.name_at d && test d) facts.declared d er)).0 in
      let linkage : has_linkage d.linkage ≡ true = sym (if_true (has_linkage n.linkage) (has_linkage d.linkage) _ hl) ∙ again_of n d again in
      if_true (is_again n d) d.entity (linked_entity n l) (again_of n d again)
      ∙ k.one n.name_at d e (found_in (λ d. is_named a ordinary n.name_at d && test d) facts.declared d er) within
      (and_from (is_named a ordinary n.name_at d) (has_linkage d.linkage) named linkage) link

-- ---- Declarations

-- nothing stands against the declaration
pub record IsClear (a b : List Token) (n : Declared) (r : Option Declaration) (facts : Facts) : Type 0 where
  pub before : Good a b facts
  pub listed : (n.listing && not (is_listed n r)) ≡ false
  pub again : option_map_or (λ d. not (is_again n d)) r false ≡ false
  pub unmixed : (has_linkage n.linkage && is_mixed a n.linkage n.name_at facts) ≡ false

module _ (a b : List Token) where
  pub cleared : (n : Declared) (r : Option Declaration) (facts : Facts) → Good a b (declared_faults a n r facts) → IsClear a b n r facts
  cleared n r facts h =
      let mixed : Bool = has_linkage n.linkage && is_mixed a n.linkage n.name_at facts in
      let third : Facts = with_fault mixed mixed_linkage n.name_at facts in
      let again : Bool = option_map_or (λ d. not (is_again n d)) r false in
      let second : Facts = with_fault again redeclared n.name_at third in
      let listed : Bool = n.listing && not (is_listed n r) in
      let h2 : Good a b second = fault_goes a b listed undeclared n.name_at second h in
      let h3 : Good a b third = fault_goes a b again redeclared n.name_at third h2 in
      record {
        before = fault_goes a b mixed mixed_linkage n.name_at facts h3;
        listed = fault_back a b listed undeclared n.name_at second h;
        again = fault_back a b again redeclared n.name_at third h2;
        unmixed = fault_back a b mixed mixed_linkage n.name_at facts h3;
      }

  unmixed_at : (c : Bool) (linkage : Linkage) (i : ℕ) (facts : Facts) → StandApart a b facts.declared → (c && is_mixed a linkage i facts) ≡ false → (c && is_mixed b linkage i facts) ≡ false
  unmixed_at true linkage i facts apart e =
      any_same _ _ facts.declared (named_apart a b facts.declared apart ordinary i (λ d. has_linkage d.linkage && not (is_linkage d.linkage linkage))) e
  unmixed_at false linkage i facts apart e = e

  faults_none : (toks : List Token) (n : Declared) (r : Option Declaration) (facts : Facts) → (n.listing && not (is_listed n r)) ≡ false
      → option_map_or (λ d. not (is_again n d)) r false ≡ false → (has_linkage n.linkage && is_mixed toks n.linkage n.name_at facts) ≡ false
      → declared_faults toks n r facts ≡ facts
  faults_none toks n r facts e f g =
      fault_none (n.listing && not (is_listed n r)) undeclared n.name_at _ e
      ∙ (fault_none (option_map_or (λ d. not (is_again n d)) r false) redeclared n.name_at _ f
      ∙ fault_none (has_linkage n.linkage && is_mixed toks n.linkage n.name_at facts) mixed_linkage n.name_at facts g)

  module _ (scope : Scope) (n : Declared) (facts : Facts) where
    abbrev prior : Option Declaration
    prior = in_scope a ordinary scope.depth n.name_at n.last facts

    abbrev link : Option Declaration
    link = linked a n.name_at facts

    abbrev new_one : Declaration
    new_one = declaration_of scope n (entity_of n prior link) (n.listed || is_listed n prior)

    pub declared_clear : Good a b (declared a scope n facts) → IsClear a b n prior facts
    declared_clear h = cleared n prior facts (declaration_back a b new_one (declared_faults a n prior facts) h)

    entity_good : Good a b (declared a scope n facts) → alike b n.name_at (entity_of n prior link) ≡ true
    entity_good h = declaration_good a b new_one (declared_faults a n prior facts) h

    pub declared_back : Good a b (declared a scope n facts) → Good a b facts
    declared_back h = (declared_clear h).before

    clear_is : IsClear a b n prior facts → declared_faults a n prior facts ≡ facts
    clear_is c = faults_none a n prior facts c.listed c.again c.unmixed

    joins_new : Kept a facts → IsClear a b n prior facts → Joins a new_one facts
    joins_new k c i e within l m =
        let named : alike a i n.name_at ≡ true = (and_parts (alike a i n.name_at) (has_linkage n.linkage) l).0 in
        joined a n facts k prior link (λ d. is_live n.last d && (d.depth == scope.depth)) refl refl c.again
        ((and_parts (alike a i n.name_at) (has_linkage n.linkage) l).1) e within (relinked a i n.name_at e named m)

    pub declared_kept : Kept a facts → Good a b (declared a scope n facts) → Kept a (declared a scope n facts)
    declared_kept k h =
        let c : IsClear a b n prior facts = declared_clear h in
        subst (λ x. Kept a (with_declaration new_one x)) (sym (clear_is c)) (kept_declaration a new_one facts k (λ e. refl) (joins_new k c))

    prior_same : Kept a facts → Good a b (declared a scope n facts) → in_scope b ordinary scope.depth n.name_at n.last facts ≡ prior
    prior_same k h =
        found_again a b facts k (declared_back h) ordinary n.name_at (λ d. is_live n.last d && (d.depth == scope.depth))
        (again_entity b n prior link (declared_clear h).again (entity_good h))

    link_same : Kept a facts → Good a b (declared a scope n facts) → (prior ≡ None) → linked_entity n (linked b n.name_at facts) ≡ linked_entity n link
    link_same k h none = elim (cases_Bool (has_linkage n.linkage)) [
      | inl yes' ↦
          ap (linked_entity n)
          (found_again a b facts k (declared_back h) ordinary n.name_at (λ d. has_linkage d.linkage)
          (linked_entity_alike b n link yes' (subst (λ r. alike b n.name_at (entity_of n r link) ≡ true) none (entity_good h))))
      | inr no' ↦ unlinked_entity n (linked b n.name_at facts) no' ∙ sym (unlinked_entity n link no')
    ]

    pub declared_same : Kept a facts → Good a b (declared a scope n facts) → declared b scope n facts ≡ declared a scope n facts
    declared_same k h =
        let c : IsClear a b n prior facts = declared_clear h in
        let faults : declared_faults b n prior facts ≡ declared_faults a n prior facts =
        faults_none b n prior facts c.listed c.again (unmixed_at (has_linkage n.linkage) n.linkage n.name_at facts (stand_apart a b facts k (declared_back h)) c.unmixed) ∙ sym (clear_is c) in
        ap (λ r. declared_after b scope n r facts) (prior_same k h)
        ∙ (ap (λ e. with_declaration (declaration_of scope n e (n.listed || is_listed n prior)) (declared_faults b n prior facts))
        (entity_same n prior (linked b n.name_at facts) link c.again (link_same k h))
        ∙ ap (with_declaration new_one) faults)

  -- ---- Uses

  pub used_back : (i : ℕ) (r : Option Declaration) (facts : Facts) → Good a b (used_as a i r facts) → Good a b facts
  used_back i None facts h = fault_goes a b true undeclared i facts h
  used_back i (Some d) facts h = occurrence_back a b i d.entity false facts h

  used_entity : (i : ℕ) (r : Option Declaration) (facts : Facts) → Good a b (used_as a i r facts) → IfSome r (λ d. alike b i d.entity ≡ true)
  used_entity i None facts h = tt
  used_entity i (Some d) facts h = occurrence_good a b i d.entity false facts h

  pub used_kept : (i : ℕ) (r : Option Declaration) (facts : Facts) → Kept a facts → Good a b (used_as a i r facts) → Kept a (used_as a i r facts)
  used_kept i None facts k h = absurd (false≢true (sym (fault_back a b true undeclared i facts h)))
  used_kept i (Some d) facts k h = kept_occurrence a i d.entity false facts k

  pub used_visible : (i : ℕ) (facts : Facts) → Kept a facts → Good a b (used a i facts) → visible b ordinary i i facts ≡ visible a ordinary i i facts
  used_visible i facts k h =
      found_again a b facts k (used_back i (visible a ordinary i i facts) facts h) ordinary i (is_live i)
      (used_entity i (visible a ordinary i i facts) facts h)
