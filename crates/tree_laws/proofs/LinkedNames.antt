-- In one unit an identifier that has linkage denotes one entity.
use Rattle.std.proofs.Common.{ℕ, ◌≤◌, ◌≡◌, true, ◌==◌, if◌then◌else◌, List, [], ◌∷◌, length, map, Option, None, Some, inl, inr, refl, sym, ap, subst, ◌∙◌}
use Rattle.std.specs.Prelude.{find}
use Rattle.std.specs.Option.{option_map, option_map_or, option_and_then}
use Rattle.std.proofs.lemmas.Bool.{cases_Bool, eqb-true, and_from, false≢true}
use Rattle.std.proofs.lemmas.List.{reverse-reverse}
use Rattle.std.proofs.lemmas.Option.{same_Some}
use Rattle.std.proofs.lemmas.Slice.Eq.{bytes_eq-Decides}
use Rattle.cs_base.specs.Token.{Token}
use Rattle.cs_base.proofs.BoolLemmas.{if_false, if_is as if_true}
use Rattle.c99_tree.specs.Tree.{Node}
use Rattle.c_types.specs.declared.entity.Linkage.TheVariants.{Absent}
use Rattle.scope_bind.specs.Named.{Occurrence, Declaration, ordinary}
use Rattle.c_types.specs.Declarations.{Facts, is_space, has_linkage, spelling_at, alike, is_named}
use Rattle.name_chains.specs.Frames.{at_first}
use Rattle.scope_bind.specs.Walk.{walked}
use Rattle.scope_bind.specs.Bound.{Bound, declaration_at, name_of, names_of, facts_of, binding_of}
use Rattle.scope_bind.specs.Names.{name_at, entity_at, linkage_at}
use Rattle.scope_bind.specs.declared.bound.Name.{Name}
use Rattle.tree_laws.specs.BoundNames.{Binds, OneLinkedName}
use Rattle.tree_laws.proofs.Unnamed.{found_named}
use Rattle.tree_laws.proofs.Lookups.{In, found_in, found_passes}
use Rattle.tree_laws.proofs.Renaming.{noted_so, Good, Kept, IsLinked}
use Rattle.tree_laws.proofs.RenamedWalk.{no_fault, Follows, walked_same}
use Rattle.tree_laws.proofs.InLists.{In as Among}
use Rattle.tree_laws.proofs.HeldNames.{Has, binding_is, occurrences_alike}
use Rattle.tree_laws.proofs.Adding.{count_in}
use Rattle.tree_laws.proofs.EntityNames.{has_in, entity_is}
use Rattle.tree_laws.proofs.OrderedNames.{facts_once}

-- two ways to say that an element is in a list
pub among_in : {X : Type 0} (x : X) (xs : List X) → In x xs → Among x xs
among_in x [] w = w
among_in x (y ∷ ys) (inl same) = inl same
among_in x (y ∷ ys) (inr w) = inr (among_in x ys w)

module _ (facts : Facts) where
  -- the token names an entity that has linkage, and this declaration is the one that it is the name of
  record IsDeclared (k : ℕ) : Type 0 where
    pub of : Declaration
    pub among : In of facts.declared
    pub at : of.name_at ≡ k
    pub links : has_linkage of.linkage ≡ true
    pub own : entity_at (names_of facts) k ≡ Some k

  -- a name has the linkage of the first declaration of its entity
  linkage_found : (k : ℕ) (os : List Occurrence) (n : Name) → find (λ (m : Name). m.index == k) (map (name_of facts) os) ≡ Some n
      → n.linkage ≡ option_map_or (λ (d : Declaration). d.linkage) (declaration_at facts n.entity) Absent
  linkage_found k [] n e = absurd cc
  linkage_found k (o ∷ os) n e = elim (cases_Bool (o.index == k)) [
    | inl here ↦
        let same : name_of facts o ≡ n = same_Some (name_of facts o) n (rw here at e) in
        subst (λ (m : Name). m.linkage ≡ option_map_or (λ (d : Declaration). d.linkage) (declaration_at facts m.entity) Absent) same refl
    | inr other ↦ linkage_found k os n (rw other at e)
  ]

  by_declaration : (k : ℕ) (r : Option Declaration) → declaration_at facts k ≡ r → entity_at (names_of facts) k ≡ Some k
      → has_linkage (option_map_or (λ (d : Declaration). d.linkage) r Absent) ≡ true → IsDeclared k
  by_declaration k None is own h = absurd (false≢true h)
  by_declaration k (Some d) is own h = record {
    of = d;
    among = found_in (λ (x : Declaration). x.name_at == k) facts.declared d is;
    at = eqb-true d.name_at k (found_passes (λ (x : Declaration). x.name_at == k) facts.declared d is);
    links = h;
    own = own;
  }

  by_name : (k : ℕ) (r : Option Name) → name_at (names_of facts) k ≡ r
      → has_linkage (option_map_or (λ (n : Name). n.linkage) (option_and_then (λ (n : Name). if n.entity == k then Some n else None) r) Absent) ≡ true → IsDeclared k
  by_name k None is h = absurd (false≢true h)
  by_name k (Some n) is h = elim (cases_Bool (n.entity == k)) [
    | inl own ↦
        let entity : n.entity ≡ k = eqb-true n.entity k own in
        let links : has_linkage n.linkage ≡ true =
        sym (ap (λ (o : Option Name). has_linkage (option_map_or (λ (m : Name). m.linkage) o Absent)) (if_true (n.entity == k) (Some n) None own)) ∙ h in
        let found : find (λ (m : Name). m.index == k) (map (name_of facts) facts.occurrences) ≡ Some n =
        sym (ap (find (λ (m : Name). m.index == k)) (reverse-reverse (map (name_of facts) facts.occurrences))) ∙ is in
        let first : n.linkage ≡ option_map_or (λ (d : Declaration). d.linkage) (declaration_at facts k) Absent =
        linkage_found k facts.occurrences n found ∙ ap (λ (e : ℕ). option_map_or (λ (d : Declaration). d.linkage) (declaration_at facts e) Absent) entity in
        by_declaration k (declaration_at facts k) refl (ap (option_map (λ (m : Name). m.entity)) is ∙ ap (λ (e : ℕ). Some e) entity)
        (sym (ap has_linkage first) ∙ links)
    | inr other ↦
        absurd (false≢true (sym (ap (λ (o : Option Name). has_linkage (option_map_or (λ (m : Name). m.linkage) o Absent)) (if_false (n.entity == k) (Some n) None other)) ∙ h))
  ]

  is_declared : (k : ℕ) → has_linkage (linkage_at (names_of facts) k) ≡ true → IsDeclared k
  is_declared k h = by_name k (name_at (names_of facts) k) refl h

-- ---- the whole text

-- what is kept of a text that is bound
all_kept : (toks : List Token) (tree : Node) (b : Bound) → Binds toks tree b → Kept toks (facts_of toks tree.under)
unfolding binding_of
all_kept toks tree b e =
    let facts : Facts = facts_of toks tree.under in
    let clean : facts.fault ≡ None = no_fault tree.under facts facts.fault b e in
    let good : Good toks toks facts = record {
      clean = clean;
      good = λ o w. occurrences_alike toks tree o (among_in o facts.occurrences w);
      apart = λ o w i same. same;
    } in
    let start : Kept toks (at_first (length toks)).facts = record { covered = λ d w u. absurd w; linked = λ d w. absurd w; one = λ i d x v w l m. absurd v } in
    let follows : Follows toks toks (λ word k h. refl) (walked toks tree.under (at_first (length toks))) (walked toks tree.under (at_first (length toks))) =
    walked_same toks toks (λ word k h. refl) tree.under (at_first (length toks)) start good in
    follows.kept

module _ (toks : List Token) (facts : Facts) (once : (t : ℕ) → count_in t facts.occurrences ≤ 1) (kept : Kept toks facts) where
  -- the declaration that the token is the name of is the first of its entity
  of_itself : (k : ℕ) → (d : IsDeclared facts k) → d.of.entity ≡ k
  of_itself k d =
      let noted : entity_at (names_of facts) d.of.name_at ≡ Some d.of.entity =
      entity_is facts d.of.name_at d.of.entity (once d.of.name_at)
      (noted_so d.of facts.occurrences (λ i e. Has i e facts.occurrences) (λ o w. has_in o facts.occurrences (among_in o facts.occurrences w))
      (kept.covered d.of d.among (found_named d.of.space ordinary (kept.linked d.of d.among d.links)))) in
      same_Some d.of.entity k (sym noted ∙ (ap (λ (i : ℕ). entity_at (names_of facts) i) d.at ∙ d.own))

  spelled_as : (j k : ℕ) → (d : IsDeclared facts k) → alike toks j k ≡ true → IsLinked toks j d.of
  spelled_as j k d same =
      let spelled : alike toks j d.of.name_at ≡ true = subst (λ (i : ℕ). alike toks j i ≡ true) (sym d.at) same in
      and_from (is_named toks ordinary j d.of) (has_linkage d.of.linkage)
      (and_from (is_space d.of.space ordinary) (alike toks j d.of.name_at) (kept.linked d.of d.among d.links) spelled) d.links

  pub one_token : (j k : ℕ) → has_linkage (linkage_at (names_of facts) j) ≡ true → has_linkage (linkage_at (names_of facts) k) ≡ true → alike toks j k ≡ true → j ≡ k
  one_token j k h i same =
      let d : IsDeclared facts j = is_declared facts j h in
      let e : IsDeclared facts k = is_declared facts k i in
      let itself : alike toks j j ≡ true = (bytes_eq-Decides (spelling_at toks j) (spelling_at toks j)).1 refl in
      sym (of_itself j d) ∙ (kept.one j d.of e.of d.among e.among (spelled_as j j d itself) (spelled_as j k e same) ∙ of_itself k e)

pub linked_once : OneLinkedName
linked_once toks tree b t e =
    subst (λ (x : Bound). (j k : ℕ) → has_linkage (linkage_at x.names j) ≡ true → has_linkage (linkage_at x.names k) ≡ true → alike toks j k ≡ true → j ≡ k)
    (sym (binding_is toks tree b e)) (one_token toks (facts_of toks tree.under) (facts_once toks tree t) (all_kept toks tree b e))
