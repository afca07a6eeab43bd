-- The token that names an entity is itself a name of it.
use Rattle.std.proofs.Common.{ℕ, ◌+◌, ◌≤◌, ◌≡◌, ◌==◌, cond, List, [], ◌∷◌, map, Some, inl, inr, sym, ap, subst, ◌∙◌, arith}
use Rattle.std.specs.Prelude.{find, All}
use Rattle.std.specs.Option.{option_map}
use Rattle.std.proofs.lemmas.Bool.{eq-eqb, ne_eqb}
use Rattle.std.proofs.lemmas.List.{reverse-reverse}
use Rattle.scope_bind.specs.Named.{Occurrence}
use Rattle.c_types.specs.Declarations.{Facts}
use Rattle.scope_bind.specs.Bound.{Bound, name_of, names_of, facts_of}
use Rattle.scope_bind.specs.Names.{entity_at}
use Rattle.scope_bind.specs.declared.bound.Name.{Name}
use Rattle.tree_laws.specs.BoundNames.{EntitiesAreNames}
use Rattle.tree_laws.proofs.InLists.{In, all_mapped, all_reversed}
use Rattle.tree_laws.proofs.Adding.{count_in}
use Rattle.tree_laws.proofs.Noted.{hit}
use Rattle.tree_laws.proofs.HeldNames.{binding_is, Has, entities_noted}
use Rattle.tree_laws.proofs.OrderedNames.{hit_itself, facts_once}

-- what is noted is one of the occurrences
pub has_in : (o : Occurrence) (os : List Occurrence) → In o os → Has o.index o.entity os
has_in o [] w = absurd w
has_in o (x ∷ os) (inl same) = inl (ap (λ (y : Occurrence). y.index) same, ap (λ (y : Occurrence). y.entity) same)
has_in o (x ∷ os) (inr w) = inr (has_in o os w)

has_counted : (i e : ℕ) (os : List Occurrence) → Has i e os → 1 ≤ count_in i os
has_counted i e [] w = absurd w
has_counted i e (o ∷ os) (inl same) = subst (λ n. 1 ≤ hit i n + count_in i os) (sym same.0) (omega (arith, hit_itself i))
has_counted i e (o ∷ os) (inr w) = omega (arith, has_counted i e os w)

module _ (facts : Facts) where
  -- a token that is noted once has this entity
  found : (i e : ℕ) (os : List Occurrence) → count_in i os ≤ 1 → Has i e os
      → option_map (λ n. n.entity) (find (λ n. n.index == i) (map (name_of facts) os)) ≡ Some e
  found i e [] once w = absurd w
  found i e (o ∷ os) once (inl same) =
      ap (λ c. option_map (λ (n : Name). n.entity) (cond c (Some (name_of facts o)) (find (λ n. n.index == i) (map (name_of facts) os)))) (eq-eqb o.index i same.0)
      ∙ ap (λ n. Some n) same.1
  found i e (o ∷ os) once (inr w) =
      ap (λ c. option_map (λ (n : Name). n.entity) (cond c (Some (name_of facts o)) (find (λ n. n.index == i) (map (name_of facts) os))))
      (ne_eqb o.index i (λ same. absurd (omega (arith, once, has_counted i e os w, subst (λ n. 1 ≤ hit i n) (sym same) (omega (arith, hit_itself i))))))
      ∙ found i e os (omega (arith, once)) w

  pub entity_is : (i e : ℕ) → count_in i facts.occurrences ≤ 1 → Has i e facts.occurrences → entity_at (names_of facts) i ≡ Some e
  entity_is i e once w =
      ap (λ (ns : List Name). option_map (λ (n : Name). n.entity) (find (λ n. n.index == i) ns)) (reverse-reverse (map (name_of facts) facts.occurrences))
      ∙ found i e facts.occurrences once w

pub entities_are_names : EntitiesAreNames
entities_are_names toks tree b t e =
    let facts : Facts = facts_of toks tree.under in
    let P : Name → Type 0 = λ n. (entity_at (names_of facts) n.index ≡ Some n.entity) × (entity_at (names_of facts) n.entity ≡ Some n.entity) in
    subst (λ (x : Bound). All (λ (n : Name). (entity_at x.names n.index ≡ Some n.entity) × (entity_at x.names n.entity ≡ Some n.entity)) x.names)
    (sym (binding_is toks tree b e))
    (all_reversed P (map (name_of facts) facts.occurrences)
    (all_mapped P (name_of facts) facts.occurrences (λ o w. (
      entity_is facts o.index o.entity (facts_once toks tree t o.index) (has_in o facts.occurrences w),
      entity_is facts o.entity o.entity (facts_once toks tree t o.entity) (entities_noted toks tree o w),
    ))))
