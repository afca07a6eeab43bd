-- No token is two names of GNU C, and the token that names an entity is itself a name of it.
use Rattle.std.proofs.Common.{ℕ, ◌+◌, ◌≤◌, ◌≡◌, ◌≢◌, false, List, length, map, reverse, Some, refl, sym, ap, subst, ◌∙◌, arith}
use Rattle.std.specs.Prelude.{All, AllPairs}
use Rattle.std.proofs.lemmas.Bool.{false≢true}
use Rattle.cs_base.specs.Token.{Token}
use Rattle.c99_tree.specs.Tree.{Node}
use Rattle.gnu_bind.specs.Below.c_types.Declarations.{Facts}
use Rattle.gnu_bind.specs.Below.scope_bind.Below.name_chains.Frames.{at_first, outermost}
use Rattle.gnu_bind.specs.Below.scope_bind.Bound.{Bound, name_of, names_of}
use Rattle.gnu_bind.specs.Below.scope_bind.Names.{entity_at}
use Rattle.gnu_bind.specs.Below.scope_bind.declared.bound.Name.{Name}
use Rattle.gnu_bind.specs.Bound.{facts_of}
use Rattle.gnu_bind.specs.Senses.{usual_sense}
use Rattle.tree_laws.proofs.InLists.{all_mapped, all_reversed}
use Rattle.tree_laws.proofs.Adding.{count_in}
use Rattle.tree_laws.proofs.OrderedNames.{once_pairs}
use Rattle.tree_laws.proofs.EntityNames.{has_in, entity_is}
use Rattle.tree_laws.specs.TreesOfTexts.{IsTreeOf}
use Rattle.gnu_tree_laws.specs.GnuNames.{EachGnuTokenIsOneName, GnuEntitiesAreNames}
use Rattle.gnu_tree_laws.proofs.GnuNoted.{gnu_noted_once}
use Rattle.gnu_tree_laws.proofs.GnuCounted.{gnu_counted}
use Rattle.gnu_tree_laws.proofs.GnuSpelled.{binding_is, entities_noted}

pub facts_once : (toks : List Token) (tree : Node) → IsTreeOf (length toks) tree → (t : ℕ) → count_in t (facts_of toks tree.under).occurrences ≤ 1
facts_once toks tree w t =
    omega (
      arith,
      gnu_counted toks t false tree.under usual_sense (at_first (length toks)) (λ e. absurd (false≢true e)) w.forms,
      gnu_noted_once t 0 0 (outermost (length toks)).label tree.under w.tokens w.forms,
    )

pub names_apart : EachGnuTokenIsOneName
names_apart toks tree b w e =
    let facts : Facts = facts_of toks tree.under in
    subst (λ (x : Bound). AllPairs (λ (m n : Name). m.index ≢ n.index) x.names) (sym (binding_is toks tree b e))
    (once_pairs (name_of facts) (λ o. refl) facts.occurrences (facts_once toks tree w))

pub entities_are_names : GnuEntitiesAreNames
entities_are_names toks tree b t e =
    let facts : Facts = facts_of toks tree.under in
    let P : Name → Type 0 = λ n. (entity_at (names_of facts) n.index ≡ Some n.entity) × (entity_at (names_of facts) n.entity ≡ Some n.entity) in
    subst (λ (x : Bound). All (λ (n : Name). (entity_at x.names n.index ≡ Some n.entity) × (entity_at x.names n.entity ≡ Some n.entity)) x.names)
    (sym (binding_is toks tree b e))
    (all_reversed P (map (name_of facts) facts.occurrences)
    (all_mapped P (name_of facts) facts.occurrences (λ o w. (
      entity_is facts o.index o.entity (facts_once toks tree t o.index) (has_in o facts.occurrences w),
      entity_is facts o.entity o.entity (facts_once toks tree t o.entity) (entities_noted toks tree o w),
    ))))
