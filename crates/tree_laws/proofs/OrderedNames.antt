-- No token is two names; lists and bodies of a binding stand in order.
use Rattle.std.proofs.Common.{ℕ, ◌+◌, ◌<◌, ◌≤◌, ◌≡◌, ◌≢◌, Bool, false, if◌then◌else◌, List, [], ◌∷◌, length, map, reverse, refl, sym, ap, subst, ◌∙◌, inl, inr, arith}
use mathlib.Core.List.{reverse-cons}
use Rattle.std.specs.Prelude.{filter, All, AllPairs}
use Rattle.std.proofs.lemmas.Bool.{eq-eqb, false≢true}
use Rattle.std.proofs.lemmas.List.Quantifiers.{all_pairs_push}
use Rattle.cs_base.specs.Token.{Token}
use Rattle.c99_tree.specs.Tree.{Node}
use Rattle.scope_bind.specs.Named.{Occurrence}
use Rattle.scope_bind.specs.declared.bound.Name.{Name}
use Rattle.c_types.specs.declared.lists.List.{List as NameList}
use Rattle.c_types.specs.declared.lists.Range.{Range}
use Rattle.c_types.specs.Declarations.{Facts}
use Rattle.name_chains.specs.Frames.{at_first, outermost}
use Rattle.c_types.specs.Lists.{calls_in, bodies_in, lists_in}
use Rattle.scope_bind.specs.Bound.{Bound, name_of, names_of, is_of_function, facts_of}
use Rattle.tree_laws.specs.TreesOfTexts.{token_count, IsTreeOf}
use Rattle.tree_laws.specs.BoundNames.{EachTokenIsOneName, ParameterListsAreInOrder, ArgumentListsAreInOrder, IsBody, BodiesStandInTheText, BodiesAreApart}
use Rattle.tree_laws.proofs.InLists.{In, all_mapped, all_reversed}
use Rattle.tree_laws.proofs.HeldNames.{binding_is}
use Rattle.tree_laws.proofs.Noted.{hit, noted_once}
use Rattle.tree_laws.proofs.Adding.{count_in}
use Rattle.tree_laws.proofs.Counted.{counted}
use Rattle.tree_laws.proofs.Climbing.{pairs_none, climbs_filter, climbs_pairs, laid_pairs, laid_bodies}
use Rattle.tree_laws.proofs.OrderedLists.{name_of_list, calls_climb, lists_climb, bodies_laid}

-- ---- Each token once

pub hit_itself : (t : ℕ) → hit t t ≡ 1
hit_itself t = ap (λ c. if c then 1 else 0) (eq-eqb t t refl)

in_counted : (o : Occurrence) (os : List Occurrence) → In o os → 1 ≤ count_in o.index os
in_counted o [] w = absurd w
in_counted o (x ∷ os) (inl same) = subst (λ (y : Occurrence). 1 ≤ hit o.index y.index + count_in o.index os) (sym same) (omega (arith, hit_itself o.index))
in_counted o (x ∷ os) (inr w) = omega (arith, in_counted o os w)

module _ (name : Occurrence → Name) (index_is : (o : Occurrence) → (name o).index ≡ o.index) where
  apart_from : (o x : Occurrence) (os : List Occurrence) → count_in o.index (o ∷ os) ≤ 1 → In x os → (name x).index ≢ (name o).index
  apart_from o x os once w same =
      let e : x.index ≡ o.index = sym (index_is x) ∙ (same ∙ index_is o) in
      omega (arith, once, hit_itself o.index, subst (λ t. 1 ≤ count_in t os) e (in_counted x os w))

  pub once_pairs : (os : List Occurrence) → ((t : ℕ) → count_in t os ≤ 1) → AllPairs (λ (m n : Name). m.index ≢ n.index) (reverse (map name os))
  once_pairs [] once = pairs_none (λ (m n : Name). m.index ≢ n.index)
  once_pairs (o ∷ os) once =
      subst (λ (ns : List Name). AllPairs (λ (m n : Name). m.index ≢ n.index) ns) (sym (reverse-cons (name o) (map name os)))
      (all_pairs_push (λ (m n : Name). m.index ≢ n.index) (reverse (map name os)) (name o) (once_pairs os (λ t. omega (arith, once t)))
      (all_reversed (λ (n : Name). n.index ≢ (name o).index) (map name os)
      (all_mapped (λ (n : Name). n.index ≢ (name o).index) name os (λ x w. apart_from o x os (once o.index) w))))

pub facts_once : (toks : List Token) (tree : Node) → IsTreeOf (length toks) tree → (t : ℕ) → count_in t (facts_of toks tree.under).occurrences ≤ 1
facts_once toks tree w t =
    omega (
      arith,
      counted toks t false tree.under (at_first (length toks)) (λ e. absurd (false≢true e)) w.forms,
      noted_once t 0 0 (outermost (length toks)).label tree.under w.tokens w.forms,
    )

pub names_apart : EachTokenIsOneName
names_apart toks tree b w e =
    let facts : Facts = facts_of toks tree.under in
    subst (λ (x : Bound). AllPairs (λ (m n : Name). m.index ≢ n.index) x.names) (sym (binding_is toks tree b e))
    (once_pairs (name_of facts) (λ o. refl) facts.occurrences (facts_once toks tree w))

-- ---- Lists and bodies

pub parameter_lists_ordered : ParameterListsAreInOrder
parameter_lists_ordered toks tree b w e =
    let facts : Facts = facts_of toks tree.under in
    let p : NameList → Bool = λ l. is_of_function (names_of facts) l.name in
    subst (λ (x : Bound). AllPairs (λ (l m : NameList). l.name < m.name) x.declarators) (sym (binding_is toks tree b e))
    (climbs_pairs name_of_list 0 (0 + token_count tree.under) (filter p (lists_in tree.under))
    (climbs_filter name_of_list 0 (0 + token_count tree.under) p (lists_in tree.under) (lists_climb tree.under 0 w.is_tree.tokens w.plain)))

pub argument_lists_ordered : ArgumentListsAreInOrder
argument_lists_ordered toks tree b w e =
    subst (λ (x : Bound). AllPairs (λ (l m : NameList). l.name < m.name) x.calls) (sym (binding_is toks tree b e))
    (climbs_pairs name_of_list 0 (0 + token_count tree.under) (calls_in tree.under) (calls_climb tree.under 0 w.tokens))

pub bodies_in_text : BodiesStandInTheText
bodies_in_text toks tree b w e =
    subst (λ (x : Bound). All (IsBody (length toks)) x.functions) (sym (binding_is toks tree b e))
    (laid_bodies 0 (0 + token_count tree.under) (length toks) (bodies_in tree.under) (omega (arith, w.all)) (bodies_laid tree.under 0 w.tokens w.forms))

pub bodies_apart : BodiesAreApart
bodies_apart toks tree b w e =
    subst (λ (x : Bound). AllPairs (λ (r s : Range). r.to < s.name) x.functions) (sym (binding_is toks tree b e))
    (laid_pairs 0 (0 + token_count tree.under) (bodies_in tree.under) (bodies_laid tree.under 0 w.tokens w.forms))
