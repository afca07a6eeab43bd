-- What both standards read they bind alike.
use Rattle.std.proofs.Common.{ℕ, ◌≡◌, true, List, length, filter, Option, None, Some, Ok, refl, sym, ap, ◌∙◌}
use Rattle.cs_base.specs.Token.{Token}
use Rattle.c99_tree.specs.Tree.{Forest, Node}
use Rattle.c_types.specs.declared.declarations.Fault.{Fault}
use Rattle.c_types.specs.Declarations.{Facts}
use Rattle.c_types.specs.declared.lists.List.{List as NameList}
use Rattle.c_types.specs.declared.lists.Range.{Range}
use Rattle.name_chains.specs.Frames.{State, at_first}
use Rattle.scope_bind.specs.Bound.{Bound, names_of, is_of_function, typedefs_of, bound_of, bound_unless, facts_of, bound_after, binding_of}
use Rattle.c_types.specs.Lists.{lists_in, calls_in, bodies_in, bare_in}
use Rattle.tree_laws.specs.Narrowed.{spread_if, narrowed, narrowed_node, TextsOfC99AreBoundByC11, TextsOfC11AreBoundByC99, TextsBindAlike}
use Rattle.tree_laws.proofs.Standing.{formed, is_good, IsUnit}
use Rattle.tree_laws.proofs.Lists.{calls-same, bodies-same, lists-same, bare-same}
use Rattle.tree_laws.proofs.Walk.{walked-same}
use Rattle.tree_laws.proofs.Rows.{read_by_both}
use Rattle.tree_laws.proofs.Back.{read_by_c99, unit_by_c11}
use Rattle.std.proofs.lemmas.Bool.{and_parts}

bound_so : Facts → List NameList → List NameList → List Range → List ℕ → Bound
bound_so facts lists calls bodies bare = record {
  names = names_of facts;
  declarators = filter (λ l. is_of_function (names_of facts) l.name) lists;
  calls = calls;
  functions = bodies;
  bare = bare;
  typedefs = typedefs_of facts;
}

bound_of-same : (f : Forest) → formed true f ≡ true → (facts : Facts) → bound_of (narrowed f) facts ≡ bound_of f facts
unfolding bound_so
bound_of-same f h facts =
    ap (λ x. bound_so facts x (calls_in (narrowed f)) (bodies_in (narrowed f)) (bare_in (narrowed f))) (lists-same f h)
    ∙ (ap (λ x. bound_so facts (lists_in f) x (bodies_in (narrowed f)) (bare_in (narrowed f))) (calls-same f h)
    ∙ (ap (λ x. bound_so facts (lists_in f) (calls_in f) x (bare_in (narrowed f))) (bodies-same f h)
    ∙ ap (λ x. bound_so facts (lists_in f) (calls_in f) (bodies_in f) x) (bare-same f h)))

unless-same : (f : Forest) → formed true f ≡ true → (facts : Facts) (o : Option Fault) → bound_unless (narrowed f) facts o ≡ bound_unless f facts o
unless-same f h facts None = ap Ok (bound_of-same f h facts)
unless-same f h facts (Some x) = refl

module _ (toks : List Token) where
  unit-same : (tree : Node) → IsUnit tree → binding_of toks (narrowed_node tree) ≡ binding_of toks tree
  unfolding binding_of
  unit-same tree unit =
      let sound : formed true tree.under ≡ true = (and_parts (is_good true tree.label tree.under) (formed true tree.under) unit.sound).1 in
      ap (λ b. bound_after (spread_if b (narrowed tree.under)) (facts_of toks (spread_if b (narrowed tree.under)))) unit.root
      ∙ (ap (λ (s : State). bound_after (narrowed tree.under) s.facts) (walked-same toks tree.under sound (at_first (length toks)) unit.apart)
      ∙ unless-same tree.under sound (facts_of toks tree.under) (facts_of toks tree.under).fault)

pub bind_alike : TextsBindAlike
bind_alike toks tree plain e free = unit-same toks tree (unit_by_c11 toks tree plain e free)

pub bound_by_both : TextsOfC99AreBoundByC11
bound_by_both toks tree b plain e g =
    let read = read_by_both toks tree plain e in
    let wider : Node = read.0 in
    (wider, (read.1.0, (sym (bind_alike toks wider plain read.1.0 read.1.1.1) ∙ (ap (binding_of toks) (sym read.1.1.0) ∙ g))))

pub bound_by_c99 : TextsOfC11AreBoundByC99
bound_by_c99 toks tree b plain e free g = (narrowed_node tree, (read_by_c99 toks tree plain e free, bind_alike toks tree plain e free ∙ g))
