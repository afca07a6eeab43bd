use Rattle.std.proofs.Common.{◌∙◌}
use Rattle.template_rules.specs.Functions.{is_list_of}
use Rattle.template_rules.proofs.FunctionLemmas.{all_named}
use Rattle.template_rules.proofs.functions.unit_at.Goals as goal

pub invariant_of-result-clause-gathered : goal.invariant_of-result-clause-gathered
invariant_of-result-clause-gathered c =
    all_named (λ l. l.now) (is_list_of c.bound-bound.result.now.names c.in_ok-entities.entities) c.new-found.result.items c.push_named.new.out.items
    c.push_named-2.new.out.items c.bound-bound.result.now.declarators c.bound-bound.result.now.calls c.new-found.ensures.items
    (rw (c.as_slice-2.ensures, c.declarators.ensures) at c.in_ok-push_named.ensures) (rw (c.as_slice-3.ensures, c.calls.ensures) at c.in_ok-push_named-2.ensures)

pub invariant_of-result-clause-moved : goal.invariant_of-result-clause-moved
invariant_of-result-clause-moved c = rw c.deref.ensures.value at c.in_ok-by_place.ensures.moved

pub invariant_of-result-clause-rising : goal.invariant_of-result-clause-rising
invariant_of-result-clause-rising c = rw c.toks-2.ensures at c.in_ok-by_place.ensures.rising

pub invariant_of-result-clause-covered : goal.invariant_of-result-clause-covered
invariant_of-result-clause-covered c = rw c.deref-2.ensures.value at c.in_ok-covers.ensures

pub invariant_of-result-clause-reached : goal.invariant_of-result-clause-reached
invariant_of-result-clause-reached c = c.new-runs.ensures ∙ c.reached.ensures
