use Rattle.std.proofs.Common.{List, ℕ, refl, sym, subst}
use Rattle.template_meaning.specs.Matched.{IsTurnedTree}
use Rattle.template_plan.proofs.ComparedLemmas.{compared}
use Rattle.template_plan.proofs.TreeLemmas.{of_some}
use Rattle.template_plan.proofs.comparing.is_compared_by.Goals as goal

pub returns : goal.returns
returns c = λ passed.
    let perm = c.as_slice-numbers.result.now in
    let places = c.as_slice-all.result.now in
    let turned = subst (λ (xs : List ℕ). IsTurnedTree c.args.order.now c.args.begins.now c.in_ok-old.old c.in_ok-new.new xs) (sym c.as_slice-numbers.ensures.value)
    (of_some c.in_ok-found.found _ c.in-Some.perm c.in-Some.is c.in_ok-found.ensures) in (
      perm,
      places,
      compared c.args.order.now c.args.begins.now perm places c.args.first.now c.args.second.now c.in_ok-old.old c.in_ok-new.new
          c.in_ok-old.ensures c.in_ok-new.ensures
          turned (c.if-not-have_items.ensures refl) (c.if-not-are_places.ensures refl) (c.if-not-are_alike.ensures refl)
          (c.are_named.ensures passed),
    )
