use Rattle.std.proofs.Common.{ℕ, Some, ap, sym, ◌∙◌}
use Rattle.template_rules.specs.declared.counting.Declarator.{Declarator}
use Rattle.template_rules.specs.Lists.{declarator, parameters_of, sooner}
use Rattle.template_rules.proofs.CountLemmas.{soonest-none, soonest-one}
use Rattle.template_rules.proofs.counting.with_name.Goals as goal

pub returns-then-not-declares_function : goal.returns-then-not-declares_function
returns-then-not-declares_function c = rw (← c.if-not-declares_function.ensures) (soonest-none c.args.a.now.value.table c.args.best)

pub returns-in-None : goal.returns-in-None
returns-in-None c = rw (← c.if-not-declares_function.ensures, ← (rw c.toks.ensures at c.in-None.ensures)) (soonest-none c.args.a.now.value.table c.args.best)

pub returns-in-Some : goal.returns-in-Some
returns-in-Some c =
    let table = c.args.a.now.value.table in
    let at = c.in-Some.at in
    let found = c.sooner.ensures ∙ ap (λ (n : ℕ). sooner table c.args.best (declarator n at)) c.parameters_of-count.ensures in
    rw (← c.if-not-declares_function.ensures, ← (rw c.toks.ensures at c.in-Some.ensures)) (ap (λ (d : Declarator). Some d) found ∙ soonest-one table c.args.best (declarator (parameters_of c.args.unit.now.lists c.args.name.index) at))
