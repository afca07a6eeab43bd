use Rattle.std.proofs.Common.{◌≡◌, true, sym}
use Rattle.std.specs.Prelude.{◌==◌}
use Rattle.std.proofs.lemmas.Bool.{eq-eqb, ne_eqb}
use Rattle.c_types.specs.declared.parameters.ParameterList.{ParameterList}
use Rattle.template_rules.proofs.FindLemmas.{found_at, found_later, found_none}
use Rattle.template_rules.proofs.unit_parameters.by_each.Goals as goal

pub returns-then-list-k : goal.returns-then-list-k
returns-then-list-k c =
    sym (found_at (λ (p : ParameterList). p.name == c.args.k) c.args.lists.now c.loop-list.list-index c.list-item.result c.loop-list-test.true c.list-item.is
    (eq-eqb c.list-item.result.name c.args.k c.if-list-k.true) c.loop-list.invariant)

pub loop-list-preserved : goal.loop-list-preserved
loop-list-preserved c =
    found_later (λ (p : ParameterList). p.name == c.args.k) c.args.lists.now c.loop-list.list-index c.list-item.result c.loop-list-test.true c.list-item.is
    (ne_eqb c.list-item.result.name c.args.k c.if-list-k.false) c.loop-list.invariant

pub returns : goal.returns
returns c = sym (found_none (λ (p : ParameterList). p.name == c.args.k) c.args.lists.now c.loop-list.list-index c.loop-list-test.false c.loop-list.invariant)
