use Rattle.std.proofs.Common.{◌∙◌, List, ap, length, refl}
use Rattle.cs_base.specs.Token.{Token}
use Rattle.trim_rules.specs.Held.{pragmas_of}
use Rattle.trim_rules.proofs.HeldLemmas.{reasons-of}
use Rattle.trim_rules.proofs.unit_reasons.UnitReasons.of.Goals as goal

pub returns-clause-own : goal.returns-clause-own
returns-clause-own c =
    let a = c.args.a.now.value in
    let text = c.text-text.result.now in
    let tree = c.in_ok-tree.tree in
    let bound = c.bound-bound.result.now in
    reasons-of a.table c.args.unit.now _ text tree bound c.text-text.ensures c.in_ok-tree.ensures c.bound-bound.ensures
    refl (c.in_ok-count.ensures.answer ∙ ap (λ (ts : List Token). length ts) c.toks.ensures) c.in_ok-edges.ensures c.in_ok-defining.ensures
    (c.in_ok-pragmas.ensures ∙ ap (pragmas_of a.table) c.reached.ensures) c.in_ok-mentions.ensures

pub returns-clause-count : goal.returns-clause-count
returns-clause-count c = c.in_ok-count.ensures.answer ∙ ap (λ (ts : List Token). length ts) c.toks.ensures
