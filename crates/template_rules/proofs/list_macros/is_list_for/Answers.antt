use Rattle.std.proofs.Common.{◌≡◌, true, false, sym, ◌∙◌}
use Rattle.std.proofs.lemmas.List.{take_all}
use Rattle.template_rules.specs.declared.unit_functions.UnitFunctions.{UnitFunctions}
use Rattle.template_rules.specs.Asking.{asks}
use Rattle.template_rules.specs.MacroOffences.{is_list_through}
use Rattle.template_rules.proofs.AskLemmas.{lists_for}
use Rattle.template_rules.proofs.NumberLemmas.{all_here, all_still}
use Rattle.template_rules.proofs.list_macros.is_list_for.Goals as goal

pub returns-then-not-is_list_through : goal.returns-then-not-is_list_through
returns-then-not-is_list_through c =
    sym (sym (lists_for c.args.functions.now c.units-units.result.now c.units-units.ensures c.args.toks.now c.args.list.now c.args.asked c.args.item)
    ∙ all_here (λ (f : UnitFunctions). asks c.args.asked (λ k. is_list_through f.class.members c.args.toks.now c.args.list.now k c.args.item f.text.now f.bound.now) c.args.list.now) c.units-units.result.now c.loop-unit.unit-index c.unit-item.result c.loop-unit-test.true c.unit-item.is
    (sym c.is_list_through.ensures ∙ c.if-not-is_list_through.true))

pub loop-unit-preserved : goal.loop-unit-preserved
loop-unit-preserved c =
    all_still (λ (f : UnitFunctions). asks c.args.asked (λ k. is_list_through f.class.members c.args.toks.now c.args.list.now k c.args.item f.text.now f.bound.now) c.args.list.now) c.units-units.result.now c.loop-unit.unit-index c.unit-item.result c.loop-unit-test.true c.unit-item.is
    (sym c.is_list_through.ensures ∙ c.if-not-is_list_through.false) c.loop-unit.invariant

pub returns : goal.returns
returns c =
    let all = rw (take_all c.loop-unit.unit-index c.units-units.result.now c.loop-unit-test.false) at c.loop-unit.invariant in
    sym (sym (lists_for c.args.functions.now c.units-units.result.now c.units-units.ensures c.args.toks.now c.args.list.now c.args.asked c.args.item) ∙ all)
