use Rattle.std.proofs.Common.{sym, ◌∙◌}
use Rattle.std.proofs.lemmas.List.{take_all}
use Rattle.template_rules.specs.declared.unit_functions.UnitFunctions.{UnitFunctions}
use Rattle.template_rules.specs.Asking.{asks}
use Rattle.template_rules.specs.MacroOffences.{is_list_through}
use Rattle.template_rules.proofs.AskLemmas.{lists_for}
use Rattle.template_rules.proofs.ItemLemmas.{none_outside}
use Rattle.template_rules.proofs.NumberLemmas.{all_here, all_still}
use Rattle.template_rules.proofs.list_macros.is_list_within.Goals as goal

pub is_list_if-requires : goal.is_list_if-requires
is_list_if-requires c =
    λ out. none_outside c.args.functions.now c.units-units.result.now c.units-units.ensures c.args.near c.requires.near c.args.item c.requires.item
    c.loop-at.at c.index-units-at.result c.loop-at-test.true c.index-units-at.is (sym c.is_between-some.ensures ∙ out)

pub returns-then-not-is_list_if : goal.returns-then-not-is_list_if
returns-then-not-is_list_if c =
    sym (sym (lists_for c.args.functions.now c.units-units.result.now c.units-units.ensures c.args.toks.now c.args.list.now c.args.asked c.args.item)
    ∙ all_here (λ (f : UnitFunctions). asks c.args.asked (λ k. is_list_through f.class.members c.args.toks.now c.args.list.now k c.args.item f.text.now f.bound.now) c.args.list.now) c.units-units.result.now c.loop-at.at c.index-units-at.result c.loop-at-test.true c.index-units-at.is
    (sym c.is_list_if.ensures ∙ c.if-not-is_list_if.true))

pub loop-at-preserved : goal.loop-at-preserved
loop-at-preserved c =
    all_still (λ (f : UnitFunctions). asks c.args.asked (λ k. is_list_through f.class.members c.args.toks.now c.args.list.now k c.args.item f.text.now f.bound.now) c.args.list.now) c.units-units.result.now c.loop-at.at c.index-units-at.result c.loop-at-test.true c.index-units-at.is
    (sym c.is_list_if.ensures ∙ c.if-not-is_list_if.false) c.loop-at.invariant

pub returns : goal.returns
returns c =
    let all = rw (take_all c.loop-at.at c.units-units.result.now c.loop-at-test.false) at c.loop-at.invariant in
    sym (sym (lists_for c.args.functions.now c.units-units.result.now c.units-units.ensures c.args.toks.now c.args.list.now c.args.asked c.args.item) ∙ all)
