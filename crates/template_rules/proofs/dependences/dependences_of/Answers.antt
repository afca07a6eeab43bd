use Rattle.std.proofs.Common.{◌+◌, ◌-◌, ◌≤◌, ◌<◌, ℕ, List, ap, length, arith}
use Rattle.cs_base.specs.declared.causes.Cause.TheVariants as cause
use Rattle.template_rules.specs.Lists.{separators}
use Rattle.template_rules.specs.ScopeOffences.{dependence_in}
use Rattle.template_rules.proofs.NumberLemmas.{then_number, then_numbers, then_first_number}
use Rattle.template_rules.proofs.dependences.dependences_of.Goals as goal

pub loop-item-init : goal.loop-item-init
loop-item-init c =
    then_first_number c.args.a.now.value.table cause.ParameterDependence (dependence_in c.args.toks.now c.args.names.now c.args.bare.now c.args.all.now (separators c.args.list.now)) 0 (length c.args.list.now.commas + 1) c.args.first

pub loop-item-preserved : goal.loop-item-preserved
loop-item-preserved c =
    then_number c.args.a.now.value.table cause.ParameterDependence (dependence_in c.args.toks.now c.args.names.now c.args.bare.now c.args.all.now (separators c.args.list.now)) 0 (length c.args.list.now.commas + 1) c.loop-item.item
    c.args.first c.loop-item.now c.dependences_in-now.result (omega arith) (omega (arith, c.loop-item-test.true, ap (λ (xs : List ℕ). length xs) c.as_slice.ensures)) c.loop-item.invariant c.dependences_in-now.ensures

pub returns : goal.returns
returns c =
    then_numbers c.args.a.now.value.table cause.ParameterDependence (dependence_in c.args.toks.now c.args.names.now c.args.bare.now c.args.all.now (separators c.args.list.now)) 0 (length c.args.list.now.commas + 1) c.loop-item.item
    c.args.first c.loop-item.now (omega (arith, c.loop-item-test.false, ap (λ (xs : List ℕ). length xs) c.as_slice.ensures)) c.loop-item.invariant
