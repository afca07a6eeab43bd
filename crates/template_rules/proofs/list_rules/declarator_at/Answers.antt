use Rattle.cs_base.specs.declared.causes.Cause.TheVariants as cause
use Rattle.offences.specs.First.{standing}
use Rattle.offences.proofs.FirstLemmas.{then_both, then_none}
use Rattle.template_rules.specs.LineOffences.{odd_positions}
use Rattle.template_rules.specs.Offences.{list_offences}
use Rattle.template_rules.specs.ScopeOffences.{dependence_places}
use Rattle.template_rules.proofs.list_rules.declarator_at.Goals as goal

pub returns-then-names_function : goal.returns-then-names_function
returns-then-names_function c =
    let class = c.args.functions.now in
    let unit = c.args.unit.now in
    let named = rw c.requires.class at c.if-names_function.ensures in
    rw (← named)
    (then_both class.analysis.value.table
    (list_offences class.members class.analysis.value (odd_positions class.analysis.value.table) unit.text.now c.args.list.now)
    (standing cause.ParameterDependence (dependence_places unit.text.now.toks unit.bound.now.names unit.bound.now.bare unit.lists c.args.list.now))
    c.args.first c.list_at-named.result c.dependences_at.result c.list_at-named.ensures
    (rw (c.analysis.ensures, c.toks.ensures, c.names.ensures, c.bare.ensures) at c.dependences_at.ensures))

pub returns-else-names_function : goal.returns-else-names_function
returns-else-names_function c =
    let named = rw c.requires.class at c.if-names_function.ensures in
    rw (← named) (then_none c.args.functions.now.analysis.value.table c.args.first)
