use Rattle.template_rules.proofs.ItemLemmas.{all_between}
use Rattle.template_rules.proofs.item_units.units_of.Goals as goal

pub returns : goal.returns
returns c =
    all_between c.args.functions.now c.units-units.result.now c.units-units.ensures c.args.item c.first_unit-from.result c.last_unit-to.result
    c.first_unit-from.ensures c.last_unit-to.ensures
