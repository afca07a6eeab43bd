use Rattle.std.proofs.Common.{◌∙◌}
use Rattle.analysis.specs.Below.scope_bind.Names.{entity_at}
use Rattle.template_rules.proofs.FoundLemmas.{named_at}
use Rattle.template_rules.proofs.unit_functions.names_function.Goals as goal

pub returns : goal.returns
returns c =
    let unit = c.args.unit.now in
    rw c.as_slice.ensures at c.is_name_of.ensures
    ∙ named_at unit.class.members unit.text.now.toks unit.bound.now.names unit.entities unit.named (entity_at unit.bound.now.names c.args.k)
