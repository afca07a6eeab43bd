use Rattle.std.proofs.Common.{◌∙◌}
use Rattle.template_rules.proofs.FunctionLemmas.{some_functions}
use Rattle.template_rules.proofs.functions.has_functions.Goals as goal

pub returns : goal.returns
returns c = record { answer = c.has_some.ensures ∙ some_functions c.args.functions.now c.units.result.now c.units.ensures }
