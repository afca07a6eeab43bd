use Rattle.std.proofs.Common.{ap, ◌∙◌, ◌++◌}
use Rattle.std.specs.Prelude.{map}
use Rattle.c_types.specs.Parameters.{parameters_in}
use Rattle.c_types.proofs.ParameterLemmas.{parameters-names}
use Rattle.c_types.proofs.parameters.parameter_lists.Goals as goal

pub returns-clause-lists : goal.returns-clause-lists
returns-clause-lists c =
    ap (map (λ p. p.name)) (c.in_ok-push_parameters.ensures ∙ ap (λ ps. ps ++ parameters_in c.args.tree.now.under) c.new-out.ensures.items)
    ∙ parameters-names c.args.tree.now.under
