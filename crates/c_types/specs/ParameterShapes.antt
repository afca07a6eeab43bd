-- The parameters of a list and of a declaration, by the nodes that stand first in them.
use Rattle.std.specs.Prelude.{ℕ, List, [], Option, None, Some, if◌then◌else◌}
use Rattle.c99_tree.specs.Tree.{Node}
use Rattle.c99_tree.specs.declared.production.Production.TheVariants.{Declarator}
use Rattle.c_types.specs.declared.parameters.ParameterForm.TheVariants.{Empty as empty}
use Rattle.c_types.specs.declared.parameters.ParameterList.{ParameterList}
use Rattle.c_types.specs.Trees.{name_below, is_node}
use Rattle.c_types.specs.Lists.{nearest_of}
use Rattle.c_types.specs.Parameters.{listed, own_parameters}

-- by what stands between the parentheses
abbrev pub parameters_by : ℕ → Option Node → ParameterList
parameters_by name (Some n) = listed name n.label n.under
parameters_by name None = record { name = name; form = empty; names = [] }

abbrev pub parameters_at : Option Node → List ParameterList
parameters_at (Some n) = if is_node n.label Declarator then own_parameters (name_below n.label n.under) (nearest_of n.under) else []
parameters_at None = []
