use Rattle.std.proofs.Common.{◌≡◌, ◌++◌, take}
use Rattle.std.specs.Prelude.{filter, map}
use Rattle.template_rules.specs.Functions.{is_list_of}
use Rattle.template_rules.proofs.unit_functions.push_named.Given as goal

abbrev pub invariant-loop-list : goal.invariant-loop-list
invariant-loop-list l =
    map (λ m. m.now) l.out.items ≡ map (λ m. m.now) l.initial.out.items ++ filter (is_list_of l.bound.names l.entities) (take l.list-index l.all)
