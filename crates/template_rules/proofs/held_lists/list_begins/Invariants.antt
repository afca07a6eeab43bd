use Rattle.std.proofs.Common.{◌≡◌, take}
use Rattle.std.specs.Prelude.{map}
use Rattle.template_rules.proofs.held_lists.list_begins.Given as goal

abbrev pub invariant-loop-list : goal.invariant-loop-list
invariant-loop-list l = l.begins.items ≡ map (λ m. m.now.begin) (take l.list-index l.found)
