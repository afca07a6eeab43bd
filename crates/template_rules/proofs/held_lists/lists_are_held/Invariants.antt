use Rattle.std.proofs.Common.{◌≡◌, ◌<◌, ℕ, Some, slice_get}
use Rattle.template_rules.specs.declared.file_lists.FoundList.{FoundList}
use Rattle.template_rules.specs.Held.{IsHeld}
use Rattle.template_rules.proofs.held_lists.lists_are_held.Given as goal

abbrev pub invariant-loop-k : goal.invariant-loop-k
invariant-loop-k l = (i : ℕ) (f : FoundList) → i < l.k → slice_get l.found.items i ≡ Some f → IsHeld l.a.value.table f.file
