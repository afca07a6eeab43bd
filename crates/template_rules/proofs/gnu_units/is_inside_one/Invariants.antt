use Rattle.std.proofs.Common.{◌≡◌, length}
use Rattle.std.specs.List.{list_any}
use Rattle.template_rules.specs.ScopeOffences.{is_inside}
use Rattle.template_rules.proofs.gnu_units.is_inside_one.Given as goal

abbrev pub invariant-loop-left : goal.invariant-loop-left
invariant-loop-left l = list_any (λ m. is_inside m.now l.k) l.left ≡ list_any (λ m. is_inside m.now l.k) l.lists

abbrev pub decreases-loop-left : goal.decreases-loop-left
decreases-loop-left l = length l.left
