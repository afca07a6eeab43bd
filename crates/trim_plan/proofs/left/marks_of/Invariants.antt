use Rattle.std.proofs.Common.{◌≡◌, false, replicate}
use Rattle.trim_plan.specs.Left.{goes_by}
use Rattle.trim_plan.specs.Places.{MarksMore}
use Rattle.trim_rules.specs.Numbers.{is_below}
use Rattle.trim_plan.proofs.left.marks_of.Given as goal

abbrev pub invariant-loop-k : goal.invariant-loop-k
invariant-loop-k l = MarksMore (λ j. is_below (goes_by l.lines l.text j) l.k) l.initial.gone.items l.gone.items
