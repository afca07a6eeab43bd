use Rattle.std.proofs.Common.{◌≡◌, ◌<◌, ℕ, List, Some, true}
use Rattle.analysis.specs.Below.source_files.Files.{absent_at}
use Rattle.trim_plan.specs.Places.{has_path}
use Rattle.trim_plan.proofs.comparing.Absent.knows_all.Given as goal

abbrev pub invariant-loop-number : goal.invariant-loop-number
invariant-loop-number l =
    (k : ℕ) (path : List ℕ) → k < l.number → absent_at l.b.value.table k ≡ Some path → has_path l.self.paths path ≡ true
