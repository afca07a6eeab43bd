use Rattle.std.proofs.Common.{◌≡◌, ◌<◌, ℕ, false}
use Rattle.analysis.specs.Below.source_files.KeptFiles.{kept_at}
use Rattle.query_report.specs.Paths.{has_path}
use Rattle.query_report.proofs.class_lines.is_kept.Given as goal

abbrev pub invariant-loop-number : goal.invariant-loop-number
invariant-loop-number l = (k : ℕ) → k < l.number → has_path l.path (kept_at l.a.value.table k) ≡ false
