-- The bad line of a batch file in the refusals of `read_batch`.
use Rattle.std.specs.Prelude.{ℕ, Option, None, Some}
use Rattle.batch_run.specs.declared.refusal.BatchRefusal.{BatchRefusal}
use Rattle.batch_run.specs.declared.refusal.BatchRefusal.TheVariants.{BadLine, Memory}

-- the number of the line that a refusal names; none for want of memory alone
abbrev pub bad_line_of : BatchRefusal → Option ℕ
bad_line_of (BadLine line) = Some line
bad_line_of Memory = None
