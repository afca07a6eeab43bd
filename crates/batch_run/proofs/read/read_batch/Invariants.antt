use Rattle.std.proofs.Common.{◌≡◌, ◌+◌, ◌≤◌, ◌^◌, ℕ, List, length}
use Rattle.ws_file.specs.Lines.{lines_of}
use Rattle.batch_run.specs.Line.{LineValue}
use Rattle.batch_run.specs.Reading.{read_lines, batch_of}
use Rattle.batch_run.proofs.read.read_batch.Given as goal

pub record IsReadOn (bytes rest : List ℕ) (number start : ℕ) (taken : List LineValue) : Type 0 where
  pub same : read_lines (length bytes) number start (lines_of rest) taken ≡ batch_of bytes
  pub numbered : number ≤ start + 1
  pub within : start ≤ 2 ^ 22 + 1

abbrev pub invariant-lines : goal.invariant-lines
invariant-lines l = IsReadOn l.bytes l.rest l.number l.start l.taken.items

abbrev pub decreases-lines : goal.decreases-lines
decreases-lines l = length l.rest
