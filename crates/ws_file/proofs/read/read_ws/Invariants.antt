use Rattle.std.proofs.Common.{◌≡◌, ◌+◌, ◌≤◌, ◌^◌, ℕ, List, length}
use Rattle.cs_base.specs.Limits.{most_units}
use Rattle.ws_file.specs.Lines.{lines_of}
use Rattle.ws_file.specs.Reading.{Reading, read_lines, workspace_of}
use Rattle.ws_file.proofs.read.read_ws.Given as goal

pub record IsReadOn (bytes rest : List ℕ) (number start : ℕ) (r : Reading) : Type 0 where
  pub same : read_lines number start (lines_of rest) r ≡ workspace_of bytes
  pub numbered : number ≤ start + 1
  pub within : start ≤ 2 ^ 22 + 1
  pub few : length r.units ≤ most_units

abbrev pub invariant-lines : goal.invariant-lines
invariant-lines l = IsReadOn l.bytes l.rest l.number l.start l.reader

abbrev pub decreases-lines : goal.decreases-lines
decreases-lines l = length l.rest
