use Rattle.std.proofs.Common.{◌≡◌, length}
use Rattle.ws_file.specs.Lines.{without_first_blanks}
use Rattle.ws_file.proofs.line_parts.without_first_blanks.Given as goal

abbrev pub invariant-loop-first : goal.invariant-loop-first
invariant-loop-first l = without_first_blanks l.rest ≡ without_first_blanks l.text

abbrev pub decreases-loop-first : goal.decreases-loop-first
decreases-loop-first l = length l.rest
