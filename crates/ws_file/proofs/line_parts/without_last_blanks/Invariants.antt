use Rattle.std.proofs.Common.{◌≡◌, length}
use Rattle.ws_file.specs.Lines.{without_last_blanks}
use Rattle.ws_file.proofs.line_parts.without_last_blanks.Given as goal

abbrev pub invariant-loop-last : goal.invariant-loop-last
invariant-loop-last l = without_last_blanks l.rest ≡ without_last_blanks l.text

abbrev pub decreases-loop-last : goal.decreases-loop-last
decreases-loop-last l = length l.rest
