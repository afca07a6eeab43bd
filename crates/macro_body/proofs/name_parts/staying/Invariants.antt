use Rattle.std.proofs.Common.{◌≤◌, length}
use Rattle.macro_body.proofs.name_parts.staying.Given as goal

abbrev pub invariant-last : goal.invariant-last
invariant-last l = l.stay ≤ length l.parts

abbrev pub decreases-last : goal.decreases-last
decreases-last l = l.stay
