use Rattle.std.proofs.Common.{◌≡◌, length}
use Rattle.line_shape.specs.BadLines.{is_operand, has_lone_hash}
use Rattle.line_shape.proofs.macro_line.has_lone_hash.Given as goal

abbrev pub invariant-tokens : goal.invariant-tokens
invariant-tokens l = has_lone_hash (is_operand l.names l.variadic) l.rest ≡ has_lone_hash (is_operand l.names l.variadic) l.body

abbrev pub decreases-tokens : goal.decreases-tokens
decreases-tokens l = length l.rest
