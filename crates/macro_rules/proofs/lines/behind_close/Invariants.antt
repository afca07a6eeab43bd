use Rattle.std.proofs.Common.{◌≡◌, [], length}
use Rattle.std.specs.Option.{unwrap_or}
use Rattle.line_shape.specs.MacroLine.{behind_close}
use Rattle.macro_rules.proofs.lines.behind_close.Given as goal

abbrev pub invariant-tokens : goal.invariant-tokens
invariant-tokens l = unwrap_or (behind_close l.rest) [] ≡ unwrap_or (behind_close l.toks) []

abbrev pub decreases-tokens : goal.decreases-tokens
decreases-tokens l = length l.rest
