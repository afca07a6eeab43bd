use Rattle.std.proofs.Common.{◌≡◌, ◌+◌, ◌≤◌, length}
use Rattle.line_shape.specs.MacroLine.{before_close, params_in}
use Rattle.macro_rules.proofs.lines.names_before_close.Given as goal

abbrev pub invariant-tokens : goal.invariant-tokens
invariant-tokens l =
    (l.count + length l.rest ≤ length l.toks) × (l.count + length (params_in (before_close l.rest)) ≡ length (params_in (before_close l.toks)))

abbrev pub decreases-tokens : goal.decreases-tokens
decreases-tokens l = length l.rest
