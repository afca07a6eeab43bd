use Rattle.std.proofs.Common.{◌≡◌, length}
use Rattle.line_shape.specs.MacroLine.{before_close, has_named_rest}
use Rattle.macro_rules.proofs.RestLemmas.{ends_or}
use Rattle.macro_rules.proofs.lines.has_named_rest.Given as goal

abbrev pub invariant-tokens : goal.invariant-tokens
invariant-tokens l = ends_or l.ends l.named (before_close l.rest) ≡ has_named_rest (before_close l.toks)

abbrev pub decreases-tokens : goal.decreases-tokens
decreases-tokens l = length l.rest
