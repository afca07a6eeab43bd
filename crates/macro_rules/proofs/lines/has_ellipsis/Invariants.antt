use Rattle.std.proofs.Common.{◌≡◌, length}
use Rattle.std.specs.List.{list_any}
use Rattle.line_shape.specs.Signs.{is_ellipsis}
use Rattle.line_shape.specs.MacroLine.{before_close}
use Rattle.macro_rules.proofs.lines.has_ellipsis.Given as goal

abbrev pub invariant-tokens : goal.invariant-tokens
invariant-tokens l = list_any is_ellipsis (before_close l.rest) ≡ list_any is_ellipsis (before_close l.toks)

abbrev pub decreases-tokens : goal.decreases-tokens
decreases-tokens l = length l.rest
