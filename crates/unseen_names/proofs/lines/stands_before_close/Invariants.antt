use Rattle.std.proofs.Common.{◌≡◌, length}
use Rattle.std.specs.List.{list_any}
use Rattle.line_shape.specs.MacroLine.{before_close, params_in}
use Rattle.unseen_names.specs.Words.{is_spelled}
use Rattle.unseen_names.proofs.lines.stands_before_close.Given as goal

abbrev pub invariant-tokens : goal.invariant-tokens
invariant-tokens l =
    list_any (is_spelled l.name) (params_in (before_close l.rest)) ≡ list_any (is_spelled l.name) (params_in (before_close l.toks))

abbrev pub decreases-tokens : goal.decreases-tokens
decreases-tokens l = length l.rest
