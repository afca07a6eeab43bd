use Rattle.std.proofs.Common.{◌≡◌, filter, take}
use Rattle.line_shape.specs.Signs.{is_name}
use Rattle.macro_body.proofs.shared_tokens.names_shared.Given as goal

abbrev pub invariant-loop-tok : goal.invariant-loop-tok
invariant-loop-tok l = l.names.items ≡ filter is_name (take l.tok-index l.toks)
