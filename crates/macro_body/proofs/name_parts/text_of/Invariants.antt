use Rattle.std.proofs.Common.{◌≡◌, take}
use Rattle.std.specs.List.{flat_map}
use Rattle.line_shape.specs.MacroLine.{spellings}
use Rattle.macro_body.proofs.name_parts.text_of.Given as goal

abbrev pub invariant-loop-name : goal.invariant-loop-name
invariant-loop-name l = l.text.items ≡ flat_map (λ n. n) (spellings (take l.name-index l.names))
