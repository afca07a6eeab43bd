use Rattle.std.proofs.Common.{◌≡◌, length, map, take}
use Rattle.line_shape.specs.MacroLine.{spellings}
use Rattle.macro_body.proofs.name_parts.lengths_of.Given as goal

abbrev pub invariant-loop-name : goal.invariant-loop-name
invariant-loop-name l = l.lengths.items ≡ map length (spellings (take l.name-index l.names))
