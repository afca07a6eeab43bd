use Rattle.std.proofs.Common.{◌≡◌, take}
use Rattle.line_shape.specs.MacroLine.{spellings}
use Rattle.macro_body.specs.Hides.{in_both}
use Rattle.macro_body.proofs.hide_set.common_names.Given as goal

abbrev pub invariant-loop-name : goal.invariant-loop-name
invariant-loop-name l = spellings l.common.items ≡ in_both (spellings (take l.name-index l.names)) l.other
