use Rattle.std.proofs.Common.{◌≡◌, ◌++◌, take}
use Rattle.line_shape.specs.MacroLine.{spellings}
use Rattle.macro_body.specs.Hides.{lacking}
use Rattle.macro_body.proofs.hide_set.push_lacking.Given as goal

abbrev pub invariant-loop-name : goal.invariant-loop-name
invariant-loop-name l = spellings l.all.items ≡ spellings l.initial.all.items ++ lacking l.hides (spellings (take l.name-index l.names))
