use Rattle.std.proofs.Common.{◌≡◌, ◌++◌, take}
use Rattle.std.specs.List.{flat_map}
use Rattle.line_shape.specs.MacroLine.{spellings}
use Rattle.macro_body.specs.Hides.{lacking}
use Rattle.macro_body.proofs.hide_set.push_lacking_parts.Given as goal

abbrev pub invariant-loop-part : goal.invariant-loop-part
invariant-loop-part l = spellings l.all.items ≡ spellings l.initial.all.items ++ lacking l.hides (flat_map (λ p. p) (take l.part-index l.parts))
