use Rattle.std.proofs.Common.{◌≡◌, length, take}
use Rattle.line_shape.specs.MacroLine.{spellings}
use Rattle.macro_body.proofs.name_parts.are_alike.Given as goal

abbrev pub invariant-loop-k : goal.invariant-loop-k
invariant-loop-k l = record {
  same : spellings (take l.k l.xs) ≡ spellings (take l.k l.ys);
  end : l.k-end ≡ length l.xs;
}
