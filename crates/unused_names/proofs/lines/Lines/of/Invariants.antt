use Rattle.unused_names.specs.Lines.{AreLines, lines_in}
use Rattle.unused_names.proofs.lines.Lines.of.Given as goal

abbrev pub invariant-loop-unit : goal.invariant-loop-unit
invariant-loop-unit l = AreLines l.a.value.units l.unit 0 (lines_in l.lines.all.items l.lines.needed)
