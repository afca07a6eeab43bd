use Rattle.unused_names.specs.Lines.{GoOn, lines_in}
use Rattle.unused_names.proofs.lines.Lines.push_unit.Given as goal

abbrev pub invariant-loop-k : goal.invariant-loop-k
invariant-loop-k l =
    GoOn l.text l.bound.names 0 l.k (lines_in l.initial.self.all.items l.initial.self.needed) (lines_in l.self.all.items l.self.needed)
