use Rattle.std.proofs.Common.{◌≡◌, ◌++◌, drop}
use Rattle.analysis.specs.BroughtNumbers.{all_brought}
use Rattle.analysis.proofs.brought.all_brought.Given as goal

abbrev pub invariant-loop-unit : goal.invariant-loop-unit
invariant-loop-unit l = l.all.items ++ all_brought (drop l.unit-index l.units) ≡ all_brought l.units
