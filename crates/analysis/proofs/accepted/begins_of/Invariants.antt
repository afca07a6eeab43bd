use Rattle.std.proofs.Common.{◌≡◌, ◌++◌, drop, map}
use Rattle.analysis.specs.GnuUnits.{gnu_begin}
use Rattle.analysis.proofs.accepted.begins_of.Given as goal

abbrev pub invariant-loop-unit : goal.invariant-loop-unit
invariant-loop-unit l = l.begins.items ++ map gnu_begin (drop l.unit-index l.units) ≡ map gnu_begin l.units
