use Rattle.std.proofs.Common.{drop}
use Rattle.analysis.specs.Below.linkage_join.Firsts.{first_at}
use Rattle.analysis.specs.Links.{names_of_units}
use Rattle.calls_of.proofs.ExternalLemmas.{UnitsTo}
use Rattle.calls_of.proofs.firsts.Firsts.keep_units.Given as goal

abbrev pub invariant-loop-i : goal.invariant-loop-i
invariant-loop-i l =
    UnitsTo (names_of_units (drop l.i l.units) (drop l.i l.all)) (names_of_units l.units l.all) (first_at l.initial.self.toks) (first_at l.self.toks)
