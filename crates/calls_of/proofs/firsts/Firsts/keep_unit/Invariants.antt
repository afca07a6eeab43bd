use Rattle.std.proofs.Common.{drop}
use Rattle.analysis.specs.Below.linkage_join.Firsts.{first_at}
use Rattle.analysis.specs.Links.{external_names_from}
use Rattle.calls_of.proofs.ExternalLemmas.{AddsTo}
use Rattle.calls_of.proofs.firsts.Firsts.keep_unit.Given as goal

abbrev pub invariant-loop-k : goal.invariant-loop-k
invariant-loop-k l =
    AddsTo l.project (external_names_from l.bound.names l.k (drop l.k l.toks)) (external_names_from l.bound.names 0 l.toks) (first_at l.initial.self.toks) (first_at l.self.toks)
