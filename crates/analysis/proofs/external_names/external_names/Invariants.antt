use Rattle.std.proofs.Common.{◌≡◌, ◌++◌, drop, length}
use Rattle.analysis.specs.Links.{external_names_from}
use Rattle.analysis.proofs.external_names.external_names.Given as goal

abbrev pub invariant-loop-k : goal.invariant-loop-k
invariant-loop-k l = record {
  counted : l.count ≡ length l.toks;
  rest : l.all.items ++ external_names_from l.bound.names l.k (drop l.k l.toks) ≡ external_names_from l.bound.names 0 l.toks;
}
