use Rattle.std.proofs.Common.{◌≡◌, ◌++◌, reverse, take}
use Rattle.std.specs.Prelude.{filter_map}
use Rattle.name_chains.specs.Entering.{kept_here}
use Rattle.name_chains.proofs.chains.Chains.keep.Given as goal

abbrev pub invariant-kept : goal.invariant-kept
invariant-kept l = record {
  same : l.self.toks ≡ l.initial.self.toks;
  kept : reverse l.self.declared
      ≡ reverse l.initial.self.declared ++ filter_map (kept_here l.list l.depth l.from l.to) (take l.k (reverse l.initial.self.declared));
}
