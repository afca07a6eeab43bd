use Rattle.std.proofs.Common.{reverse}
use Rattle.std.specs.Prelude.{filter}
use Rattle.name_chains.specs.Links.{has_key, IsLeft}
use Rattle.name_chains.specs.Chains.{name_key_of, lasts}
use Rattle.name_chains.proofs.chains.place_over.Given as goal

abbrev pub invariant-ended : goal.invariant-ended
invariant-ended l =
    IsLeft (has_key (name_key_of l.numbers) (name_key_of l.numbers l.d)) (filter (lasts (name_key_of l.numbers) (name_key_of l.numbers l.d) l.d.from))
    l.declared (reverse l.declared) l.place

abbrev pub decreases-ended : goal.decreases-ended
decreases-ended l = l.place
