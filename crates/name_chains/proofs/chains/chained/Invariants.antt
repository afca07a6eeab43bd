use Rattle.std.proofs.Common.{◌&&◌, reverse}
use Rattle.std.specs.Prelude.{find}
use Rattle.c_types.specs.Declarations.{is_named}
use Rattle.name_chains.specs.Latest.{passes}
use Rattle.name_chains.specs.Links.{has_key, IsLeft}
use Rattle.name_chains.specs.Chains.{name_key, name_key_of}
use Rattle.name_chains.proofs.chains.chained.Given as goal

abbrev pub invariant-chain : goal.invariant-chain
invariant-chain l =
    IsLeft (has_key (name_key_of l.numbers) (name_key l.numbers l.space l.i)) (find (λ d. is_named l.toks l.space l.i d && passes l.asked d))
    l.declared (reverse l.declared) l.place

abbrev pub decreases-chain : goal.decreases-chain
decreases-chain l = l.place
