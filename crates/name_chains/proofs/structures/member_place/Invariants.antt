use Rattle.std.proofs.Common.{reverse}
use Rattle.c_types.specs.declared.declarations.Space.TheVariants.{Members as members}
use Rattle.name_chains.specs.Links.{has_key, latest_place, IsLeft}
use Rattle.name_chains.specs.Chains.{name_key, name_key_of}
use Rattle.name_chains.specs.Ranks.{is_member_at}
use Rattle.name_chains.proofs.structures.member_place.Given as goal

abbrev pub invariant-chain : goal.invariant-chain
invariant-chain l =
    IsLeft (has_key (name_key_of l.numbers) (name_key l.numbers (members l.number) l.name_at)) (latest_place (is_member_at l.number l.name_at))
    l.declared (reverse l.declared) l.place

abbrev pub decreases-chain : goal.decreases-chain
decreases-chain l = l.place
