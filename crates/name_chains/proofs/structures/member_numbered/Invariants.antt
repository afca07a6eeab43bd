use Rattle.std.proofs.Common.{reverse}
use Rattle.std.specs.Prelude.{filter, slice_get}
use Rattle.name_chains.specs.Places.{is_member_of}
use Rattle.name_chains.specs.Links.{IsLeft}
use Rattle.name_chains.proofs.structures.member_numbered.Given as goal

abbrev pub invariant-members : goal.invariant-members
invariant-members l =
    IsLeft (is_member_of l.number) (λ ds. slice_get (reverse (filter (is_member_of l.number) ds)) l.n) l.declared (reverse l.declared) l.place

abbrev pub decreases-members : goal.decreases-members
decreases-members l = l.place
