use Rattle.std.proofs.Common.{◌≡◌, length, reverse}
use Rattle.name_chains.specs.Members.{found_of, with_lifted}
use Rattle.scope_bind.specs.Known.{known}
use Rattle.scope_bind.proofs.LiftLemmas.{with_copies}
use Rattle.scope_bind.proofs.facts.Facts.lift_all.Given as goal

abbrev pub invariant-names : goal.invariant-names
invariant-names l =
    known l.self.toks (with_copies l.self.toks l.owner (reverse l.rest.items) l.self.facts)
    ≡ known l.initial.self.toks (with_lifted l.initial.self.toks l.owner (found_of l.number l.initial.self.facts) l.initial.self.facts)

abbrev pub decreases-names : goal.decreases-names
decreases-names l = length l.rest.items
