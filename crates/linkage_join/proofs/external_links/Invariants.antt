use Rattle.std.proofs.Common.{◌≡◌, ℕ, List, take}
use Rattle.linkage_join.specs.Linkage.{names_of, first_spelled, links_of}
use Rattle.linkage_join.specs.Firsts.{first_at}
use Rattle.linkage_join.proofs.external_links.Given as goal

abbrev pub invariant-loop-unit : goal.invariant-loop-unit
invariant-loop-unit l = ((project text : List ℕ) →
    first_at l.firsts.toks project text ≡ first_spelled text (names_of project (take l.unit-index l.units)))
    × (l.links.items ≡ links_of (take l.unit-index l.units))
