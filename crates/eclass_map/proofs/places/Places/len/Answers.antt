use Rattle.std.proofs.Common.{length, ap, arith}
use Rattle.eclass_map.specs.Places.{PlaceList}
use Rattle.eclass_map.proofs.RunFacts.{length-places_of}
use Rattle.eclass_map.proofs.places.Places.len.Goals as goal

pub returns : goal.returns
returns c =
    omega (arith, length-places_of 0 c.self.inside.count c.self.inside.runs.items c.self.invariant, ap (λ (p : PlaceList). length p.list) c.self.view_is)
