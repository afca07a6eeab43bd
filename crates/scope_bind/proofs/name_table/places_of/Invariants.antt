use Rattle.std.proofs.Common.{take}
use Rattle.scope_bind.specs.Names.{ArePlaces}
use Rattle.scope_bind.proofs.name_table.places_of.Given as goal

abbrev pub invariant-names : goal.invariant-names
invariant-names l = ArePlaces (take l.k l.names) l.places.items
