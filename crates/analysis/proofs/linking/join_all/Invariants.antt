use Rattle.std.proofs.Common.{drop}
use Rattle.analysis.specs.Joins.{Awaits}
use Rattle.analysis.proofs.linking.join_all.Given as goal

abbrev pub invariant-loop-link : goal.invariant-loop-link
invariant-loop-link l = Awaits (drop l.link-index l.links) l.links l.initial.classes l.classes
