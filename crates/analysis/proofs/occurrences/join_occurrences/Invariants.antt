use Rattle.std.proofs.Common.{◌≡◌, drop, length}
use Rattle.analysis.specs.Firsts.{TellFirsts}
use Rattle.analysis.specs.Joins.{Awaits, AreKnown}
use Rattle.analysis.specs.Links.{occurrence_links}
use Rattle.analysis.proofs.occurrences.join_occurrences.Given as goal

abbrev pub invariant-loop-k : goal.invariant-loop-k
invariant-loop-k l = record {
  counted : l.count ≡ length l.toks;
  firsts : TellFirsts l.bound.names l.k l.firsts.items;
  known : AreKnown l.firsts.items l.toks l.classes;
  placed : length l.places.items ≡ length l.toks;
  rest : Awaits (occurrence_links l.bound.names l.toks l.k (drop l.k l.toks)) (occurrence_links l.bound.names l.toks 0 l.toks) l.initial.classes l.classes;
}
