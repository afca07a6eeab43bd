use Rattle.std.proofs.Common.{sym, ◌∙◌}
use Rattle.analysis.proofs.KnownLemmas.{known_unlike, own_same, met_whole, met_after}
use Rattle.analysis.proofs.joining.join_first.Goals as goal

pub returns-then-not-are_alike-clause-known : goal.returns-then-not-are_alike-clause-known
returns-then-not-are_alike-clause-known c =
    known_unlike c.args.x.now c.args.first.now c.args.classes.now c.args.is_own c.requires (sym c.are_alike.ensures ∙ c.if-not-are_alike.true)

pub join_own-requires-clause-same : goal.join_own-requires-clause-same
join_own-requires-clause-same c = own_same c.args.x.now c.args.first.now c.args.classes.now c.args.is_own c.if-is_own.true c.requires

pub join_known-requires-clause-whole : goal.join_known-requires-clause-whole
join_known-requires-clause-whole c =
    met_whole c.args.x.now c.args.first.now c.args.classes.now c.args.is_own c.if-is_own.false c.requires (sym c.are_alike.ensures ∙ c.if-not-are_alike.false)

pub returns-then-join_known-clause-known : goal.returns-then-join_known-clause-known
returns-then-join_known-clause-known c =
    met_after c.args.x.now c.args.first.now c.args.classes.now c.join_known.new.classes c.args.is_own c.if-is_own.false c.requires (c.join_known.ensures c.if-join_known.true)
