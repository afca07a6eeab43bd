use Rattle.std.proofs.Common.{get_or}
use Rattle.std.proofs.lemmas.Option.{slice_get-get_or}
use Rattle.eclass_map.proofs.TokenFacts.{no_added}
use Rattle.eclass_map.proofs.WholenessFacts.{entry_is_in}
use Rattle.eclass_map.proofs.wholeness.beginning_near.Goals as goal

pub returns-then-is_same : goal.returns-then-is_same
returns-then-is_same c =
    let tokens = c.args.tokens.now in
    (entry_is_in tokens c.args.guess (get_or tokens c.args.guess no_added) (slice_get-get_or tokens c.args.guess no_added c.if-guess-tokens.true), c.if-is_same.ensures)
