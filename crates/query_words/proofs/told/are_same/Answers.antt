use Rattle.query_words.proofs.TellingLemmas.{same_if}
use Rattle.query_words.proofs.told.are_same.Goals as goal

pub returns : goal.returns
returns c = same_if c.args.x.now c.args.y.now c.are_same_uses.result c.if-not-are_same_kinds.ensures c.if-not-are_same_names.ensures c.are_same_uses.ensures
