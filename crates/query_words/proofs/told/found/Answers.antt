use Rattle.std.proofs.Common.{◌∙◌, Some, ap}
use Rattle.std.proofs.lemmas.Option.{slice_get-get_or}
use Rattle.query_words.proofs.TellingLemmas.{same_said}
use Rattle.query_words.proofs.told.found.Goals as goal

pub returns-then-are_same : goal.returns-then-are_same
returns-then-are_same c = (
  c.loop-one.one-index,
  slice_get-get_or c.args.said.now c.loop-one.one-index _ c.loop-one-test.true ∙ ap Some (same_said _ c.args.facts.now c.if-are_same.ensures),
)
