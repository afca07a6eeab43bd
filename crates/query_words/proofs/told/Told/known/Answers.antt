use Rattle.query_words.proofs.TellingLemmas.{found_told}
use Rattle.query_words.proofs.told.Told.known.Goals as goal

pub returns : goal.returns
returns c = found_told c.found.result c.deref.result.now c.args.self.now c.args.facts.now c.deref.ensures.value c.found.ensures
