use Rattle.query_words.proofs.LawLemmas.{becomes_of, matches_of}
use Rattle.query_words.proofs.laws.patterns_are_replaced.Goals as goal

pub returns : goal.returns
returns c = λ pattern text. (becomes_of pattern text, matches_of pattern text)
