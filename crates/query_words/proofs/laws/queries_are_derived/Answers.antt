use Rattle.query_words.proofs.GrammarLemmas.{derives_of_parsed, parsed_is_read}
use Rattle.query_words.proofs.ReadingLemmas.{derived_is_parsed}
use Rattle.query_words.proofs.laws.queries_are_derived.Goals as goal

pub returns : goal.returns
returns c = (parsed_is_read, λ text q. (derives_of_parsed text q, derived_is_parsed text q))
