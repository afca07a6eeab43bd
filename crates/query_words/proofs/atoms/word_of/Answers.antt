use Rattle.query_words.specs.Reading.{is_small}
use Rattle.std.proofs.lemmas.List.Sums.{prefix_len-le-length}
use Rattle.query_words.proofs.atoms.word_of.Goals as goal

pub split_at-requires : goal.split_at-requires
split_at-requires c = rw c.word_len.ensures (prefix_len-le-length is_small c.args.rest.now)
