use Rattle.query_words.specs.Reading.{is_of_pattern}
use Rattle.std.proofs.lemmas.List.Sums.{prefix_len-le-length}
use Rattle.query_words.proofs.atoms.pattern_of.Goals as goal

pub split_at-requires : goal.split_at-requires
split_at-requires c = rw c.pattern_len.ensures (prefix_len-le-length is_of_pattern c.args.rest.now)
