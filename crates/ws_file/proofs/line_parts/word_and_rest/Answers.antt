use Rattle.std.proofs.Common.{not}
use Rattle.cs_base.specs.Units.{is_blank}
use Rattle.cs_base.proofs.ListLemmas.{prefix_len_le}
use Rattle.ws_file.proofs.line_parts.word_and_rest.Goals as goal

pub split_at-requires : goal.split_at-requires
split_at-requires c = rw c.word_len.ensures (prefix_len_le (λ b. not (is_blank b)) c.args.text.now)
