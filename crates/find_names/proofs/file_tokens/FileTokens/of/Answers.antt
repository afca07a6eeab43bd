use Rattle.std.proofs.Common.{◌∙◌}
use Rattle.find_names.proofs.file_tokens.FileTokens.of.Goals as goal

pub returns : goal.returns
returns c = λ part. c.in_ok-put_in_order.ensures.same part ∙ c.in_ok-spans.ensures part
