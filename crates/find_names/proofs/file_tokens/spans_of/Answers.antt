use Rattle.std.proofs.Common.{ap}
use Rattle.find_names.specs.FileTokens.{has_span}
use Rattle.find_names.proofs.TokenLemmas.{tokens_are}
use Rattle.find_names.proofs.file_tokens.spans_of.Goals as goal

pub returns : goal.returns
returns c =
    let numbers = rw c.numbers_brought.ensures at c.in_ok-push_all.ensures in
    λ part.
    tokens_are c.args.a.now.value part (has_span c.new-spans.result.items part) (has_span c.push_files.new.spans.items part) (has_span c.push_all.new.spans.items part)
    (ap (λ ps. has_span ps part) c.new-spans.ensures.items) (c.in_ok-push_files.ensures part) (numbers part)
