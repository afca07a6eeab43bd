use Rattle.find_names.specs.FileTokens.{is_part}
use Rattle.find_names.proofs.OrderLemmas.{NoneTo}
use Rattle.find_names.proofs.file_tokens.has_span.Given as goal

abbrev pub invariant-loop-at : goal.invariant-loop-at
invariant-loop-at l = NoneTo (λ p. is_part p l.part) l.spans l.at
