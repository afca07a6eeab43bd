use Rattle.std.proofs.Common.{◌≡◌}
use Rattle.batch_run.specs.Taking.{texts_of}
use Rattle.batch_run.proofs.line_parts.words.Given as goal

abbrev pub invariant-loop-word : goal.invariant-loop-word
invariant-loop-word l = texts_of l.words.items ≡ texts_of l.yielded
