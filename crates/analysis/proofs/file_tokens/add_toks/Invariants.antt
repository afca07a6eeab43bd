use Rattle.std.proofs.Common.{◌≡◌, ◌++◌, map, take}
use Rattle.analysis.specs.FileTokens.{span_of}
use Rattle.analysis.proofs.file_tokens.add_toks.Given as goal

abbrev pub invariant-loop-tok : goal.invariant-loop-tok
invariant-loop-tok l = l.adding ≡ l.initial.adding ++ map span_of (take l.tok-index l.toks)
