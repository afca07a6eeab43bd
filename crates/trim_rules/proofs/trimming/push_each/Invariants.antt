use Rattle.std.proofs.Common.{◌≡◌, ◌++◌, take}
use Rattle.std.specs.Prelude.{map}
use Rattle.analysis.specs.FileTokens.{span_of}
use Rattle.trim_rules.proofs.trimming.push_each.Given as goal

abbrev pub invariant-loop-tok : goal.invariant-loop-tok
invariant-loop-tok l = l.parts.items ≡ l.initial.parts.items ++ map span_of (take l.tok-index l.toks)
