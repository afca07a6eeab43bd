use Rattle.std.proofs.Common.{◌≡◌, ◌++◌, map, take}
use Rattle.std.specs.Prelude.{filter}
use Rattle.cs_base.specs.Token.{Token, has_origins}
use Rattle.analysis.specs.FileTokens.{span_of}
use Rattle.analysis.proofs.file_tokens.add_file.Given as goal

abbrev pub invariant-loop-tok : goal.invariant-loop-tok
invariant-loop-tok l =
    l.adding ≡ l.initial.adding ++ map span_of (filter (λ (t : Token). has_origins t.kind) (take l.tok-index l.toks))
