use Rattle.std.proofs.Common.{◌≡◌, ◌++◌, drop}
use Rattle.std.specs.List.{flat_map}
use Rattle.query_report.specs.TokensText.{token_line}
use Rattle.query_report.proofs.unit_tokens.print_tokens.Given as goal

abbrev pub invariant-loop-tok : goal.invariant-loop-tok
invariant-loop-tok l = l.text.items ++ flat_map token_line (drop l.tok-index l.toks) ≡ flat_map token_line l.toks
