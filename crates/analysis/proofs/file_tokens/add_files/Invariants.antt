use Rattle.std.proofs.Common.{◌≡◌, ◌++◌, drop, map}
use Rattle.analysis.specs.FileTokens.{span_of, table_tokens}
use Rattle.analysis.proofs.file_tokens.add_files.Given as goal

-- the tokens so far and those still to come
abbrev pub invariant-loop-number : goal.invariant-loop-number
invariant-loop-number l =
    l.adding ++ map span_of (table_tokens l.number (drop l.number l.a.table)) ≡ l.initial.adding ++ map span_of (table_tokens 0 l.a.table)
