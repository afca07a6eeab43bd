use Rattle.std.proofs.Common.{◌≡◌, ◌++◌, drop}
use Rattle.std.specs.Prelude.{filter}
use Rattle.analysis.specs.FileTokens.{table_tokens}
use Rattle.offences.specs.Tokens.{holds_member}
use Rattle.rename_rules.proofs.held_tokens.push_files.Given as goal

abbrev pub invariant-loop-file : goal.invariant-loop-file
invariant-loop-file l =
    l.out.items ++ filter (holds_member l.class.members) (table_tokens l.file (drop l.file l.class.analysis.value.table)) ≡ l.initial.out.items ++ filter (holds_member l.class.members) (table_tokens 0 l.class.analysis.value.table)
