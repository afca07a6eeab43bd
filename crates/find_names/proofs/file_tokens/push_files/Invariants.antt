use Rattle.std.proofs.Common.{◌≡◌, ◌||◌, take, drop}
use Rattle.std.specs.List.{list_any}
use Rattle.cs_base.specs.declared.positions.Part.{Part}
use Rattle.analysis.specs.FileTokens.{table_tokens}
use Rattle.find_names.specs.FileTokens.{has_span, is_span}
use Rattle.find_names.proofs.file_tokens.push_files.Given as goal

abbrev pub invariant-loop-number : goal.invariant-loop-number
invariant-loop-number l =
    (part : Part) → (has_span l.spans.items part || list_any (is_span part) (table_tokens l.number (drop l.number l.a.value.table)))
    ≡ (has_span l.initial.spans.items part || list_any (is_span part) (table_tokens 0 l.a.value.table))
