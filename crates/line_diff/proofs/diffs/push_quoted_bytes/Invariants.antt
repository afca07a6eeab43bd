use Rattle.std.proofs.Common.{◌≡◌, ◌++◌, drop}
use Rattle.std.specs.List.{flat_map}
use Rattle.line_diff.specs.FileText.{quoted_byte}
use Rattle.line_diff.proofs.diffs.push_quoted_bytes.Given as goal

abbrev pub invariant-loop-byte : goal.invariant-loop-byte
invariant-loop-byte l = l.text.items ++ flat_map quoted_byte (drop l.byte-index l.path) ≡ l.initial.text.items ++ flat_map quoted_byte l.path
