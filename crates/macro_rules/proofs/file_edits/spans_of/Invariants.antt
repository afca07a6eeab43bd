use Rattle.std.proofs.Common.{◌≡◌, ◌++◌, ◌≤◌, ◌-◌, drop, length}
use Rattle.macro_rules.specs.Edits.{spans_of}
use Rattle.macro_rules.specs.Files.{toks_in}
use Rattle.macro_rules.proofs.file_edits.spans_of.Given as goal

abbrev pub invariant-items : goal.invariant-items
invariant-items l = (1 ≤ l.k) × (l.items.items ++ spans_of l.file.bytes (toks_in l.file) (drop (l.k - 1) l.list) ≡ spans_of l.file.bytes (toks_in l.file) l.list)

abbrev pub decreases-items : goal.decreases-items
decreases-items l = length l.list - l.k
