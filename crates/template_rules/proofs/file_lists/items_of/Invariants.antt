use Rattle.std.proofs.Common.{◌≡◌, ◌+◌, ◌++◌, ◌≤◌, ◌-◌, drop, length}
use Rattle.analysis.specs.Below.lexer.Tokens.{tokens_of}
use Rattle.template_rules.specs.FileLists.{items_of}
use Rattle.template_rules.proofs.file_lists.items_of.Given as goal

abbrev pub invariant-items : goal.invariant-items
invariant-items l =
    (1 ≤ l.k) × (l.items.items ++ items_of l.file.bytes (tokens_of l.file.number l.file.bytes) (drop (l.k - 1) l.list)
    ≡ items_of l.file.bytes (tokens_of l.file.number l.file.bytes) l.list)

abbrev pub decreases-items : goal.decreases-items
decreases-items l = length l.list - l.k
