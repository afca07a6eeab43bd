use Rattle.std.proofs.Common.{◌≡◌, ◌+◌, ◌≤◌, length}
use Rattle.macro_rules.specs.Levels.{paired}
use Rattle.macro_rules.proofs.lines.is_paired.Given as goal

abbrev pub invariant-tokens : goal.invariant-tokens
invariant-tokens l = (l.level + length l.rest ≤ length l.toks) × (paired l.level l.rest ≡ paired 0 l.toks)

abbrev pub decreases-tokens : goal.decreases-tokens
decreases-tokens l = length l.rest
