use Rattle.std.proofs.Common.{◌≡◌, ◌+◌, ◌-◌, ◌<◌, ◌∷◌, [], drop, length}
use Rattle.macro_rules.specs.Lists.{marks_from}
use Rattle.macro_rules.proofs.lists.push_marks.Given as goal

abbrev pub invariant-tokens : goal.invariant-tokens
invariant-tokens l = (l.begin < l.k) × (l.level < l.k) × (l.out.items ≡ l.initial.out.items) × (marks_from l.marks.items l.level l.k (drop l.k l.toks) ≡ marks_from (l.begin ∷ []) 0 (l.begin + 1) (drop (l.begin + 1) l.toks))

abbrev pub decreases-tokens : goal.decreases-tokens
decreases-tokens l = length l.toks - l.k
