use Rattle.std.proofs.Common.{take}
use Rattle.trim_rules.specs.Mentions.{told_at, with_items, Widens}
use Rattle.trim_rules.proofs.mentions.Mentions.add_items.Given as goal

abbrev pub invariant-loop-one : goal.invariant-loop-one
invariant-loop-one l = Widens (λ name m. with_items l.a.value.table name m (take l.one-index l.reached)) (told_at l.initial.self.spans) (told_at l.self.spans)
