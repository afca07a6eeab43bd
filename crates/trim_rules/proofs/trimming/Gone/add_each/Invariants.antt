use Rattle.std.proofs.Common.{take}
use Rattle.trim_rules.specs.Gone.{AreGone}
use Rattle.trim_rules.proofs.trimming.Gone.add_each.Given as goal

abbrev pub invariant-loop-item : goal.invariant-loop-item
invariant-loop-item l =
    AreGone l.lines l.file (take l.item-index l.items) l.self.parts.items l.self.count
