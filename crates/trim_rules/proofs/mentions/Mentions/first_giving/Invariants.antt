use Rattle.std.proofs.Common.{◌≡◌, ◌-◌}
use Rattle.trim_rules.specs.Held.{held_giving, first_held_giving}
use Rattle.trim_rules.specs.Mentions.{told_at}
use Rattle.trim_rules.specs.Numbers.{first_from}
use Rattle.trim_rules.proofs.mentions.Mentions.first_giving.Given as goal

abbrev pub invariant-loop-i : goal.invariant-loop-i
invariant-loop-i l =
    first_held_giving (told_at l.self.spans) l.events l.k l.end
    ≡ first_from (held_giving (told_at l.self.spans) l.events l.k l.end) l.i (l.end - l.i)
