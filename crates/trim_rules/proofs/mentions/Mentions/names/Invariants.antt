use Rattle.trim_rules.specs.Mentions.{told_at, HasNames}
use Rattle.trim_rules.proofs.mentions.Mentions.names.Given as goal

abbrev pub invariant-loop-k : goal.invariant-loop-k
invariant-loop-k l = HasNames l.events l.k (told_at l.mentions.spans)
