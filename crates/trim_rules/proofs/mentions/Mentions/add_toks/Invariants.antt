use Rattle.std.proofs.Common.{take}
use Rattle.trim_rules.specs.Mentions.{told_at, with_tokens, Widens}
use Rattle.trim_rules.proofs.mentions.Mentions.add_toks.Given as goal

abbrev pub invariant-loop-tok : goal.invariant-loop-tok
invariant-loop-tok l = Widens (λ name m. with_tokens name l.behind m (take l.tok-index l.toks)) (told_at l.initial.self.spans) (told_at l.self.spans)
