use Rattle.std.specs.Option.{option_or}
use Rattle.trim_rules.specs.Judging.{told_of, Learns}
use Rattle.trim_rules.specs.Numbers.{first_answer}
use Rattle.trim_rules.proofs.JudgingLemmas.{why_at}
use Rattle.trim_rules.proofs.judging.Judging.note_units.Given as goal

abbrev pub invariant-loop-n : goal.invariant-loop-n
invariant-loop-n l = Learns (λ p w. option_or w (first_answer (why_at l.a.value p) l.n)) (told_of l.initial.self.whys) (told_of l.self.whys)
