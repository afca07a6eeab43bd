use Rattle.trim_rules.specs.Judging.{told_of, unless, Learns}
use Rattle.trim_rules.specs.Numbers.{is_below}
use Rattle.trim_rules.proofs.JudgingLemmas.{header_at}
use Rattle.trim_rules.proofs.judging.Judging.note_files.Given as goal

abbrev pub invariant-loop-number : goal.invariant-loop-number
invariant-loop-number l = Learns (λ p w. unless (is_below (header_at l.a.value.table p) l.number) w) (told_of l.initial.self.whys) (told_of l.self.whys)
