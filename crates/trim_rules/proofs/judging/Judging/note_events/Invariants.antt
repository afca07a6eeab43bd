use Rattle.std.specs.Option.{option_or}
use Rattle.analysis.specs.Analysis.{UnitAnalysis}
use Rattle.analysis.specs.Below.source_files.Files.{Table}
use Rattle.trim_rules.specs.Held.{AreReasonsOf}
use Rattle.trim_rules.specs.Judging.{told_of, Learns}
use Rattle.trim_rules.specs.Numbers.{first_answer}
use Rattle.trim_rules.specs.Staying.{event_why}
use Rattle.trim_rules.proofs.judging.Judging.note_events.Given as goal

abbrev pub invariant-loop-k : goal.invariant-loop-k
invariant-loop-k l =
    (table : Table) (u : UnitAnalysis) → AreReasonsOf table u l.reasons
    → Learns (λ p w. option_or w (first_answer (event_why table p u) l.k)) (told_of l.initial.self.whys) (told_of l.self.whys)
