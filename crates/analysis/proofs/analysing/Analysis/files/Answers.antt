use Rattle.analysis.proofs.SpellingLemmas.{number_file}
use Rattle.analysis.proofs.analysing.Analysis.files.Goals as goal

pub returns-clause-lines : goal.returns-clause-lines
returns-clause-lines c =
    rw (← c.self.view_is) (λ p character none. number_file c.self.inside.accepted c.self.inside.numbers.items p c.self.invariant.numbered character none)
