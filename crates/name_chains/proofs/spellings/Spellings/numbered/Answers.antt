use Rattle.name_chains.proofs.SpellingLemmas.{numbered_key}
use Rattle.name_chains.proofs.spellings.Spellings.numbered.Goals as goal

pub returns-clause-numbered : goal.returns-clause-numbered
returns-clause-numbered c =
    rw (← c.self.view_is)
    (numbered_key (λ k. k.now) c.self.inside.spellings.keys c.insert_full.new.self.keys c.args.spelling c.in_ok-number.number
    c.in_ok-number.ensures.keys c.in_ok-number.ensures.index)
