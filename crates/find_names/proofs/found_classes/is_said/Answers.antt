use Rattle.std.proofs.Common.{◌≡◌, List, ℕ, Ok, subst}
use Rattle.query_words.specs.Queries.{value}
use Rattle.query_words.specs.Reading.{parsed}
use Rattle.query_words.specs.Walk.{decided}
use Rattle.find_names.proofs.FoundLemmas.{decided_so}
use Rattle.find_names.proofs.found_classes.is_said.Goals as goal

pub returns-in_ok-remember-in-None-clause-answer : goal.returns-in_ok-remember-in-None-clause-answer
returns-in_ok-remember-in-None-clause-answer c =
    subst (λ (s : List ℕ). Ok c.in_ok-holds-in-None.holds ≡ decided (value c.args.facts.now s) (parsed c.args.query.now)) c.spelling.ensures
    (decided_so c.args.query.now c.args.compiled.now c.args.facts.now c.spelling.result.now c.in_ok-holds-in-None.holds c.requires.compiled
    c.in_ok-holds-in-None.ensures)

pub returns-in_ok-remember-in-None-clause-told : goal.returns-in_ok-remember-in-None-clause-told
returns-in_ok-remember-in-None-clause-told c =
    c.in_ok-remember-in-None.ensures c.args.query.now c.spelling.result.now c.requires.told
    (decided_so c.args.query.now c.args.compiled.now c.args.facts.now c.spelling.result.now c.in_ok-holds-in-None.holds c.requires.compiled
    c.in_ok-holds-in-None.ensures)
