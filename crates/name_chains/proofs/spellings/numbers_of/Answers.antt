use Rattle.std.proofs.lemmas.Result.{IfOk-weaker}
use Rattle.name_chains.specs.Spellings.{AreNumbers, AreNumbered}
use Rattle.name_chains.proofs.SpellingLemmas.{are_numbers}
use Rattle.name_chains.proofs.spellings.numbers_of.Goals as goal

pub returns : goal.returns
returns c =
    IfOk-weaker c.told.result (λ numbers. AreNumbered c.args.toks.now numbers.items c.told.new.spellings) (λ numbers. AreNumbers c.args.toks.now numbers.items)
    (λ numbers a. are_numbers c.args.toks.now numbers.items c.told.new.spellings a) c.told.ensures
