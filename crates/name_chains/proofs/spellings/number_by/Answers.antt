use Rattle.name_chains.proofs.SpellingLemmas.{signs_keep}
use Rattle.name_chains.proofs.spellings.number_by.Goals as goal

pub returns-in_default-clause-signs : goal.returns-in_default-clause-signs
returns-in_default-clause-signs c =
    signs_keep c.args.signs.now c.args.spelling.now c.args.spellings.now c.number_in-in_default.new.spellings c.number_in-in_default.result
    c.number_in-in_default.ensures c.requires.signs
