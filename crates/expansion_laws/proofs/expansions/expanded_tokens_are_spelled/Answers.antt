use Rattle.expansion_laws.proofs.ShapeLemmas.{words_are_names, names_are_words}
use Rattle.expansion_laws.proofs.SpelledLaw.{tokens_are_spelled}
use Rattle.expansion_laws.proofs.expansions.expanded_tokens_are_spelled.Goals as goal

pub returns : goal.returns
returns c = record { spelled = tokens_are_spelled; words = record { names = words_are_names; words = names_are_words } }
