use Rattle.reordered_text_laws.proofs.ClassLemmas.{tokens_are_of_classes}
use Rattle.reordered_text_laws.proofs.marks.tokens_are_of_classes.Goals as goal

pub returns : goal.returns
returns c = record { classes = tokens_are_of_classes }
