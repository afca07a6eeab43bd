use Rattle.reordered_text_laws.proofs.FrontOutlines.{agrees_behind}
use Rattle.reordered_text_laws.proofs.texts.names_agree_behind_a_typedef.Goals as goal

pub returns : goal.returns
returns c = record { agrees = agrees_behind }
