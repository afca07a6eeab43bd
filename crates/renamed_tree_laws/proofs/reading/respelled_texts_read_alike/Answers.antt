use Rattle.renamed_tree_laws.proofs.RespelledTexts.{respelled_alike}
use Rattle.renamed_tree_laws.proofs.reading.respelled_texts_read_alike.Goals as goal

pub returns : goal.returns
returns c = respelled_alike
