use Rattle.renamed_tree_laws.proofs.RespelledTexts.{one_kind_alike}
use Rattle.renamed_tree_laws.proofs.reading.texts_of_one_kind_read_alike.Goals as goal

pub returns : goal.returns
returns c = one_kind_alike
