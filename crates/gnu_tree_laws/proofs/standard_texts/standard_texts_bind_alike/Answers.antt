use Rattle.gnu_tree_laws.proofs.GnuStandard.{standard_texts}
use Rattle.gnu_tree_laws.proofs.standard_texts.standard_texts_bind_alike.Goals as goal

pub returns : goal.returns
returns c = standard_texts
