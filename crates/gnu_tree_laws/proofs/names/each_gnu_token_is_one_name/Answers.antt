use Rattle.gnu_tree_laws.proofs.GnuOnce.{names_apart}
use Rattle.gnu_tree_laws.proofs.names.each_gnu_token_is_one_name.Goals as goal

pub returns : goal.returns
returns c = names_apart
