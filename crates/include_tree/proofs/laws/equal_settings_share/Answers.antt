use Rattle.include_tree.proofs.SharedLemmas.{equal_settings_share}
use Rattle.include_tree.proofs.laws.equal_settings_share.Goals as goal

pub returns : goal.returns
returns c = record { share = equal_settings_share }
