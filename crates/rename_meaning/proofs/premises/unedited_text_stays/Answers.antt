use Rattle.rename_meaning.proofs.UneditedLemmas.{renamings_keep_unedited}
use Rattle.rename_meaning.proofs.premises.unedited_text_stays.Goals as goal

pub returns : goal.returns
returns c = renamings_keep_unedited
