use Rattle.cscout_run.proofs.AnswerLemmas.{answers_alike}
use Rattle.cscout_run.proofs.laws.words_and_files_decide.Goals as goal

pub returns : goal.returns
returns c = answers_alike
