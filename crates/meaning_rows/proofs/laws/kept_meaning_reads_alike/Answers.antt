use Rattle.meaning_rows.proofs.ClauseLemmas as lemmas
use Rattle.meaning_rows.proofs.laws.kept_meaning_reads_alike.Goals as goal

pub returns : goal.returns
returns c = lemmas.kept_meaning_reads_alike
