use Rattle.analysis.proofs.CountLemmas as count
use Rattle.analysis.proofs.tables.tokens_are_few.Goals as goal

pub returns : goal.returns
returns c = count.tokens_are_few
