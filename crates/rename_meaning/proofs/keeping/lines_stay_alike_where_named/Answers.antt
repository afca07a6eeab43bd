use Rattle.rename_meaning.proofs.AlikeLineLemmas.{lines_stay_alike_where_named}
use Rattle.rename_meaning.proofs.keeping.lines_stay_alike_where_named.Goals as goal

pub returns : goal.returns
returns c = lines_stay_alike_where_named
