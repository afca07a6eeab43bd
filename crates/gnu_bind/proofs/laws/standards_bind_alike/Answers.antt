use Rattle.gnu_bind.proofs.StandardLemmas.{by_standards}
use Rattle.gnu_bind.proofs.laws.standards_bind_alike.Goals as goal

pub returns : goal.returns
returns c = by_standards
