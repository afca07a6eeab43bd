use Rattle.gnu_bind.proofs.GnuCarried.{gnu_fronts_bind_alike as law}
use Rattle.gnu_bind.proofs.laws.gnu_fronts_bind_alike.Goals as goal

pub returns : goal.returns
returns c = law
