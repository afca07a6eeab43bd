use Rattle.scope_bind.proofs.CarriedWalk.{fronts_bind_alike as law}
use Rattle.gnu_bind.proofs.laws.fronts_bind_alike.Goals as goal

pub returns : goal.returns
returns c = law
