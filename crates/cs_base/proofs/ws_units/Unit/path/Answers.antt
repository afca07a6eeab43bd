use Rattle.cs_base.proofs.UnitLemmas.{IsUtf8-unit_path}
use Rattle.cs_base.proofs.ws_units.Unit.path.Goals as goal

pub returns-clause-utf8 : goal.returns-clause-utf8
returns-clause-utf8 c = IsUtf8-unit_path c.self.inside.path c.self.invariant.is_placed
