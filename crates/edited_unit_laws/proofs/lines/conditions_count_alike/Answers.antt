use Rattle.edited_unit_laws.proofs.ValueLemmas.{conditions_count_alike}
use Rattle.edited_unit_laws.proofs.lines.conditions_count_alike.Goals as goal

pub returns : goal.returns
returns c = conditions_count_alike
