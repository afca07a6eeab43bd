use Rattle.macro_rules.proofs.SetLemmas.{none_met}
use Rattle.macro_rules.proofs.positions.Slots.new.Goals as goal

pub returns : goal.returns
returns c = none_met _
