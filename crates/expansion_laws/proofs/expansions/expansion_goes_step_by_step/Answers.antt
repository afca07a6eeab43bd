use Rattle.macro_expand.proofs.WholeLemmas.{whole_is_step, whole_falls, only_whole}
use Rattle.expansion_laws.proofs.expansions.expansion_goes_step_by_step.Goals as goal

pub returns : goal.returns
returns c = record { steps = whole_is_step; only = only_whole; falls = whole_falls }
