use Rattle.rename_rules.specs.Offences.{clashing_places}
use Rattle.rename_rules.proofs.token_offences.clashing.Goals as goal

pub returns : goal.returns
unfolding clashing_places
returns c = rw (c.toks.ensures, c.analysis-a.ensures, c.class.ensures) at c.clashing_in_all.ensures
