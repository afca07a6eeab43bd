use Rattle.rename_rules.specs.Offences.{no_identifier_places}
use Rattle.rename_rules.proofs.member_offences.no_identifiers.Goals as goal

pub returns : goal.returns
unfolding no_identifier_places
returns c = rw (c.toks.ensures, c.analysis.ensures, c.class-class.ensures) at c.no_identifiers_in.ensures
