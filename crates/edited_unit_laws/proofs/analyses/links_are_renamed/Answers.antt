use Rattle.edited_unit_laws.proofs.LinksLemmas as lemmas
use Rattle.edited_unit_laws.proofs.analyses.links_are_renamed.Goals as goal

pub returns : goal.returns
returns c = lemmas.links_are_renamed
