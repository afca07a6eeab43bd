use Rattle.edited_unit_laws.proofs.MacroLineLemmas.{definitions_are_renamed}
use Rattle.edited_unit_laws.proofs.lines.definitions_are_renamed.Goals as goal

pub returns : goal.returns
returns c = definitions_are_renamed
