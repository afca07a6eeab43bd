use Rattle.edited_unit_laws.proofs.UnitLineLemmas.{item_texts_are_renamed, operands_are_renamed, conditions_stay}
use Rattle.edited_unit_laws.proofs.lines.unit_lines_are_renamed.Goals as goal

pub returns : goal.returns
returns c = record { items = item_texts_are_renamed; operands = operands_are_renamed; values = conditions_stay }
