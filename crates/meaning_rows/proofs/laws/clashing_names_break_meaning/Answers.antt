use Rattle.meaning_rows.proofs.BrokenRows.{pasted_names_offence, pasted_names_broken}
use Rattle.meaning_rows.proofs.laws.clashing_names_break_meaning.Goals as goal

pub returns : goal.returns
returns c = record { offence = pasted_names_offence; broken = pasted_names_broken }
