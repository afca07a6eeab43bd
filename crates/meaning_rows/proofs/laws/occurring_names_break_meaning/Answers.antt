use Rattle.meaning_rows.proofs.BrokenRows.{two_objects_offence, two_objects_broken}
use Rattle.meaning_rows.proofs.laws.occurring_names_break_meaning.Goals as goal

pub returns : goal.returns
returns c = record { offence = two_objects_offence; broken = two_objects_broken }
