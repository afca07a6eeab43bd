use Rattle.meaning_rows.proofs.SharedRows.{two_names_offence, two_names_read, two_names_broken}
use Rattle.meaning_rows.proofs.laws.clashing_names_break_sharing.Goals as goal

pub returns : goal.returns
returns c = record { offence = two_names_offence; alone = two_names_read; broken = two_names_broken }
