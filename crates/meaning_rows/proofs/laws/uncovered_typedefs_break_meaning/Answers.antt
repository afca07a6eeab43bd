use Rattle.meaning_rows.proofs.BrokenRows.{hidden_typedef_offence, hidden_typedef_broken}
use Rattle.meaning_rows.proofs.laws.uncovered_typedefs_break_meaning.Goals as goal

pub returns : goal.returns
returns c = record { offence = hidden_typedef_offence; broken = hidden_typedef_broken }
