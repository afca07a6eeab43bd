use Rattle.meaning_rows.proofs.PreprocessedRows.{two_objects_preprocessed, pasted_names_preprocessed, hidden_typedef_preprocessed, two_names_preprocessed}
use Rattle.meaning_rows.proofs.laws.rows_are_preprocessed.Goals as goal

pub returns : goal.returns
returns c = record { objects = two_objects_preprocessed; names = pasted_names_preprocessed; typedefs = hidden_typedef_preprocessed; shared = two_names_preprocessed }
