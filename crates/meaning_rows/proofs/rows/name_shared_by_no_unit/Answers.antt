use Rattle.meaning_rows.proofs.SharedRows.{still_apart}
use Rattle.meaning_rows.proofs.rows.name_shared_by_no_unit.Goals as goal

pub returns : goal.returns
returns c = still_apart
