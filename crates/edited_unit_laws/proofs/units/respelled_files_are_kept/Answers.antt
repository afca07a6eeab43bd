use Rattle.edited_unit_laws.proofs.RespelledLemmas.{edited_files_are_kept, respelled_files_are_kept}
use Rattle.edited_unit_laws.proofs.units.respelled_files_are_kept.Goals as goal

pub returns : goal.returns
returns c = record { files = respelled_files_are_kept; edited = edited_files_are_kept }
