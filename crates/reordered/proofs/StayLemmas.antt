-- What stays in a new order.
use Rattle.std.proofs.Common.{map, ap, ◌∙◌}
use Rattle.analysis.specs.Below.source_files.Files.{Table, Entry}
use Rattle.analysis.proofs.TableLemmas.{paths-from}
use Rattle.reordered.specs.Reordered.{reordered_bytes}
use Rattle.reordered.specs.Staying.{ReorderedPathsStay, ReorderedStandardsStay}

pub reordered_paths_stay : ReorderedPathsStay
reordered_paths_stay = λ members order old new is.
    ap (λ (table : Table). map (λ (e : Entry). e.path) table) is.table ∙ paths-from (reordered_bytes members order old) 0 old.table

pub reordered_standards_stay : ReorderedStandardsStay
reordered_standards_stay = λ members order old new is n u v there also. (is.units n u v there also).standard
