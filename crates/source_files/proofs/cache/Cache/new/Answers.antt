use Rattle.std.proofs.Common.{◌≡◌, refl, arith, [], ◌∷◌}
use Rattle.source_files.specs.Files.{Table, Lines, entry, lines_path, files_opened, bytes_opened}
use Rattle.source_files.specs.CacheFields.{IsCache}
use Rattle.source_files.proofs.cache.Cache.new.Goals as goal

empty : (t : Table) → t ≡ entry lines_path Lines ∷ [] → IsCache t 0 0 0
unfolding files_opened bytes_opened
empty t h = rw h (record { counted = refl; measured = refl; few_files = omega arith; few_bytes = omega arith; few_toks = omega arith })

pub invariant_of-result : goal.invariant_of-result
invariant_of-result c = empty c.in_ok-table.table c.in_ok-table.ensures
