use Rattle.std.proofs.Common.{◌≡◌, ℕ, arith}
use Rattle.source_files.specs.Files.{Table}
use Rattle.source_files.specs.CacheFields.{IsCache}
use Rattle.source_files.proofs.cache.Cache.shared.Goals as goal

lent : (t own : Table) (files bytes toks : ℕ) → t ≡ own → IsCache own files bytes toks → IsCache t files bytes 0
lent t own files bytes toks h is =
    rw h (record { counted = is.counted; measured = is.measured; few_files = is.few_files; few_bytes = is.few_bytes; few_toks = omega arith })

pub invariant_of-result : goal.invariant_of-result
invariant_of-result c = lent c.in_ok-table.table c.self.inside.table c.self.inside.files c.self.inside.bytes c.self.inside.toks c.in_ok-table.ensures c.self.invariant
