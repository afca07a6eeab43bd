use Rattle.std.proofs.Common.{arith}
use Rattle.source_files.proofs.FileTableLemmas.{length-table, table-once, table-text}
use Rattle.source_files.proofs.file_table.FileTable.next_number.Goals as goal

pub returns-clause-answer : goal.returns-clause-answer
returns-clause-answer c = rw (← c.self.view_is) (omega (arith, length-table _ _ c.self.invariant.each, c.len.ensures))

pub returns-clause-once : goal.returns-clause-once
returns-clause-once c = rw (← c.self.view_is) (table-once _ _ c.self.invariant)

pub returns-clause-text : goal.returns-clause-text
returns-clause-text c = rw (← c.self.view_is) (table-text _ _ c.self.invariant)
