use Rattle.std.proofs.Common.{◌≡◌, ◌++◌, drop}
use Rattle.query_report.specs.Order.{numbers_from}
use Rattle.query_report.proofs.file_order.source_numbers.Given as goal

abbrev pub invariant-loop-number : goal.invariant-loop-number
invariant-loop-number l = l.numbers.items ++ numbers_from l.number (drop l.number l.t.table) ≡ numbers_from 0 l.t.table
