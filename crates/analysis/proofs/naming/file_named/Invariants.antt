use Rattle.std.proofs.Common.{◌≡◌, drop}
use Rattle.analysis.specs.Naming.{file_named}
use Rattle.analysis.proofs.naming.file_named.Given as goal

abbrev pub invariant-loop-number : goal.invariant-loop-number
invariant-loop-number l = file_named l.path 0 l.a.table ≡ file_named l.path l.number (drop l.number l.a.table)
