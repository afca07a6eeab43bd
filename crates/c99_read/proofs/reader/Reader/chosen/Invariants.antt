use Rattle.std.proofs.Common.{◌≡◌, ◌+◌, drop, map}
use Rattle.c99_grammar.specs.ItemsOf.{alternative_of}
use Rattle.c99_grammar.specs.Standard.{grammar}
use Rattle.c99_read.specs.Choosing.{chosen}
use Rattle.c99_read.proofs.reader.Reader.chosen.Given as goal

abbrev pub invariant-turns : goal.invariant-turns
invariant-turns l =
    chosen (grammar l.dialect) l.self.state (l.k + 1) (map alternative_of (drop l.k l.rows)) ≡ chosen (grammar l.dialect) l.self.state 1 (map alternative_of l.rows)
