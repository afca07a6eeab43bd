-- The first sets belong to the table.
use Rattle.std.specs.Prelude.{◌≡◌, Bool}
use Rattle.std.specs.List.{list_any}
use Rattle.c99_grammar.specs.declared.dialects.Dialect.{Dialect}
use Rattle.c99_tree.specs.declared.production.Production.{Production}
use Rattle.c99_grammar.specs.declared.classes.Class.{Class}
use Rattle.c99_grammar.specs.Starting.{production_starts, holds, starts}
use Rattle.c99_grammar.specs.Standard.{grammar}

-- some alternative of the production is taken where c stands before d
abbrev pub alternative_starts : Dialect → Production → Class → Class → Bool
alternative_starts s p c d =
    list_any (λ a. holds (grammar s) a.test (starts (grammar s) a.body c d) c d) ((grammar s).table p)

-- by each dialect a production starts exactly where one of its alternatives is taken
abbrev pub FirstSetsAreTheTables : Type 0
FirstSetsAreTheTables = (s : Dialect) (p : Production) (c d : Class)
    → production_starts (grammar s) p c d ≡ alternative_starts s p c d
