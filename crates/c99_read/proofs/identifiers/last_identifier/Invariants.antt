use Rattle.std.proofs.Common.{◌≡◌, ℕ, Option}
use Rattle.c99_read.specs.Children.{from_child}
use Rattle.c99_grammar.specs.Standard.{grammar}
use Rattle.c99_read.specs.State.{last_identifier}
use Rattle.c99_read.proofs.identifiers.last_identifier.Given as goal

-- no identifier stands behind child k
abbrev pub invariant-children : goal.invariant-children
invariant-children l =
    (found : Option ℕ) → last_identifier (grammar l.dialect) l.toks (from_child l.k l.node.under) found ≡ found

abbrev pub decreases-children : goal.decreases-children
decreases-children l = l.k
