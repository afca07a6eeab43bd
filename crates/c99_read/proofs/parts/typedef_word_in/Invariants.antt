use Rattle.std.proofs.Common.{◌≡◌}
use Rattle.c99_read.specs.State.{typedef_word_in}
use Rattle.c99_read.specs.Children.{from_child}
use Rattle.c99_read.proofs.parts.typedef_word_in.Given as goal

abbrev pub invariant-children : goal.invariant-children
invariant-children l = typedef_word_in (from_child l.k l.node.under) ≡ typedef_word_in l.node.under
