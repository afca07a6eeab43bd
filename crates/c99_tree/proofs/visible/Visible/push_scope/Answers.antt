use Rattle.std.proofs.Common.{arith, reverse}
use Rattle.std.proofs.lemmas.List.{length-reverse}
use Rattle.c99_tree.proofs.MarkLemmas.{open_in_le-length}
use Rattle.c99_tree.proofs.visible.Visible.push_scope.Goals as goal

pub overflow_add-self : goal.overflow_add-self
overflow_add-self c =
    omega (
      arith,
      c.self.invariant.counted,
      open_in_le-length (reverse c.self.inside.steps.items),
      length-reverse c.self.inside.steps.items,
      c.self.inside.steps.ok,
      c.self.inside.steps.small,
    )
