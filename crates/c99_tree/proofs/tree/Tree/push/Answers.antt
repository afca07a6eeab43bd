use Rattle.std.proofs.Common.{refl}
use Rattle.c99_tree.proofs.TreeLemmas.{led-push}
use Rattle.c99_tree.proofs.tree.Tree.push.Goals as goal

pub returns-clause-ok : goal.returns-clause-ok
returns-clause-ok c = rw (← c.self.view_is) (rw c.in_ok-push.ensures.items (rw led-push refl))
