use Rattle.std.proofs.Common.{sym, ap, ◌∙◌}
use Rattle.c99_read.specs.OpenNode.{with_last}
use Rattle.c99_read.specs.State.{last_declared}
use Rattle.c99_read.proofs.OpenNodeLemmas.{last_declared-put}
use Rattle.c99_read.proofs.open_node.OpenNode.last_declared.Goals as goal

pub returns-in-Some : goal.returns-in-Some
returns-in-Some c =
    c.name_below.ensures
    ∙ last_declared-put c.self.inside.tree.under c.in-Some.last
    ∙ ap (λ l. last_declared (with_last c.self.inside.tree l).under) (sym c.in-Some.is)
    ∙ ap (λ n. last_declared n.under) c.self.view_is
