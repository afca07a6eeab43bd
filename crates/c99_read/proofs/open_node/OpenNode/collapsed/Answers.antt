use Rattle.std.proofs.Common.{sym, ap, ◌∙◌}
use Rattle.c99_tree.specs.Tree.{collapsed}
use Rattle.c99_read.specs.OpenNode.{with_last}
use Rattle.c99_read.proofs.OpenNodeLemmas.{collapsed-last}
use Rattle.c99_read.proofs.open_node.OpenNode.collapsed.Goals as goal

pub returns-then-len-eq0 : goal.returns-then-len-eq0
returns-then-len-eq0 c =
    collapsed-last c.self.inside.tree c.in-Some.only (sym c.len.ensures ∙ c.if-len-eq0.true)
    ∙ ap (λ l. collapsed (with_last c.self.inside.tree l)) (sym c.in-Some.is)
    ∙ ap collapsed c.self.view_is
