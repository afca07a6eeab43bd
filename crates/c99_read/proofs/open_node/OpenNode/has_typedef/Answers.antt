use Rattle.std.proofs.Common.{sym, ap, ◌∙◌}
use Rattle.c99_read.specs.OpenNode.{with_last}
use Rattle.c99_read.specs.State.{has_typedef}
use Rattle.c99_grammar.proofs.AmongLemmas.{in_first, in_second}
use Rattle.c99_read.proofs.OpenNodeLemmas.{has_typedef-put}
use Rattle.c99_read.proofs.open_node.OpenNode.has_typedef.Goals as goal

pub returns-then-has_typedef : goal.returns-then-has_typedef
returns-then-has_typedef c =
    in_first _ _ _ _ c.has_typedef.ensures c.if-has_typedef.true
    (has_typedef-put c.self.inside.tree.under c.in-Some.last
    ∙ ap (λ l. has_typedef (with_last c.self.inside.tree l).under) (sym c.in-Some.is)
    ∙ ap (λ n. has_typedef n.under) c.self.view_is)

pub returns-else-has_typedef : goal.returns-else-has_typedef
returns-else-has_typedef c =
    in_second _ _ _ _ _ c.has_typedef.ensures c.if-has_typedef.false c.is_typedef_part.ensures
    (has_typedef-put c.self.inside.tree.under c.in-Some.last
    ∙ ap (λ l. has_typedef (with_last c.self.inside.tree l).under) (sym c.in-Some.is)
    ∙ ap (λ n. has_typedef n.under) c.self.view_is)
