use Rattle.std.proofs.Common.{arith}
use Rattle.c99_tree.specs.Tree.{count_of}
use Rattle.c99_tree.proofs.TreeLemmas.{count_of-led, count_of-plain, led_count-on}
use Rattle.c99_tree.proofs.tree.Tree.len.Goals as goal

pub overflow_add-result : goal.overflow_add-result
overflow_add-result c =
    let few = led_count-on c.self.inside.leads _ _ c.if-self.true c.self.invariant in
    omega (arith, few)

pub returns-then-self : goal.returns-then-self
returns-then-self c =
    let few = led_count-on c.self.inside.leads _ _ c.if-self.true c.self.invariant in
    rw (← c.self.view_is) (omega (arith, few, count_of-led c.self.inside.leads c.self.inside.first c.self.inside.children.items c.if-self.true))

pub returns-else-self : goal.returns-else-self
returns-else-self c =
    rw (← c.self.view_is) (omega (arith, count_of-plain c.self.inside.leads c.self.inside.first c.self.inside.children.items c.if-self.false, c.self.inside.children.ok.0))
