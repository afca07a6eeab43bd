use Rattle.std.proofs.Common.{◌≡◌, ◌-◌, suc, sym, ◌∙◌, arith}
use Rattle.c99_tree.specs.Tree.{count_of}
use Rattle.c99_read.proofs.ChildLemmas.{last_declared-none, last_declared-last}
use Rattle.c99_read.proofs.parts.last_declared.Goals as goal

pub returns-then-count-eq0 : goal.returns-then-count-eq0
returns-then-count-eq0 c =
    let none : count_of c.args.node.now.under ≡ 0 = omega (arith, c.len-count.ensures, c.if-count-eq0.true) in
    sym (last_declared-none _ none)

pub returns : goal.returns
returns c =
    let some : count_of c.args.node.now.under ≡ suc (c.len-count.result - 1) = omega (arith, c.len-count.ensures, c.if-count-eq0.false) in
    c.declared_by.ensures ∙ sym (last_declared-last _ _ some)
