use Rattle.std.proofs.Common.{sym, ap, ◌∙◌, arith}
use Rattle.c99_read.specs.State.{has_typedef}
use Rattle.c99_read.proofs.ChildLemmas.{from_child-end, has_typedef-from, asked-yes, asked-no}
use Rattle.c99_read.proofs.parts.has_typedef.Goals as goal

pub returns-then-is_typedef_part_at : goal.returns-then-is_typedef_part_at
returns-then-is_typedef_part_at c =
    asked-yes _ _ _ _ _ c.children.invariant (has_typedef-from c.args.specs.now.under c.children.k) c.is_typedef_part_at.ensures c.if-is_typedef_part_at.true

pub children-preserved : goal.children-preserved
children-preserved c =
    asked-no _ _ _ _ _ c.children.invariant (has_typedef-from c.args.specs.now.under c.children.k) c.is_typedef_part_at.ensures c.if-is_typedef_part_at.false

pub returns : goal.returns
returns c =
    sym (sym c.children.invariant
    ∙ ap has_typedef (from_child-end c.args.specs.now.under c.children.k (omega (arith, c.children-test.false, c.len-count.ensures))))
