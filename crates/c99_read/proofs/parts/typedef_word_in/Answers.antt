use Rattle.std.proofs.Common.{sym, ap, ◌∙◌, arith}
use Rattle.c99_read.specs.State.{typedef_word_in}
use Rattle.c99_read.proofs.ChildLemmas.{from_child-end, typedef_word_in-from, asked-yes, asked-no}
use Rattle.c99_read.proofs.parts.typedef_word_in.Goals as goal

pub returns-then-is_typedef_word_at : goal.returns-then-is_typedef_word_at
returns-then-is_typedef_word_at c =
    asked-yes _ _ _ _ _ c.children.invariant (typedef_word_in-from c.args.node.now.under c.children.k) c.is_typedef_word_at.ensures c.if-is_typedef_word_at.true

pub children-preserved : goal.children-preserved
children-preserved c =
    asked-no _ _ _ _ _ c.children.invariant (typedef_word_in-from c.args.node.now.under c.children.k) c.is_typedef_word_at.ensures c.if-is_typedef_word_at.false

pub returns : goal.returns
returns c =
    sym (sym c.children.invariant
    ∙ ap typedef_word_in (from_child-end c.args.node.now.under c.children.k (omega (arith, c.children-test.false, c.len-count.ensures))))
