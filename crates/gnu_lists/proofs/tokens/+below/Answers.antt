use Rattle.std.proofs.Common.{sym, ap, ◌∙◌, ◌++◌, arith}
use Rattle.std.proofs.lemmas.List.{append-nil}
use Rattle.gnu_lists.specs.Tokens.{marks_below}
use Rattle.c_types.proofs.ChildWalks.{from_child-end}
use Rattle.gnu_lists.proofs.tokens.+below.Goals as goal

pub push_below-returns : goal.push_below-returns
push_below-returns t c =
    sym (append-nil c.children.out.items)
    ∙ (ap (λ f. c.children.out.items ++ marks_below c.args.toks.now c.args.mark f)
    (sym (from_child-end c.args.tree.now.under c.children.k (omega (arith, c.children-test.false, c.len-count.ensures))))
    ∙ c.children.invariant)
