use Rattle.std.proofs.Common.{sym, ap, ◌∙◌, ◌++◌, arith}
use Rattle.std.proofs.lemmas.List.{append-nil}
use Rattle.c_types.specs.Lists.{odd_tokens}
use Rattle.c_types.proofs.ChildWalks.{from_child-end}
use Rattle.c_types.proofs.listing.push_odd.Goals as goal

pub returns : goal.returns
returns c =
    sym (append-nil c.children.out.items)
    ∙ (ap (λ f. c.children.out.items ++ odd_tokens c.children.number f)
    (sym (from_child-end c.args.tree.now.under c.children.n (omega (arith, c.children-test.false, c.len-count.ensures))))
    ∙ c.children.invariant)
