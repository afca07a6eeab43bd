use Rattle.std.proofs.Common.{sym, ap, ◌∙◌, ◌++◌, arith}
use Rattle.std.proofs.lemmas.List.{append-nil}
use Rattle.c_types.specs.Parameters.{parameters_in}
use Rattle.c_types.proofs.ChildWalks.{from_child-end}
use Rattle.c_types.proofs.parameters.+parameters.Goals as goal

pub push_parameters-returns : goal.push_parameters-returns
push_parameters-returns t c =
    sym (append-nil c.children.out.items)
    ∙ (ap (λ f. c.children.out.items ++ parameters_in f) (sym (from_child-end c.args.tree.now.under c.children.k (omega (arith, c.children-test.false, c.len-count.ensures))))
    ∙ c.children.invariant)
