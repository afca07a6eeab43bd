use Rattle.std.proofs.Common.{sym, ap, ◌∙◌, ◌++◌, arith}
use Rattle.std.proofs.lemmas.List.{append-nil}
use Rattle.c_types.specs.Parameters.{declared_names}
use Rattle.c_types.proofs.ChildWalks.{from_child-end}
use Rattle.c_types.proofs.parameters.declared_names.Goals as goal

pub returns : goal.returns
returns c =
    c.new.ensures
    ∙ (sym (append-nil c.children.names.items)
    ∙ (ap (λ f. c.children.names.items ++ declared_names f)
    (sym (from_child-end c.args.list.now.under c.children.k (omega (arith, c.children-test.false, c.len-count.ensures))))
    ∙ c.children.invariant))
