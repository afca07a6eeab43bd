use Rattle.std.proofs.Common.{sym, ap, ◌∙◌, arith}
use Rattle.c_types.specs.Trees.{declarator_type}
use Rattle.c_types.proofs.ChildWalks.{from_child-end}
use Rattle.c_types.proofs.declarators.+typed.Goals as goal

pub declarator_type-returns : goal.declarator_type-returns
declarator_type-returns t c =
    sym (ap (declarator_type c.parts.typed) (from_child-end c.args.declarator.now.under c.parts.k (omega (arith, c.parts-test.false, c.len-count.ensures))))
    ∙ c.parts.invariant
