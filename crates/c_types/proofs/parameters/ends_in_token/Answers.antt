use Rattle.std.proofs.Common.{sym, ap, ◌∙◌, arith}
use Rattle.c_types.specs.Parameters.{ends_in_token}
use Rattle.c_types.proofs.ChildWalks.{from_child-end}
use Rattle.c_types.proofs.parameters.ends_in_token.Goals as goal

pub children-preserved : goal.children-preserved
children-preserved c = c.is_token_at-ends.ensures ∙ c.children.invariant

pub returns : goal.returns
returns c =
    ap (λ f. ends_in_token c.children.ends f) (sym (from_child-end c.args.list.now.under c.children.k (omega (arith, c.children-test.false, c.len-count.ensures))))
    ∙ c.children.invariant
