use Rattle.std.proofs.Common.{sym, subst, arith}
use Rattle.c_types.proofs.ChildWalks.{from_child-end}
use Rattle.scope_bind.specs.Carried.{IsBelow}
use Rattle.gnu_bind.proofs.tree_tokens.+tokens.Goals as goal

pub is_below-children-init : goal.is_below-children-init
is_below-children-init t c =
    subst (λ f. IsBelow c.args.end f) (sym (from_child-end c.args.tree.now.under c.len-count.result (omega (arith, c.len-count.ensures)))) tt
