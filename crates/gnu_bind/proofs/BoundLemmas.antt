-- The binding of a unit, by what is known at its end.
use Rattle.std.proofs.Common.{◌≡◌, List, ap}
use Rattle.cs_base.specs.Token.{Token}
use Rattle.c99_tree.specs.Tree.{Node}
use Rattle.c_types.specs.Declarations.{Facts}
use Rattle.scope_bind.specs.Bound.{bound_after}
use Rattle.gnu_bind.specs.Bound.{facts_of, gnu_binding_of}

pub binding-after : (toks : List Token) (tree : Node) (facts : Facts) → facts ≡ facts_of toks tree.under
    → bound_after tree.under facts ≡ gnu_binding_of toks tree
unfolding gnu_binding_of
binding-after toks tree facts e = ap (bound_after tree.under) e
