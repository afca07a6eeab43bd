use Rattle.std.proofs.Common.{◌≡◌, false}
use Rattle.c_types.specs.Children.{from_child}
use Rattle.c_types.specs.Parameters.{ends_in_token}
use Rattle.c_types.proofs.parameters.ends_in_token.Given as goal

abbrev pub invariant-children : goal.invariant-children
invariant-children l = ends_in_token l.ends (from_child l.k l.list.under) ≡ ends_in_token false l.list.under
