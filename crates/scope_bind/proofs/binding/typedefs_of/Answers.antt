use Rattle.std.proofs.Common.{◌≡◌, IfOk, subst}
use Rattle.scope_bind.proofs.BoundLemmas.{typedefs-in}
use Rattle.scope_bind.proofs.binding.typedefs_of.Goals as goal

pub returns : goal.returns
returns c =
    subst (λ rs. IfOk c.ranges_in.result (λ v. v.items ≡ rs))
    (typedefs-in c.args.facts.now.facts c.declared.result.now c.declared.ensures) c.ranges_in.ensures
