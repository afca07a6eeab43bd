use Rattle.std.proofs.Common.{subst, ap}
use Rattle.cs_base.specs.Answer.{Gives}
use Rattle.scope_bind.specs.Bound.{Bound}
use Rattle.c_types.specs.Faults.{fault_of}
use Rattle.gnu_bind.proofs.BoundLemmas.{binding-after}
use Rattle.gnu_bind.proofs.binding.bind.Goals as goal

pub returns : goal.returns
returns c = record {
  answer =
      subst (λ x. Gives (λ (b : Bound). b) fault_of c.bound_unless.result x)
      (binding-after c.args.toks.now c.args.tree.now c.in_ok-facts.facts.facts (ap (λ k. k.facts) c.in_ok-facts.ensures.facts)) c.bound_unless.ensures;
}
