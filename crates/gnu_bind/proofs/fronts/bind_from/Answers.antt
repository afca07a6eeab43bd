use Rattle.std.proofs.Common.{sym, ap, subst, ◌∙◌, ◌++◌}
use Rattle.cs_base.specs.Answer.{Gives}
use Rattle.c_types.specs.Faults.{fault_of}
use Rattle.c_types.specs.Lists.{bare_in, calls_in, lists_in}
use Rattle.c_types.proofs.JoinedLemmas.{bare_joined, calls_joined, lists_joined}
use Rattle.scope_bind.specs.Bound.{Bound}
use Rattle.gnu_bind.specs.Fronts.{BoundFrontValue}
use Rattle.gnu_bind.proofs.FrontLemmas.{bound_there}
use Rattle.gnu_bind.proofs.fronts.bind_from.Goals as goal

pub bound_behind-requires-clause-lists : goal.bound_behind-requires-clause-lists
bound_behind-requires-clause-lists c =
    c.in_ok-walk_by.ensures.lists
    ∙ (ap (λ x. x ++ lists_in c.args.rest.now.under) (c.in_ok-shown.ensures.lists ∙ (ap (λ (v : BoundFrontValue). v.shown.lists.items) c.front.view_is ∙ c.requires.known.lists))
    ∙ sym (lists_joined c.args.tree.now.under c.args.rest.now.under))

pub bound_behind-requires-clause-calls : goal.bound_behind-requires-clause-calls
bound_behind-requires-clause-calls c =
    c.in_ok-walk_by.ensures.calls
    ∙ (ap (λ x. x ++ calls_in c.args.rest.now.under) (c.in_ok-shown.ensures.calls ∙ (ap (λ (v : BoundFrontValue). v.shown.calls.items) c.front.view_is ∙ c.requires.known.calls))
    ∙ sym (calls_joined c.args.tree.now.under c.args.rest.now.under))

pub bound_behind-requires-clause-bare : goal.bound_behind-requires-clause-bare
bound_behind-requires-clause-bare c =
    c.in_ok-walk_by.ensures.bare
    ∙ (ap (λ x. x ++ bare_in c.args.rest.now.under) (c.in_ok-shown.ensures.bare ∙ (ap (λ (v : BoundFrontValue). v.shown.bare.items) c.front.view_is ∙ c.requires.known.bare))
    ∙ sym (bare_joined c.args.tree.now.under c.args.rest.now.under))

pub returns : goal.returns
returns c = record {
  answer =
      subst (λ x. Gives (λ (b : Bound). b) fault_of c.bound_behind.result x)
      (bound_there c.args.front.now c.front.inside.standard c.args.toks.now c.args.tree.now c.args.rest.now c.in_ok-facts.facts c.walk_by.new.facts
      c.in_ok-facts.frame c.walk_by.new.f (ap (λ (v : BoundFrontValue). v.standard) c.front.view_is) c.in_ok-facts.ensures.toks c.in_ok-facts.ensures.known
      c.in_ok-walk_by.ensures.walked)
      c.bound_behind.ensures;
}
