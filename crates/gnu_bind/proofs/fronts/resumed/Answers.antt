use Rattle.std.proofs.Common.{ap, ◌∙◌}
use Rattle.scope_bind.specs.Known.{Known}
use Rattle.gnu_bind.specs.Fronts.{BoundFrontValue}
use Rattle.gnu_bind.proofs.FrontLemmas.{resumed_by}
use Rattle.gnu_bind.proofs.fronts.resumed.Goals as goal

pub returns-clause-known : goal.returns-clause-known
returns-clause-known c =
    resumed_by c.args.front.now c.args.seen.now c.args.toks.now c.args.tree.now.under c.in_ok-count_of.field-0 c.in_ok-count_of-2.field-0 c.front.inside.known _
    c.front.inside.frame c.in_ok-frame.field-0 c.requires.known c.requires.begins c.in_ok-count_of.ensures c.in_ok-count_of-2.ensures
    (ap (λ (v : BoundFrontValue). v.facts) c.front.view_is) (ap (λ (v : BoundFrontValue). v.frame) c.front.view_is)
    (ap (λ (k : Known). k.facts) (c.facts.view_is ∙ c.in_ok-resume.ensures)) c.in_ok-frame.ensures
