use Rattle.std.proofs.Common.{◌++◌, ap, ◌∙◌}
use Rattle.c99_tree.specs.Joined.{joined}
use Rattle.c_types.specs.Lists.{bodies_in}
use Rattle.c_types.proofs.JoinedLemmas.{bodies_joined}
use Rattle.scope_bind.proofs.JoinedLemmas.{told_joined}
use Rattle.scope_bind.proofs.binding.bodies_behind.Goals as goal

pub returns : goal.returns
returns c =
    let F = c.args.front.now.under in
    let R = c.args.rest.now.under in
    told_joined _ _ _ _ (bodies_in F) (bodies_in R) c.in_ok-push_bodies.ensures c.in_ok-push_bodies-2.ensures (bodies_joined F R)
    ∙ ap (λ bodies. bodies ++ bodies_in (joined F R)) c.new-bodies.ensures.items
