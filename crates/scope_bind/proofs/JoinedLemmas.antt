-- The walk over a tree that is told in two parts: over the one, and then over the other.
use Rattle.std.proofs.Common.{◌≡◌, ◌++◌, List, append_assoc, refl, sym, ap, ◌∙◌}
use Rattle.cs_base.specs.Token.{Token}
use Rattle.c99_tree.specs.Tree.{Forest, none, token, node}
use Rattle.c99_tree.specs.Joined.{joined}
use Rattle.name_chains.specs.Frames.{State}
use Rattle.name_chains.specs.Entering.{entered}
use Rattle.scope_bind.specs.Walk.{passed, left, walked}

pub walks_join : (toks : List Token) (f h : Forest) (s : State) → walked toks (joined f h) s ≡ walked toks h (walked toks f s)
unfolding walked
walks_join toks none h s = refl
walks_join toks (token i rest) h s = walks_join toks rest h (passed toks i s)
walks_join toks (node l first under rest) h s = walks_join toks rest h (left toks l first under s (walked toks under (entered toks l first under s)))

-- what is told in two steps
pub told_joined : {X : Type 0} (old mid new all first second : List X) → mid ≡ old ++ first → new ≡ mid ++ second → all ≡ first ++ second → new ≡ old ++ all
told_joined old mid new all first second e f h = f ∙ (ap (λ x. x ++ second) e ∙ (append_assoc old first second ∙ ap (λ x. old ++ x) (sym h)))
