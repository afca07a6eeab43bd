-- What is known behind the beginning of a unit in another one that begins so.
use Rattle.std.proofs.Common.{ℕ, ◌<◌, ◌≤◌, ◌≡◌, List, length, sym, ap, ◌∙◌}
use Rattle.cs_base.specs.Token.{Token}
use Rattle.cs_base.specs.declared.ws_units.Standard.{Standard}
use Rattle.cs_base.specs.declared.ws_units.Standard.TheVariants.{C99, C11, Gnu99, Gnu11}
use Rattle.c99_tree.specs.Tree.{Forest, Node}
use Rattle.c99_tree.specs.Joined.{joined, followed}
use Rattle.c_types.specs.declared.frames.Frame.{Frame}
use Rattle.c_types.specs.Declarations.{Facts, spelling_at}
use Rattle.scope_bind.specs.Below.name_chains.Frames.{State, state, at_first}
use Rattle.scope_bind.specs.Bound.{bound_after, binding_of}
use Rattle.scope_bind.specs.Known.{Known}
use Rattle.scope_bind.specs.Carried.{carried_facts, carried_frame, carried_state, behind_front, IsBelow}
use Rattle.scope_bind.proofs.CarriedWalk.{fronts_bind_alike}
use Rattle.scope_bind.proofs.JoinedLemmas.{walks_join}
use Rattle.gnu_bind.specs.Bound.{gnu_binding_of, binding_by}
use Rattle.gnu_bind.specs.Senses.{usual_sense}
use Rattle.gnu_bind.specs.Fronts.{walked_by, BoundFrontValue, IsKnownBehind, IsSpelledAs}
use Rattle.gnu_bind.proofs.GnuCarried.{gnu_fronts_bind_alike}
use Rattle.gnu_bind.proofs.JoinedLemmas.{walks_join as gnu_walks_join}

walked_there : (s : Standard) (a b : List Token) (f : Forest) → 1 < length a → length a ≤ length b
    → ((k : ℕ) → k < length a → spelling_at a k ≡ spelling_at b k) → IsBelow (length a) f
    → walked_by s b f (at_first (length b)) ≡ carried_state (behind_front (length a) (length b)) (walked_by s a f (at_first (length a)))
walked_there C99 a b f some fits alike low = fronts_bind_alike a b f some fits alike low
walked_there C11 a b f some fits alike low = fronts_bind_alike a b f some fits alike low
walked_there Gnu99 a b f some fits alike low = gnu_fronts_bind_alike a b f some fits alike low
walked_there Gnu11 a b f some fits alike low = gnu_fronts_bind_alike a b f some fits alike low

-- ---- What is known there

pub resumed_there : (f : BoundFrontValue) (seen toks : List Token) (under : Forest) → IsKnownBehind f seen under → IsSpelledAs seen toks
    → state (carried_facts (behind_front (length seen) (length toks)) f.facts) (carried_frame (behind_front (length seen) (length toks)) f.frame)
    ≡ walked_by f.standard toks under (at_first (length toks))
resumed_there f seen toks under is begins =
    sym (walked_there f.standard seen toks under is.some begins.fits begins.alike is.below
    ∙ ap (carried_state (behind_front (length seen) (length toks))) is.known)

-- the same of what has been carried along, by these counts of tokens
pub resumed_by : (f : BoundFrontValue) (seen toks : List Token) (under : Forest) (n k : ℕ) (known facts : Facts) (kept frame : Frame) → IsKnownBehind f seen under
    → IsSpelledAs seen toks → n ≡ length seen → k ≡ length toks → known ≡ f.facts → kept ≡ f.frame
    → facts ≡ carried_facts (behind_front n k) known → frame ≡ carried_frame (behind_front n k) kept
    → state facts frame ≡ walked_by f.standard toks under (at_first (length toks))
resumed_by f seen toks under n k known facts kept frame is begins front text same stays facts_go frame_goes =
    ap (λ x. state x frame) (facts_go ∙ (ap (λ i. carried_facts (behind_front i k) known) front
    ∙ (ap (λ j. carried_facts (behind_front (length seen) j) known) text ∙ ap (carried_facts (behind_front (length seen) (length toks))) same)))
    ∙ (ap (state (carried_facts (behind_front (length seen) (length toks)) f.facts)) (frame_goes ∙ (ap (λ i. carried_frame (behind_front i k) kept) front
    ∙ (ap (λ j. carried_frame (behind_front (length seen) j) kept) text ∙ ap (carried_frame (behind_front (length seen) (length toks))) stays)))
    ∙ resumed_there f seen toks under is begins)

-- ---- The binding of a tree that is told in two parts

pub binding_there : (s : Standard) (toks : List Token) (front rest : Node) (x : State)
    → x ≡ walked_by s toks rest.under (walked_by s toks front.under (at_first (length toks)))
    → bound_after (joined front.under rest.under) x.facts ≡ binding_by s toks (followed front rest)
unfolding gnu_binding_of binding_of
binding_there C99 toks front rest x e =
    ap (λ (y : State). bound_after (joined front.under rest.under) y.facts) (e ∙ sym (walks_join toks front.under rest.under (at_first (length toks))))
binding_there C11 toks front rest x e =
    ap (λ (y : State). bound_after (joined front.under rest.under) y.facts) (e ∙ sym (walks_join toks front.under rest.under (at_first (length toks))))
binding_there Gnu99 toks front rest x e =
    ap (λ (y : State). bound_after (joined front.under rest.under) y.facts) (e ∙ sym (gnu_walks_join toks usual_sense front.under rest.under (at_first (length toks))))
binding_there Gnu11 toks front rest x e =
    ap (λ (y : State). bound_after (joined front.under rest.under) y.facts) (e ∙ sym (gnu_walks_join toks usual_sense front.under rest.under (at_first (length toks))))

-- the same of what is known behind the second part, where the first one has been walked over
pub bound_there : (f : BoundFrontValue) (s : Standard) (toks : List Token) (front rest : Node) (before after : Known) (begins ends : Frame) → s ≡ f.standard
    → before.toks ≡ toks → state before.facts begins ≡ walked_by f.standard toks front.under (at_first (length toks))
    → state after.facts ends ≡ walked_by s before.toks rest.under (state before.facts begins)
    → bound_after (joined front.under rest.under) after.facts ≡ binding_by f.standard toks (followed front rest)
bound_there f s toks front rest before after begins ends same of first second =
    binding_there f.standard toks front rest (state after.facts ends)
    (second ∙ (ap (λ x. walked_by x before.toks rest.under (state before.facts begins)) same
    ∙ (ap (λ ts. walked_by f.standard ts rest.under (state before.facts begins)) of ∙ ap (walked_by f.standard toks rest.under) first)))
