use Rattle.std.proofs.Common.{◌≡◌, ◌+◌, ◌∙◌, ℕ, Bool, cond, length, sym, ap, arith, rules}
use Rattle.trim_plan.specs.Left.{place}
use Rattle.trim_plan.specs.Places.{mark_at}
use Rattle.trim_plan.proofs.PlaceLemmas.{places-begin, places-next, places-told, place-step}
use Rattle.trim_plan.proofs.left.places_of.Goals as goal

pub loop-k-init : goal.loop-k-init
loop-k-init c = (places-begin (mark_at c.args.gone.now) _ (search rules), search rules)

pub loop-k-preserved : goal.loop-k-preserved
loop-k-preserved c =
    let gone = c.args.gone.now in
    let k = c.loop-k.k in
    let next : c.in_ok-next.next ≡ place (mark_at gone) (k + 1) =
    c.in_ok-next.ensures
    ∙ ap (λ (n : ℕ). cond c.mark_of-is_gone.result n (n + 1)) c.loop-k.invariant.1
    ∙ ap (λ (b : Bool). cond b (place (mark_at gone) k) (place (mark_at gone) k + 1)) c.mark_of-is_gone.ensures
    ∙ sym (place-step (mark_at gone) k) in
    (places-next (mark_at gone) k c.loop-k.places.items _ c.in_ok-next.next c.loop-k.invariant.0 (search rules) next, next)

pub returns : goal.returns
returns c =
    places-told (mark_at c.args.gone.now) c.loop-k.k (length c.args.gone.now) c.loop-k.places.items
    (omega (arith, c.loop-k-test.false, c.loop-k.auto.k-end)) c.loop-k.invariant.0
