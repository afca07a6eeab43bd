use Rattle.std.proofs.Common.{◌≡◌, ◌<◌, ◌∙◌, ℕ, List, length, ap, subst, arith}
use Rattle.analysis.specs.Below.unit_steps.declared.events.Event.{Event}
use Rattle.trim_plan.specs.Left.{goes_by}
use Rattle.trim_plan.specs.Places.{MarksMore}
use Rattle.trim_rules.specs.Numbers.{is_below}
use Rattle.trim_plan.proofs.PlaceLemmas.{gone-begin, gone-next, gone-all}
use Rattle.trim_plan.proofs.left.marks_of.Goals as goal

pub mark_event-requires-clause-within : goal.mark_event-requires-clause-within
mark_event-requires-clause-within c = subst (λ (es : List Event). c.loop-k.k < length es) c.events-events.ensures c.loop-k-test.true

pub loop-k-init : goal.loop-k-init
loop-k-init c = gone-begin c.args.lines.now c.args.text.now c.args.count c.in_ok-gone.gone.items c.in_ok-gone.ensures

pub loop-k-preserved : goal.loop-k-preserved
loop-k-preserved c =
    gone-next c.args.lines.now c.args.text.now c.loop-k.k c.in_ok-gone.gone.items c.loop-k.gone.items c.mark_event.new.gone.items c.loop-k.invariant c.mark_event.ensures

pub returns : goal.returns
returns c =
    let long : c.loop-k.k ≡ length c.events-events.result.now = omega (arith, c.loop-k-test.false, c.loop-k.auto.k-end) in
    let all : c.loop-k.k ≡ length c.args.text.now.events = long ∙ ap (λ (es : List Event). length es) c.events-events.ensures in
    gone-all c.args.lines.now c.args.text.now c.args.count c.in_ok-gone.gone.items c.loop-k.gone.items c.requires.count c.in_ok-gone.ensures
    (subst (λ (n : ℕ). MarksMore (λ j. is_below (goes_by c.args.lines.now c.args.text.now j) n) c.in_ok-gone.gone.items c.loop-k.gone.items) all c.loop-k.invariant)
