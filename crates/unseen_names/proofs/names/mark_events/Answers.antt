use Rattle.std.proofs.Common.{take, refl, ap}
use Rattle.std.specs.List.{list_any}
use Rattle.unseen_names.specs.Groups.{in_event}
use Rattle.unseen_names.proofs.CharacterLemmas.{adds_all, adds_more, adds_none, adds_same}
use Rattle.unseen_names.proofs.names.mark_events.Goals as goal

pub loop-event-init : goal.loop-event-init
loop-event-init c = adds_none (λ p. list_any (in_event c.args.group p) (take 0 c.args.events.now)) c.args.marks.now.items (λ p. refl)

pub loop-event-preserved : goal.loop-event-preserved
loop-event-preserved c =
    let item = c.event-item.result in
    adds_more (λ p x. in_event c.args.group p x) c.args.events.now c.loop-event.event-index item c.args.marks.now.items c.loop-event.marks.items
    c.mark_event.new.marks.items c.loop-event-test.true c.loop-event.invariant
    (adds_same (λ p. in_event c.args.group p item) _ c.loop-event.marks.items c.mark_event.new.marks.items c.in_ok-mark_event.ensures (λ p. ap (in_event c.args.group p) c.event-item.is))

pub returns : goal.returns
returns c =
    adds_all (λ p x. in_event c.args.group p x) c.args.events.now c.loop-event.event-index c.args.marks.now.items c.loop-event.marks.items c.loop-event-test.false
    c.loop-event.invariant
