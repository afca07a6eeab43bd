use Rattle.std.proofs.Common.{take, refl}
use Rattle.std.specs.List.{list_any}
use Rattle.unseen_names.specs.Characters.{covers}
use Rattle.unseen_names.proofs.CharacterLemmas.{adds_all, adds_more, adds_none}
use Rattle.unseen_names.proofs.characters.mark_spans.Goals as goal

pub loop-span-init : goal.loop-span-init
loop-span-init c = adds_none (λ p. list_any (covers p) (take 0 c.args.spans.now)) c.args.marks.now.items (λ p. refl)

pub loop-span-preserved : goal.loop-span-preserved
loop-span-preserved c =
    adds_more (λ p x. covers p x) c.args.spans.now c.loop-span.span-index _ c.args.marks.now.items c.loop-span.marks.items
    c.mark_span.new.marks.items c.loop-span-test.true c.loop-span.invariant c.in_ok-mark_span.ensures

pub returns : goal.returns
returns c =
    adds_all (λ p x. covers p x) c.args.spans.now c.loop-span.span-index c.args.marks.now.items c.loop-span.marks.items c.loop-span-test.false
    c.loop-span.invariant
