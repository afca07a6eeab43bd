use Rattle.std.proofs.Common.{arith, ◌≡◌, ◌++◌, take, map, ◌∙◌}
use Rattle.std.proofs.lemmas.List.{take_all}
use Rattle.cs_base.specs.Spans.{moved}
use Rattle.cs_base.proofs.OriginLemmas.{origins_by-append, origins_by-front}
use Rattle.cs_base.proofs.SpanLemmas.{AreSpans-within, AreSpans-append, AreSpans-take}
use Rattle.cs_base.proofs.spans.push_moved.Goals as goal

pub overflow_add-from : goal.overflow_add-from
overflow_add-from c =
    omega (arith, AreSpans-within 0 c.args.len c.loop-span.span-index c.args.more.now (record { from = 0; len = 0; start = record { file = 0; at = 0 } }) c.requires.more (omega arith))

pub returns-in_err-push-clause-front : goal.returns-in_err-push-clause-front
returns-in_err-push-clause-front c =
    let more = take c.loop-span.span-index c.args.more.now in
    let kept : c.push.new.self.items ≡ c.args.spans.now.items ++ map (moved c.args.from) more = c.in_err-push.ensures.items ∙ c.loop-span.invariant in
    rw kept (origins_by-front c.args.from c.args.len c.args.spans.now.items more (AreSpans-take c.args.len c.loop-span.span-index c.args.more.now c.requires.more))

pub returns-in_err-push-clause-sound : goal.returns-in_err-push-clause-sound
returns-in_err-push-clause-sound c =
    let more = take c.loop-span.span-index c.args.more.now in
    let kept : c.push.new.self.items ≡ c.args.spans.now.items ++ map (moved c.args.from) more = c.in_err-push.ensures.items ∙ c.loop-span.invariant in
    rw kept (AreSpans-append c.args.from c.args.len c.args.spans.now.items more c.requires.told (AreSpans-take c.args.len c.loop-span.span-index c.args.more.now c.requires.more))

pub returns-clause-answer : goal.returns-clause-answer
returns-clause-answer c =
    let all : take c.loop-span.span-index c.args.more.now ≡ c.args.more.now = take_all c.loop-span.span-index c.args.more.now (omega arith) in
    let kept : c.loop-span.spans.items ≡ c.args.spans.now.items ++ map (moved c.args.from) c.args.more.now = rw all at c.loop-span.invariant in
    rw kept (origins_by-append c.args.from c.args.len c.args.spans.now.items c.args.more.now c.requires.told c.requires.more)

pub returns-clause-front : goal.returns-clause-front
returns-clause-front c =
    let all : take c.loop-span.span-index c.args.more.now ≡ c.args.more.now = take_all c.loop-span.span-index c.args.more.now (omega arith) in
    let kept : c.loop-span.spans.items ≡ c.args.spans.now.items ++ map (moved c.args.from) c.args.more.now = rw all at c.loop-span.invariant in
    rw kept (origins_by-front c.args.from c.args.len c.args.spans.now.items c.args.more.now c.requires.more)

pub returns-clause-sound : goal.returns-clause-sound
returns-clause-sound c =
    let all : take c.loop-span.span-index c.args.more.now ≡ c.args.more.now = take_all c.loop-span.span-index c.args.more.now (omega arith) in
    let kept : c.loop-span.spans.items ≡ c.args.spans.now.items ++ map (moved c.args.from) c.args.more.now = rw all at c.loop-span.invariant in
    rw kept (AreSpans-append c.args.from c.args.len c.args.spans.now.items c.args.more.now c.requires.told c.requires.more)
