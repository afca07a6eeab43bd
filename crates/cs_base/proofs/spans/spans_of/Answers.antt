use Rattle.std.proofs.Common.{arith, ◌≡◌, ◌≤◌, length, take, ◌∙◌}
use Rattle.std.proofs.lemmas.List.{take_all}
use Rattle.cs_base.specs.Spans.{AreSpans, origins_by}
use Rattle.cs_base.proofs.OriginLemmas.{origins_by-none, origins_by-padded}
use Rattle.cs_base.proofs.SpanLemmas.{AreSpans-more}
use Rattle.cs_base.proofs.spans.spans_of.Goals as goal

pub loop-k-init : goal.loop-k-init
loop-k-init c = rw c.new-spans.ensures.items (origins_by-none, omega arith)

pub returns-clause-same : goal.returns-clause-same
returns-clause-same c =
    let given = c.args.origins.now in
    let done : c.loop-k.k ≡ length given = omega arith in
    let all : take c.loop-k.k given ≡ given = take_all c.loop-k.k given (omega arith) in
    let are : AreSpans (length given) c.loop-k.spans.items = rw (← done) c.loop-k.invariant.1 in
    let told : origins_by (length given) c.loop-k.spans.items ≡ given = rw (← done) (c.loop-k.invariant.0 ∙ all) in
    origins_by-padded c.args.len c.loop-k.spans.items given c.requires.given are told

pub returns-clause-sound : goal.returns-clause-sound
returns-clause-sound c =
    let more : c.loop-k.k ≤ c.args.len = omega (arith, c.requires.given) in
    AreSpans-more c.loop-k.k c.args.len c.loop-k.spans.items more c.loop-k.invariant.1
