use Rattle.std.proofs.Common.{arith, rules, ◌≡◌, ◌+◌}
use Rattle.std.specs.Prelude.{None}
use Rattle.cs_base.proofs.OriginLemmas.{told-none, told-one, AreSpans-one}
use Rattle.cs_base.proofs.SpanLemmas.{AreSpans-more}
use Rattle.cs_base.proofs.spans.push_origin.Goals as goal

pub returns-in_ok-push-clause-same : goal.returns-in_ok-push-clause-same
returns-in_ok-push-clause-same c =
    rw (c.in_ok-push.ensures.items, c.in-Some.is)
    (told-one c.args.k c.args.spans.now.items c.in-Some.start (search rules) c.requires.told)

pub returns-in_ok-push-clause-sound : goal.returns-in_ok-push-clause-sound
returns-in_ok-push-clause-sound c =
    rw c.in_ok-push.ensures.items (AreSpans-one c.args.k c.args.spans.now.items c.in-Some.start (search rules) c.requires.told)

pub returns-in_default-clause-same : goal.returns-in_default-clause-same
returns-in_default-clause-same c =
    let none : c.args.origin ≡ None = search rules in
    rw none (told-none c.args.k c.args.spans.now.items c.requires.told)

pub returns-in_default-clause-sound : goal.returns-in_default-clause-sound
returns-in_default-clause-sound c = AreSpans-more c.args.k (c.args.k + 1) c.args.spans.now.items (omega arith) c.requires.told
