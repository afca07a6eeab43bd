use Rattle.std.proofs.Common.{arith, rules, ◌≡◌, ◌+◌}
use Rattle.std.specs.Prelude.{None}
use Rattle.cs_base.proofs.OriginLemmas.{told-none, told-one, AreSpans-one}
use Rattle.cs_base.proofs.SpanLemmas.{AreSpans-more}
use Rattle.paste_origin.proofs.strings.push_origin.Goals as goal

pub returns-in_ok-push-clause-origins : goal.returns-in_ok-push-clause-origins
returns-in_ok-push-clause-origins c =
    rw (c.in_ok-push.ensures.items, c.in-Some.is)
    (told-one c.args.at c.args.spans.now.items c.in-Some.start (search rules) c.requires.told)

pub returns-in_ok-push-clause-sound : goal.returns-in_ok-push-clause-sound
returns-in_ok-push-clause-sound c =
    rw c.in_ok-push.ensures.items (AreSpans-one c.args.at c.args.spans.now.items c.in-Some.start (search rules) c.requires.told)

pub returns-in_default-clause-origins : goal.returns-in_default-clause-origins
returns-in_default-clause-origins c =
    let none : c.args.origin ≡ None = search rules in
    rw none (told-none c.args.at c.args.spans.now.items c.requires.told)

pub returns-in_default-clause-sound : goal.returns-in_default-clause-sound
returns-in_default-clause-sound c = AreSpans-more c.args.at (c.args.at + 1) c.args.spans.now.items (omega arith) c.requires.told
