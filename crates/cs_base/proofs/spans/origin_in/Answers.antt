use Rattle.std.proofs.Common.{arith, ◌≡◌, ◌-◌, suc, sym, ◌∙◌}
use Rattle.cs_base.specs.declared.spans.Span.{Span}
use Rattle.cs_base.specs.Spans.{Reached}
use Rattle.cs_base.proofs.SpanLemmas.{AreSpans-numbered, Reached-none, Reached-last}
use Rattle.cs_base.proofs.spans.origin_in.Goals as goal

abbrev nowhere : Span
nowhere = record { from = 0; len = 0; start = record { file = 0; at = 0 } }

pub origin_of-requires-clause-numbered : goal.origin_of-requires-clause-numbered
origin_of-requires-clause-numbered c =
    AreSpans-numbered 0 c.args.len (c.spans_to.result - 1) c.args.spans.now nowhere c.requires (omega arith)

pub returns-in-0 : goal.returns-in-0
returns-in-0 c = sym (Reached-none c.args.k c.args.spans.now (rw c.in-0.is at c.spans_to.ensures.found))

pub returns-in_default : goal.returns-in_default
returns-in_default c =
    let i = c.spans_to.result - 1 in
    let some : c.spans_to.result ≡ suc i = omega arith in
    let found : Reached c.args.spans.now c.args.k (suc i) = rw (← some) c.spans_to.ensures.found in
    c.origin_of.ensures ∙ sym (Reached-last 0 c.args.len c.args.k i c.args.spans.now nowhere c.requires (omega arith) found)
