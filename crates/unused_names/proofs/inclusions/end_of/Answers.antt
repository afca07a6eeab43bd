use Rattle.std.proofs.Common.{◌≡◌, ◌≤◌, length, sym, ◌∙◌, arith}
use Rattle.unused_names.proofs.InclusionLemmas.{end_here, end_more, end_past, few_open}
use Rattle.unused_names.proofs.inclusions.end_of.Goals as goal

pub loop-number-preserved : goal.loop-number-preserved
loop-number-preserved c =
    let few = few_open c.index-events-number.result.kind c.loop-number.inner c.in-Some.now c.in-Some.ensures in
    record {
      rest = end_more c.args.events.now c.loop-number.number c.loop-number.inner c.in-Some.now c.index-events-number.result c.loop-number-test.true
          c.index-events-number.is c.in-Some.ensures
          ∙ c.loop-number.invariant.rest;
      few = omega (arith, few, c.loop-number.invariant.few);
    }

pub returns-in-None-clause-answer : goal.returns-in-None-clause-answer
returns-in-None-clause-answer c =
    end_here c.args.events.now c.loop-number.number c.loop-number.inner c.index-events-number.result c.loop-number-test.true
    c.index-events-number.is c.in-None.ensures
    ∙ c.loop-number.invariant.rest

pub returns-clause-answer : goal.returns-clause-answer
returns-clause-answer c =
    let past : length c.args.events.now ≤ c.loop-number.number = c.loop-number-test.false in
    let same : c.loop-number.number ≡ length c.args.events.now = omega (arith, c.loop-number.auto.number-end, past, c.requires) in
    sym same ∙ sym (end_past c.args.events.now c.loop-number.number c.loop-number.inner past) ∙ c.loop-number.invariant.rest
