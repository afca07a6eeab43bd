use Rattle.std.proofs.Common.{sym}
use Rattle.query_words.specs.Queries.{Both, Either}
use Rattle.query_words.specs.declared.walk.Rule.TheVariants.{Denied, Whole}
use Rattle.query_words.specs.Reading.{ampersand, bar, both, either, enclosed, negation}
use Rattle.query_words.specs.Steps.{IsFault}
use Rattle.query_words.proofs.StepLemmas.{runs_both, runs_either}
use Rattle.query_words.proofs.WalkLemmas.{both_first, denied_compiled, either_first, enclosed_none, enclosed_step, first_fault, goes_on_end, goes_on_fault, goes_on_first, goes_on_more, goes_on_none, handed_on}
use Rattle.query_words.proofs.walk.+walk.Goals as goal

-- ---- `either`

pub either-returns-in_err-next-clause-refused : goal.either-returns-in_err-next-clause-refused
either-returns-in_err-next-clause-refused t c =
    handed_on c.from_residual.result c.in_err-next.field-0.0 (IsFault (either (enclosed c.args.text.now c.args.room) c.args.text.now c.args.at)) c.from_residual.ensures.1
    (first_fault Either bar (both (enclosed c.args.text.now c.args.room) c.args.text.now) c.args.text.now (both (enclosed c.args.text.now c.args.room) c.args.text.now c.args.at)
    (either (enclosed c.args.text.now c.args.room) c.args.text.now c.args.at) c.in_err-next.field-0.0 (either_first (enclosed c.args.text.now c.args.room) c.args.text.now c.args.at) c.in_err-next.ensures.refused)

pub either-loop-sign-init : goal.either-loop-sign-init
either-loop-sign-init t c = record {
  rest =
      goes_on_first Either bar (both (enclosed c.args.text.now c.args.room) c.args.text.now) c.args.text.now (both (enclosed c.args.text.now c.args.room) c.args.text.now c.args.at)
      (either (enclosed c.args.text.now c.args.room) c.args.text.now c.args.at) c.args.steps.now.items _ c.in_ok-next.next
      (either_first (enclosed c.args.text.now c.args.room) c.args.text.now c.args.at) c.in_ok-next.ensures.answer;
  within = c.in_ok-next.ensures.within;
}

pub either-returns-then-not-is_byte-clause-answer : goal.either-returns-then-not-is_byte-clause-answer
either-returns-then-not-is_byte-clause-answer t c =
    goes_on_none Either bar (both (enclosed c.args.text.now c.args.room) c.args.text.now) c.args.text.now c.loop-sign._sign c.args.steps.now.items c.loop-sign.steps.items c.loop-sign.next
    (either (enclosed c.args.text.now c.args.room) c.args.text.now c.args.at) c.loop-sign-test.true (sym c.if-not-is_byte.ensures.answer) c.loop-sign.invariant.rest

pub either-returns-in_err-end-clause-refused : goal.either-returns-in_err-end-clause-refused
either-returns-in_err-end-clause-refused t c =
    handed_on c.from_residual-in_err-end.result c.in_err-end.field-0.0 (IsFault (either (enclosed c.args.text.now c.args.room) c.args.text.now c.args.at)) c.from_residual-in_err-end.ensures.1
    (goes_on_fault Either bar (both (enclosed c.args.text.now c.args.room) c.args.text.now) c.args.text.now c.loop-sign._sign c.args.steps.now.items c.loop-sign.steps.items c.loop-sign.next
    (either (enclosed c.args.text.now c.args.room) c.args.text.now c.args.at) c.in_err-end.field-0.0 c.loop-sign-test.true (sym c.if-not-is_byte.ensures.answer) c.in_err-end.ensures.refused c.loop-sign.invariant.rest)

pub either-loop-sign-preserved : goal.either-loop-sign-preserved
either-loop-sign-preserved t c = record {
  rest =
      goes_on_more Either bar (both (enclosed c.args.text.now c.args.room) c.args.text.now) c.args.text.now c.loop-sign._sign c.args.steps.now.items c.loop-sign.steps.items c.both-in-loop-sign.new.steps.items
      c.push_step.new.steps.items c.loop-sign.next c.in_ok-end.end (either (enclosed c.args.text.now c.args.room) c.args.text.now c.args.at) c.loop-sign-test.true (sym c.if-not-is_byte.ensures.answer)
      c.in_ok-end.ensures.answer
      (λ p q first second. runs_either c.args.steps.now.items c.loop-sign.steps.items c.both-in-loop-sign.new.steps.items c.push_step.new.steps.items p q first second c.in_ok-push_step.ensures)
      c.loop-sign.invariant.rest;
  within = c.in_ok-end.ensures.within;
}

pub either-returns-clause-answer : goal.either-returns-clause-answer
either-returns-clause-answer t c =
    goes_on_end Either bar (both (enclosed c.args.text.now c.args.room) c.args.text.now) c.args.text.now c.loop-sign._sign c.args.steps.now.items c.loop-sign.steps.items c.loop-sign.next
    (either (enclosed c.args.text.now c.args.room) c.args.text.now c.args.at) c.loop-sign-test.false c.loop-sign.invariant.rest

-- ---- `both`

pub both-returns-in_err-next-clause-refused : goal.both-returns-in_err-next-clause-refused
both-returns-in_err-next-clause-refused t c =
    handed_on c.from_residual.result c.in_err-next.field-0.0 (IsFault (both (enclosed c.args.text.now c.args.room) c.args.text.now c.args.at)) c.from_residual.ensures.1
    (first_fault Both ampersand (negation (enclosed c.args.text.now c.args.room) c.args.text.now) c.args.text.now (negation (enclosed c.args.text.now c.args.room) c.args.text.now c.args.at)
    (both (enclosed c.args.text.now c.args.room) c.args.text.now c.args.at) c.in_err-next.field-0.0 (both_first (enclosed c.args.text.now c.args.room) c.args.text.now c.args.at) c.in_err-next.ensures.refused)

pub both-loop-sign-init : goal.both-loop-sign-init
both-loop-sign-init t c = record {
  rest =
      goes_on_first Both ampersand (negation (enclosed c.args.text.now c.args.room) c.args.text.now) c.args.text.now (negation (enclosed c.args.text.now c.args.room) c.args.text.now c.args.at)
      (both (enclosed c.args.text.now c.args.room) c.args.text.now c.args.at) c.args.steps.now.items _ c.in_ok-next.next
      (both_first (enclosed c.args.text.now c.args.room) c.args.text.now c.args.at) c.in_ok-next.ensures.answer;
  within = c.in_ok-next.ensures.within;
}

pub both-returns-then-not-is_byte-clause-answer : goal.both-returns-then-not-is_byte-clause-answer
both-returns-then-not-is_byte-clause-answer t c =
    goes_on_none Both ampersand (negation (enclosed c.args.text.now c.args.room) c.args.text.now) c.args.text.now c.loop-sign._sign c.args.steps.now.items c.loop-sign.steps.items c.loop-sign.next
    (both (enclosed c.args.text.now c.args.room) c.args.text.now c.args.at) c.loop-sign-test.true (sym c.if-not-is_byte.ensures.answer) c.loop-sign.invariant.rest

pub both-returns-in_err-end-clause-refused : goal.both-returns-in_err-end-clause-refused
both-returns-in_err-end-clause-refused t c =
    handed_on c.from_residual-in_err-end.result c.in_err-end.field-0.0 (IsFault (both (enclosed c.args.text.now c.args.room) c.args.text.now c.args.at)) c.from_residual-in_err-end.ensures.1
    (goes_on_fault Both ampersand (negation (enclosed c.args.text.now c.args.room) c.args.text.now) c.args.text.now c.loop-sign._sign c.args.steps.now.items c.loop-sign.steps.items c.loop-sign.next
    (both (enclosed c.args.text.now c.args.room) c.args.text.now c.args.at) c.in_err-end.field-0.0 c.loop-sign-test.true (sym c.if-not-is_byte.ensures.answer) c.in_err-end.ensures.refused c.loop-sign.invariant.rest)

pub both-loop-sign-preserved : goal.both-loop-sign-preserved
both-loop-sign-preserved t c = record {
  rest =
      goes_on_more Both ampersand (negation (enclosed c.args.text.now c.args.room) c.args.text.now) c.args.text.now c.loop-sign._sign c.args.steps.now.items c.loop-sign.steps.items c.negation-in-loop-sign.new.steps.items
      c.push_step.new.steps.items c.loop-sign.next c.in_ok-end.end (both (enclosed c.args.text.now c.args.room) c.args.text.now c.args.at) c.loop-sign-test.true (sym c.if-not-is_byte.ensures.answer)
      c.in_ok-end.ensures.answer
      (λ p q first second. runs_both c.args.steps.now.items c.loop-sign.steps.items c.negation-in-loop-sign.new.steps.items c.push_step.new.steps.items p q first second c.in_ok-push_step.ensures)
      c.loop-sign.invariant.rest;
  within = c.in_ok-end.ensures.within;
}

pub both-returns-clause-answer : goal.both-returns-clause-answer
both-returns-clause-answer t c =
    goes_on_end Both ampersand (negation (enclosed c.args.text.now c.args.room) c.args.text.now) c.args.text.now c.loop-sign._sign c.args.steps.now.items c.loop-sign.steps.items c.loop-sign.next
    (both (enclosed c.args.text.now c.args.room) c.args.text.now c.args.at) c.loop-sign-test.false c.loop-sign.invariant.rest

-- ---- `enclosed`

pub enclosed-returns-then-room-eq0-clause-refused : goal.enclosed-returns-then-room-eq0-clause-refused
enclosed-returns-then-room-eq0-clause-refused t c = enclosed_none c.args.text.now c.args.room c.args.rule c.args.at c.if-room-eq0.true

pub enclosed-returns-in-Whole-clause-answer : goal.enclosed-returns-in-Whole-clause-answer
enclosed-returns-in-Whole-clause-answer t c =
    rw (c.in-Whole.is, enclosed_step c.args.text.now c.args.room Whole c.args.at c.if-room-eq0.false) c.either.ensures.answer

pub enclosed-returns-in-Whole-clause-refused : goal.enclosed-returns-in-Whole-clause-refused
enclosed-returns-in-Whole-clause-refused t c =
    rw (c.in-Whole.is, enclosed_step c.args.text.now c.args.room Whole c.args.at c.if-room-eq0.false) c.either.ensures.refused

pub enclosed-returns-in-Denied-clause-answer : goal.enclosed-returns-in-Denied-clause-answer
enclosed-returns-in-Denied-clause-answer t c =
    rw (c.in-Denied.is, enclosed_step c.args.text.now c.args.room Denied c.args.at c.if-room-eq0.false) c.negation.ensures.answer

pub enclosed-returns-in-Denied-clause-refused : goal.enclosed-returns-in-Denied-clause-refused
enclosed-returns-in-Denied-clause-refused t c =
    rw (c.in-Denied.is, enclosed_step c.args.text.now c.args.room Denied c.args.at c.if-room-eq0.false) c.negation.ensures.refused

-- ---- `negation`

pub negation-returns-then-is_byte-clause-answer : goal.negation-returns-then-is_byte-clause-answer
negation-returns-then-is_byte-clause-answer t c =
    denied_compiled (enclosed c.args.text.now c.args.room) c.args.text.now c.args.at c.args.steps.now.items _ _ c.in_ok-next.next
    (sym c.if-is_byte.ensures.answer) c.in_ok-next.ensures.answer c.in_ok-push_step.ensures
