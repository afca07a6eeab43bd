use Rattle.std.proofs.Common.{sym, ◌∙◌, rules, arith}
use Rattle.cond_eval.proofs.WalkLemmas.{walk_binary-operand, walk_binary-step, walk_binary-first, walk_rest-more, walk_rest-fault, walk_rest-none, walk_enclosed-none, walk_enclosed-step}
use Rattle.cond_eval.proofs.walk.+walk.Goals as goal

pub binary-returns-then-level-eq0-clause-answer : goal.binary-returns-then-level-eq0-clause-answer
binary-returns-then-level-eq0-clause-answer t c =
    c.operand.ensures.answer ∙ sym (walk_binary-operand _ _ _ _ _ c.if-level-eq0.true)

pub binary-returns-in_err-left-clause-answer : goal.binary-returns-in_err-left-clause-answer
binary-returns-in_err-left-clause-answer t c = rw (walk_binary-step _ _ _ _ _ c.if-level-eq0.false) (search rules)

pub binary-returns-in_err-left-2-clause-answer : goal.binary-returns-in_err-left-2-clause-answer
binary-returns-in_err-left-2-clause-answer t c =
    let first = walk_binary-first _ _ _ _ _ _ c.if-level-eq0.false (sym c.binary.ensures.answer ∙ c.in_ok-left.was) in
    let fault = walk_rest-fault _ _ _ _ _ _ _ _ (sym c.operator_at.ensures.answer ∙ c.in-Some.is) (sym c.joined.ensures.answer ∙ c.in_err-left-2.was) in
    rw (first ∙ sym c.operands.invariant.rest ∙ fault) (search rules)

pub binary-operands-preserved : goal.binary-operands-preserved
binary-operands-preserved t c = record {
  rest =
      sym (walk_rest-more _ _ _ _ _ _ _ _ (sym c.operator_at.ensures.answer ∙ c.in-Some.is) (sym c.joined.ensures.answer ∙ c.in_ok-left-2.was))
      ∙ c.operands.invariant.rest;
  before = let after = c.in_ok-left-2.ensures.after in omega (arith, after.before);
  inside = c.in_ok-left-2.ensures.after.inside;
}

pub binary-returns-clause-answer : goal.binary-returns-clause-answer
binary-returns-clause-answer t c =
    let first = walk_binary-first _ _ _ _ _ _ c.if-level-eq0.false (sym c.binary.ensures.answer ∙ c.in_ok-left.was) in
    sym (first ∙ sym c.operands.invariant.rest ∙ walk_rest-none _ _ _ _ _ _ (sym c.operator_at.ensures.answer ∙ c.in_default.is))

pub enclosed_expression-returns-then-room-eq0-clause-answer : goal.enclosed_expression-returns-then-room-eq0-clause-answer
enclosed_expression-returns-then-room-eq0-clause-answer t c = sym (walk_enclosed-none _ _ _ _ _ c.if-room-eq0.true)

pub enclosed_expression-returns-else-room-eq0-clause-answer : goal.enclosed_expression-returns-else-room-eq0-clause-answer
enclosed_expression-returns-else-room-eq0-clause-answer t c =
    c.conditional.ensures.answer ∙ sym (walk_enclosed-step _ _ _ _ _ c.if-room-eq0.false)

pub enclosed_operand-returns-then-room-eq0-clause-answer : goal.enclosed_operand-returns-then-room-eq0-clause-answer
enclosed_operand-returns-then-room-eq0-clause-answer t c = sym (walk_enclosed-none _ _ _ _ _ c.if-room-eq0.true)

pub enclosed_operand-returns-else-room-eq0-clause-answer : goal.enclosed_operand-returns-else-room-eq0-clause-answer
enclosed_operand-returns-else-room-eq0-clause-answer t c =
    c.operand.ensures.answer ∙ sym (walk_enclosed-step _ _ _ _ _ c.if-room-eq0.false)
