use Rattle.std.proofs.Common.{◌≡◌, true, false, Err, sym, ap, ◌∙◌}
use Rattle.list_cuts.specs.Orders.{is_order}
use Rattle.template_rules.specs.Lists.{count_of}
use Rattle.offences.specs.Refusals.{refusal_of}
use Rattle.template_rules.specs.Template.{order_refusal, IsOrdered, IsReordered}
use Rattle.offences.proofs.AnswerLemmas.{gives_also}
use Rattle.template_plan.proofs.PlanLemmas.{if_some, no_function, no_order, ordered, order_told}
use Rattle.template_plan.proofs.plan.plan_ordered.Goals as goal

pub returns-then-not-has_functions-clause-answer : goal.returns-then-not-has_functions-clause-answer
returns-then-not-has_functions-clause-answer c =
    no_function c.args.functions.now.analysis.value c.args.functions.now.members c.args.order.now (sym c.if-not-has_functions.ensures.answer)

pub returns-then-not-branch-clause-answer : goal.returns-then-not-branch-clause-answer
returns-then-not-branch-clause-answer c =
    let a = c.args.functions.now.analysis.value in
    let ms = c.args.functions.now.members in
    let bad : is_order (count_of a ms) c.args.order.now ≡ false =
    ap (λ n. is_order n c.args.order.now) (sym c.parameter_count-count.ensures.answer) ∙ sym c.in_ok-is_order.ensures.answer ∙ c.if-not-branch.true in
    if_some (refusal_of c.order_refused.result) (λ r. r ≡ order_refusal a ms) (λ r. IsOrdered a ms c.args.order.now (Err r))
    (λ r is. rw is (no_order a ms c.args.order.now (sym c.if-not-has_functions.ensures.answer) bad)) c.order_refused.ensures
