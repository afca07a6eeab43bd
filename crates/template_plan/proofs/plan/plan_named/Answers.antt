use Rattle.std.proofs.Common.{None, Some, refl}
use Rattle.offences.specs.Refusals.{refusal_of}
use Rattle.template_rules.specs.Template.{IsClassOrdered, IsTemplate}
use Rattle.offences.proofs.AnswerLemmas.{gives_also}
use Rattle.template_plan.proofs.MeaningLemmas.{if_ok, place_kept}
use Rattle.template_plan.specs.Kept.{IsClassKept, IsPlaceKept}
use Rattle.template_plan.proofs.plan.plan_named.Goals as goal

pub returns-in-Some-clause-answer : goal.returns-in-Some-clause-answer
returns-in-Some-clause-answer c =
    gives_also (λ edits. edits) refusal_of (IsClassOrdered c.args.a.now.value c.in-Some.part c.args.order.now)
    (IsTemplate c.args.a.now.value c.args.path.now c.args.line c.args.column c.args.order.now)
    (λ r h. (Some c.in-Some.part, c.in-Some.ensures, h)) c.plan_part.result c.plan_part.ensures.answer

pub returns-in-None-clause-answer : goal.returns-in-None-clause-answer
returns-in-None-clause-answer c = (None, c.in-None.ensures, refl)

pub returns-in-Some-clause-kept : goal.returns-in-Some-clause-kept
returns-in-Some-clause-kept c =
    if_ok c.plan_part.result (λ edits. IsClassKept c.args.a.now.value c.in-Some.part c.args.order.now)
    (λ edits. IsPlaceKept c.args.a.now.value c.args.path.now c.args.line c.args.column c.args.order.now)
    (λ edits h. place_kept c.args.a.now.value c.args.path.now c.args.line c.args.column c.args.order.now c.in-Some.part c.in-Some.ensures h) c.plan_part.ensures.kept
