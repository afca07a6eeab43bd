use Rattle.offences.specs.Refusals.{refusal_of}
use Rattle.template_rules.specs.Template.{IsClassOrdered, IsOrdered}
use Rattle.offences.proofs.AnswerLemmas.{gives_also}
use Rattle.template_plan.specs.Kept.{IsClassKept, IsKept}
use Rattle.template_plan.proofs.MeaningLemmas.{class_kept, if_ok}
use Rattle.template_plan.proofs.plan.plan_part.Goals as goal

pub returns-in-Some-clause-answer : goal.returns-in-Some-clause-answer
returns-in-Some-clause-answer c =
    gives_also (λ edits. edits) refusal_of (IsOrdered c.args.a.now.value c.members.result.now c.args.order.now) (IsClassOrdered c.args.a.now.value c.args.part c.args.order.now)
    (λ r h. record { members = c.members.result.now; are_members = c.members.ensures; ordered = h }) c.plan_class.result c.plan_class.ensures.answer

pub returns-in-Some-clause-kept : goal.returns-in-Some-clause-kept
returns-in-Some-clause-kept c =
    if_ok c.plan_class.result (λ edits. IsKept c.args.a.now.value c.members.result.now c.args.order.now) (λ edits. IsClassKept c.args.a.now.value c.args.part c.args.order.now)
    (λ edits h. class_kept c.args.a.now.value c.args.part c.args.order.now c.members.result.now c.members.ensures h) c.plan_class.ensures.kept
