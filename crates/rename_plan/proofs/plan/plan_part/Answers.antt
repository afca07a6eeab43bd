use Rattle.rename_rules.specs.Renaming.{IsClassRenamed, IsRenamed}
use Rattle.offences.specs.Refusals.{refusal_of}
use Rattle.offences.proofs.AnswerLemmas.{gives_also}
use Rattle.rename_plan.proofs.plan.plan_part.Goals as goal

pub returns-in-Some : goal.returns-in-Some
returns-in-Some c =
    gives_also (λ edits. edits) refusal_of (IsRenamed c.args.a.now.value c.members.result.now c.args.name.now c.args.strings) (IsClassRenamed c.args.a.now.value c.args.part c.args.name.now c.args.strings)
    (λ r h. record { members = c.members.result.now; are_members = c.members.ensures; renamed = h }) c.plan_class.result c.plan_class.ensures
