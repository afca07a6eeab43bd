use Rattle.macro_plan.proofs.PlanLemmas.{turns}
use Rattle.macro_plan.proofs.plan.plan_macro.Goals as goal

pub returns-then-branch-clause-tokens : goal.returns-then-branch-clause-tokens
returns-then-branch-clause-tokens c =
    turns c.args.a.now.value c.args.path.now c.args.line c.args.column c.args.order.now c.in_ok-edits.edits c.in_ok-edits.ensures
    (c.in_ok-tokens_stay.ensures c.if-branch.true)
