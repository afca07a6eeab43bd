use Rattle.std.proofs.Common.{sym, ap, ◌∙◌}
use Rattle.cs_base.proofs.ListLemmas.{nil_from, not_nil}
use Rattle.list_cuts.specs.Orders.{is_order}
use Rattle.macro_plan.proofs.PlanLemmas.{no_macro, no_order}
use Rattle.macro_plan.proofs.plan.plan_named.Goals as goal

pub returns-then-is_empty : goal.returns-then-is_empty
returns-then-is_empty c =
    no_macro c.args.macros.now.analysis.value c.args.macros.now.members c.args.order.now (sym c.in_ok-heads.ensures.answer ∙ sym c.as_slice.ensures.value ∙ nil_from c.as_slice.result.now c.if-is_empty.ensures)

pub returns-then-not-branch : goal.returns-then-not-branch
returns-then-not-branch c =
    no_order c.args.macros.now.analysis.value c.args.macros.now.members c.args.order.now
    (λ none. not_nil c.as_slice.result.now c.if-is_empty.ensures (c.as_slice.ensures.value ∙ (c.in_ok-heads.ensures.answer ∙ none)))
    (ap (λ n. is_order n c.args.order.now) (sym c.parameter_count-count.ensures.answer) ∙ sym c.in_ok-is_order.ensures.answer ∙ c.if-not-branch.true)
