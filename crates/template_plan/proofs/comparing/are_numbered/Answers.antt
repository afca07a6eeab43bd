use Rattle.std.proofs.Common.{inl, inr, sym}
use Rattle.template_plan.proofs.comparing.are_numbered.Goals as goal

pub returns-then-number-eq0 : goal.returns-then-number-eq0
returns-then-number-eq0 c = λ passed. inl c.if-number-eq0.true

pub returns-in-Some : goal.returns-in-Some
returns-in-Some c = λ passed. inr (inl (c.is_kept_at.ensures passed c.args.b.now.value.table (sym c.in-Some.ensures)))

pub returns-in-None : goal.returns-in-None
returns-in-None c = λ passed. inr (inr (c.is_absent_in.ensures passed))
