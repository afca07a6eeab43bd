use Rattle.macro_plan.proofs.comparing.units_stay.Goals as goal

pub returns : goal.returns
returns c = λ is. record { absent = c.stay_absent.ensures c.if-not-stay_absent.false; alike = c.in_ok-alike.ensures is }
