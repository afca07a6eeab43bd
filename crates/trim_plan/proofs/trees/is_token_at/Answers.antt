use Rattle.trim_plan.proofs.trees.is_token_at.Goals as goal

pub returns-in-Token : goal.returns-in-Token
returns-in-Token c = λ passed. record { at = c.in-Token.place; has = c.in-Token.ensures.here; there = c.is_at.ensures passed }
