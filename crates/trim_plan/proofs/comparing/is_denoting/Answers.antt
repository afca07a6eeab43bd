use Rattle.std.proofs.Common.{◌∙◌, ℕ, Some, sym, ap}
use Rattle.trim_plan.proofs.comparing.is_denoting.Goals as goal

pub returns-in-Some : goal.returns-in-Some
returns-in-Some c = λ passed gone count is.
    let own = c.is_left_entity.ensures passed gone count is in
    (sym c.in-Some.ensures ∙ ap (λ (n : ℕ). Some n) own.0, own.1)
