use Rattle.std.proofs.Common.{sym, ◌∙◌}
use Rattle.std.proofs.lemmas.Result.{IfOk-weaker}
use Rattle.macro_body.proofs.HideLemmas.{in_both-same}
use Rattle.macro_body.proofs.hide_set.HideSet.common.Goals as goal

pub returns-then-is_same : goal.returns-then-is_same
returns-then-is_same c =
    IfOk-weaker c.copy.result _ _ (λ h is. is ∙ sym (in_both-same c.args.self.now c.args.other.now c.if-is_same.ensures)) c.copy.ensures
