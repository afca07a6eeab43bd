use Rattle.std.proofs.Common.{sym, ◌∙◌, ap, List, ℕ}
use Rattle.std.proofs.lemmas.Result.{IfOk-weaker}
use Rattle.macro_body.specs.Hides.{with_names}
use Rattle.macro_body.proofs.HideLemmas.{with_names-none}
use Rattle.macro_body.proofs.hide_set.HideSet.with_names.Goals as goal

pub returns-then-is_empty : goal.returns-then-is_empty
returns-then-is_empty c =
    IfOk-weaker c.copy.result _ _
    (λ h is. is ∙ sym (with_names-none c.args.more.now) ∙ ap (λ (known : List (List ℕ)). with_names known c.args.more.now) (sym c.if-is_empty.ensures)) c.copy.ensures
