use Rattle.std.proofs.Common.{sym, ◌∙◌, ap, List, ℕ}
use Rattle.std.proofs.lemmas.Result.{IfOk-weaker}
use Rattle.macro_body.specs.Hides.{with_names}
use Rattle.macro_body.proofs.HideLemmas.{with_names-none}
use Rattle.macro_body.proofs.added_names.joined.Goals as goal

pub returns-then-is_empty-clause-answer : goal.returns-then-is_empty-clause-answer
returns-then-is_empty-clause-answer c =
    IfOk-weaker c.copy.result _ _
    (λ h is. is ∙ sym (with_names-none c.args.names.now) ∙ ap (λ (known : List (List ℕ)). with_names known c.args.names.now) (sym c.if-is_empty.ensures)) c.copy.ensures
