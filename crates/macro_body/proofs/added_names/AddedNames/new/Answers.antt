use Rattle.std.proofs.Common.{List, ℕ, sym, ap, ◌∙◌}
use Rattle.macro_body.specs.Hides.{with_names}
use Rattle.macro_body.proofs.HideLemmas.{with_names-none}
use Rattle.macro_body.proofs.added_names.AddedNames.new.Goals as goal

pub invariant_of-result : goal.invariant_of-result
invariant_of-result c =
    c.in_ok-both.ensures ∙ sym (with_names-none c.args.names) ∙ ap (λ (known : List (List ℕ)). with_names known c.args.names) (sym c.new.ensures)
