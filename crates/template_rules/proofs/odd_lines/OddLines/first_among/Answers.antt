use Rattle.std.proofs.Common.{sym, subst, ◌∙◌}
use Rattle.template_rules.specs.OddLines.{ArePlaced}
use Rattle.template_rules.proofs.odd_lines.OddLines.first_among.Goals as goal

pub first_by_halves-requires-clause-placed : goal.first_by_halves-requires-clause-placed
first_by_halves-requires-clause-placed c =
    subst (λ lines. ArePlaced lines) (sym (c.as_slice.ensures.value ∙ c.self.view_is)) c.requires
