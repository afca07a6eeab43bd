use Rattle.std.proofs.Common.{◌∙◌}
use Rattle.unit_steps.proofs.FirstNamesLemmas.{find-names}
use Rattle.unit_steps.proofs.first_names.FirstNames.find.Goals as goal

pub returns : goal.returns
returns c =
    rw (← c.self.view_is) (c.get.ensures.value ∙ find-names (λ k. k.items) c.args.text.now c.self.inside.names.entries c.self.invariant)
