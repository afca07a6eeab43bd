use Rattle.std.proofs.Common.{◌∙◌, refl, sym}
use Rattle.trim_plan.proofs.ChildLemmas.{same-label}
use Rattle.trim_plan.proofs.trees.is_root.Goals as goal

pub returns-clause-label : goal.returns-clause-label
returns-clause-label c = λ passed.
    sym c.label-2.ensures
    ∙ sym (same-label c.label.result c.label-2.result (c.if-not-is_same_label.ensures.production refl) (c.if-not-is_same_label.ensures.alternative refl))
    ∙ c.label.ensures
