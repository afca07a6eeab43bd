use Rattle.std.proofs.Common.{refl, ap, ◌∙◌}
use Rattle.analysis.specs.Below.unit_steps.Texts.{UnitTextValue}
use Rattle.template_plan.proofs.ComparedLemmas.{alike}
use Rattle.template_plan.proofs.comparing.is_alike_at.Goals as goal

pub returns : goal.returns
returns c = λ passed.
    alike c.args.u.now c.args.v.now c.args.places.now c.args.k c.args.at c.toks-old.result.now c.toks-new.result.now c.bound-names.result.now c.bound-others.result.now
    (c.toks-old.ensures ∙ ap (λ (t : UnitTextValue). t.toks) c.text-had.ensures)
    (c.toks-new.ensures ∙ ap (λ (t : UnitTextValue). t.toks) c.text-has.ensures)
    c.bound-names.ensures c.bound-others.ensures
    (c.if-not-is_same_tok.ensures refl) (c.is_name_at.ensures.entity passed) (c.is_name_at.ensures.declares passed) (c.is_name_at.ensures.kind passed)
    (c.is_name_at.ensures.linkage passed)
