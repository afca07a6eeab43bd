use Rattle.std.proofs.Common.{◌∙◌, ap}
use Rattle.analysis.specs.Below.unit_steps.Texts.{UnitTextValue}
use Rattle.template_plan.proofs.ComparedLemmas.{named}
use Rattle.template_plan.proofs.comparing.are_named.Goals as goal

pub returns : goal.returns
returns c = λ passed.
    let old = c.toks-old.result.now in
    let new = c.toks-new.result.now in
    named c.args.u.now c.args.v.now old new c.bound-names.result.now c.bound-others.result.now
    (c.toks-old.ensures ∙ ap (λ (t : UnitTextValue). t.toks) c.text-had.ensures)
    (c.toks-new.ensures ∙ ap (λ (t : UnitTextValue). t.toks) c.text-has.ensures)
    c.bound-names.ensures c.bound-others.ensures
    c.if-new-count.false
    (rw c.names-own.ensures at (c.are_within-within.ensures c.if-not-within.false))
    (rw (c.names-behind.ensures, ← c.if-new-count.false) at (c.are_within.ensures passed))
