use Rattle.std.proofs.Common.{List, ap, subst, ◌∙◌}
use Rattle.cs_base.specs.declared.causes.Cause.TheVariants as cause
use Rattle.cs_base.specs.declared.positions.Pos.{Pos}
use Rattle.analysis.specs.Below.scope_bind.Bound.{Bound}
use Rattle.analysis.specs.Below.unit_steps.Texts.{UnitTextValue}
use Rattle.offences.specs.First.{standing, FirstThen}
use Rattle.rename_rules.proofs.CallLemmas.{calls_told}
use Rattle.rename_rules.proofs.first_calls.at_calls.Goals as goal

pub returns : goal.returns
returns c =
    let same =
    calls_told c.args.class.now.members c.args.names.now c.args.project.now c.args.one.now c.toks.result.now c.names.result.now
    (c.toks.ensures ∙ ap (λ (t : UnitTextValue). t.toks) c.text-text.ensures) (c.names.ensures ∙ ap (λ (b : Bound). b.names) c.bound-bound.ensures) in
    subst (λ (ps : List Pos). FirstThen c.args.a.now.value.table (standing cause.Undeclared ps) c.args.first c.at_names.result) same c.at_names.ensures
