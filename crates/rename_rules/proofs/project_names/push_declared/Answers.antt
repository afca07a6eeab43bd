use Rattle.std.proofs.Common.{◌++◌, List, ap, subst, ◌∙◌}
use Rattle.std.specs.Prelude.{OnOk}
use Rattle.analysis.specs.Below.scope_bind.Bound.{Bound}
use Rattle.analysis.specs.Below.unit_steps.Texts.{UnitTextValue}
use Rattle.rename_rules.specs.Undeclared.{HaveNames, ProjectName}
use Rattle.rename_rules.proofs.CallLemmas.{declared_same}
use Rattle.rename_rules.proofs.project_names.push_declared.Goals as goal

pub returns : goal.returns
returns c =
    let names = ap (λ (b : Bound). b.names) c.bound-bound.ensures in
    let same =
    declared_same c.args.class.now.members c.args.project.now c.args.one.now c.bound-bound.result.now.names c.names.result.now c.toks.result.now
    (c.toks.ensures ∙ ap (λ (t : UnitTextValue). t.toks) c.text-text.ensures) names (c.names.ensures ∙ names) in
    subst (λ (ns : List ProjectName). OnOk c.push_names.result (HaveNames c.push_names.new.names.items (c.args.names.now.items ++ ns))) same c.push_names.ensures
