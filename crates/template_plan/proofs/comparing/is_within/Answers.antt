use Rattle.std.proofs.Common.{◌≡◌, ◌<◌, ◌∙◌, Some, length, slice_get, refl, sym, subst}
use Rattle.std.proofs.lemmas.Option.{same_Some, slice_get_read}
use Rattle.analysis.specs.Below.scope_bind.declared.bound.Name.{Name}
use Rattle.template_plan.proofs.comparing.is_within.Goals as goal

pub returns-in-Some : goal.returns-in-Some
returns-in-Some c = λ passed n at.
    let names = c.args.names.now in
    let count = c.args.count in
    let had : slice_get names c.args.k ≡ Some c.in-Some.name.now =
    slice_get_read names (length names) c.args.k c.in-Some.name.now refl c.in-Some.ensures.lookup.3.0 c.in-Some.ensures.lookup.1 in
    subst (λ (m : Name). (m.index < count) × (m.entity < count)) (same_Some c.in-Some.name.now n (sym had ∙ at))
    (c.is_name_within.ensures.index passed, c.is_name_within.ensures.entity passed)
