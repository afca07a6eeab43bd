use Rattle.std.proofs.Common.{◌≡◌, ◌∙◌}
use Rattle.std.specs.Prelude.{IsSome}
use Rattle.gnu_bind.specs.Below.c_types.Faults.{fault_of}
use Rattle.gnu_bind.specs.Bound.{binding_by}
use Rattle.unit_checks.specs.Findings.{name_stop}
use Rattle.unit_checks.proofs.StopLemmas.{both_ok, name_told}
use Rattle.unit_checks.proofs.stops.name_stop.Goals as goal

pub returns-in-Err : goal.returns-in-Err
returns-in-Err c =
    let bound = binding_by c.args.standard c.args.toks.now c.args.tree.now in
    both_ok c.told.result (λ s. s ≡ c.told_of_name.result) (λ s. IsSome c.told_of_name.result) (λ s. s ≡ name_stop bound)
    c.told.ensures.same c.told.ensures.some
    (λ s same some. same ∙ name_told (fault_of c.in-Err.refusal) c.told_of_name.result bound c.told_of_name.ensures some c.in-Err.ensures.answer)
