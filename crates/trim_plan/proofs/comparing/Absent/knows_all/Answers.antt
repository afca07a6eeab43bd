use Rattle.std.proofs.Common.{refl, ◌≡◌, ◌<◌, ℕ, List, Some, true, arith}
use Rattle.analysis.specs.Below.source_files.Files.{absent_at}
use Rattle.analysis.proofs.Below.source_files.KeptLemmas.{absent-within}
use Rattle.trim_plan.specs.Places.{has_path}
use Rattle.trim_plan.proofs.CompareLemmas.{below-next}
use Rattle.trim_plan.proofs.comparing.Absent.knows_all.Goals as goal

pub loop-number-init : goal.loop-number-init
loop-number-init c = λ k path below at. absurd (omega (arith, below))

pub loop-number-preserved : goal.loop-number-preserved
loop-number-preserved c = λ k path below at.
    let table = c.args.b.now.value.table in
    below-next (λ (i : ℕ). (path : List ℕ) → absent_at table i ≡ Some path → has_path c.args.self.now.paths path ≡ true) c.loop-number.number k below
    (λ i less path at. c.loop-number.invariant i path less at) (c.if-not-knows.ensures refl) path at

pub returns : goal.returns
returns c = λ passed k path at.
    let within : k < c.loop-number.number =
    omega (arith, absent-within c.args.b.now.value.table k path at, c.files-number-end.ensures.answer, c.loop-number-test.false) in
    c.loop-number.invariant k path within at
