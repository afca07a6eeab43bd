use Rattle.std.proofs.Common.{arith, ◌+◌, refl}
use Rattle.generated.proofs.FileLemmas.{unit-is_new, workspace-is_new}
use Rattle.generated.proofs.making.generate.Goals as goal

pub add_unit-requires : goal.add_unit-requires
add_unit-requires c =
    rw c.loop-k.invariant.files
    (let new = unit-is_new c.loop-k.k (c.loop-k.k + 1) (omega arith) (omega arith) in rw new refl)

pub add-requires-2 : goal.add-requires-2
add-requires-2 c = rw c.loop-k.invariant.files (let new = workspace-is_new c.loop-k.k in rw new refl)
