use Rattle.std.proofs.Common.{arith}
use Rattle.cscout_run.proofs.SizeLemmas.{places_in-drop}
use Rattle.cscout_run.proofs.generating.places.Goals as goal

pub loop-k-preserved : goal.loop-k-preserved
loop-k-preserved c =
    let all = c.loop-k.invariant.so_far in
    let few = c.loop-k.invariant.few in
    let next = places_in-drop c.args.edits.now c.loop-k.k c.count.result (omega arith) c.count.ensures in
    record { so_far = omega arith; few = omega arith }
