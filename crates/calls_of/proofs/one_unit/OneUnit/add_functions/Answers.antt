use Rattle.calls_of.proofs.ListLemmas.{flat-more, numbers-more}
use Rattle.std.proofs.Common.{refl, ◌+◌}
use Rattle.calls_of.specs.InUnits.{function_named}
use Rattle.std.specs.List.{range_with_len}
use Rattle.calls_of.proofs.one_unit.OneUnit.add_functions.Goals as goal

pub loop-k-preserved : goal.loop-k-preserved
loop-k-preserved c =
    let k = c.loop-k.k in
    flat-more (function_named c.args.known.now c.args.self.now) (range_with_len 0 k) (range_with_len 0 (k + 1)) k _ c.loop-k.nodes.items c.add_function.new.nodes.items _
    (numbers-more k) c.loop-k.invariant c.in_ok-add_function.ensures refl
