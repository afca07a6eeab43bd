use Rattle.std.proofs.Common.{length, arith}
use Rattle.eclass_map.proofs.RunFacts.{begins_first, next_end}
use Rattle.eclass_map.proofs.places.run_of.Goals as goal

pub loop-high-init : goal.loop-high-init
loop-high-init c =
    let b = begins_first c.args.count c.args.x c.args.runs.now c.requires.runs c.requires.held in
    record {
      some = b.0;
      within = omega arith;
      begun = b.1;
      last = omega (arith, next_end c.args.runs.now (length c.args.runs.now) c.args.count (omega arith), c.requires.held);
    }
