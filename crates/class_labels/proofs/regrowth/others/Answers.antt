use Rattle.std.proofs.Common.{arith}
use Rattle.class_labels.specs.Labels.{spot}
use Rattle.class_labels.proofs.PlaceFacts.{stay_none, stay_more}
use Rattle.class_labels.proofs.regrowth.others.Goals as goal

pub stay-init : goal.stay-init
stay-init c = record {
  within = omega arith;
  stay = stay_none c.args.class c.args.len c.args.spots.now;
}
