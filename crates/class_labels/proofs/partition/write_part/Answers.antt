use Rattle.std.proofs.Common.{sym, ◌∙◌, ap, set, ◌+◌}
use Rattle.class_labels.specs.Labels.{spot}
use Rattle.class_labels.proofs.PartFacts.{with_part_none, with_part_more}
use Rattle.class_labels.proofs.partition.write_part.Goals as goal

pub loop-offset-init : goal.loop-offset-init
loop-offset-init c = sym (with_part_none c.args.class c.args.x c.args.spots.now)

pub loop-offset-preserved : goal.loop-offset-preserved
loop-offset-preserved c =
    ap (λ v. set v (c.args.x + c.loop-offset.offset) (spot c.args.class c.loop-offset.offset)) c.loop-offset.invariant
    ∙ sym (with_part_more c.args.class c.loop-offset.offset c.args.x c.args.spots.now)
