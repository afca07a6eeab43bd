use Rattle.std.proofs.Common.{refl, sym}
use Rattle.trim_plan.proofs.CompareLemmas.{entity-left}
use Rattle.trim_plan.proofs.comparing.is_left_entity.Goals as goal

pub returns : goal.returns
returns c = λ passed gone count is.
    entity-left gone count c.args.left.now c.args.old.now.names c.args.new.now.names c.args.e c.args.f is (sym c.if-is_gone.ensures) (c.if-not-is_at.ensures refl)
    (c.is_same_entity.ensures.kind passed) (c.is_same_entity.ensures.linkage passed)
