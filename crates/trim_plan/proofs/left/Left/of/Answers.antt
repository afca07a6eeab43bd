use Rattle.trim_plan.specs.Left.{is_gone}
use Rattle.trim_plan.proofs.PlaceLemmas.{left-of}
use Rattle.trim_plan.proofs.left.Left.of.Goals as goal

pub returns : goal.returns
returns c = left-of (is_gone c.args.lines.now c.args.text.now) c.args.count _ c.in_ok-gone.ensures (rw c.deref.ensures.value at c.in_ok-places.ensures)
