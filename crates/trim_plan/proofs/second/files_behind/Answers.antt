use Rattle.std.proofs.lemmas.List.Elements.{All-nil}
use Rattle.trim_plan.specs.Second.{IsFileOf}
use Rattle.trim_plan.proofs.second.files_behind.Goals as goal

pub loop-number-init : goal.loop-number-init
loop-number-init c = rw c.new-files.ensures (All-nil (IsFileOf c.args.lines.now c.args.a.now.value.table))
