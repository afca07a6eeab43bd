use Rattle.trim_plan.specs.Places.{has_path}
use Rattle.trim_plan.proofs.CompareLemmas.{absent-none}
use Rattle.trim_plan.proofs.comparing.Absent.of.Goals as goal

pub loop-number-init : goal.loop-number-init
loop-number-init c = absent-none c.args.a.now.value.table (has_path c.none-absent.result.paths) c.none-absent.ensures
