use Rattle.std.proofs.Common.{sym}
use Rattle.trim_plan.specs.Places.{has_path}
use Rattle.trim_plan.proofs.CompareLemmas.{known-one, known-none}
use Rattle.trim_plan.proofs.comparing.Absent.knows.Goals as goal

pub returns-in_default : goal.returns-in_default
returns-in_default c = λ passed path at. known-none (has_path c.args.self.now.paths) _ path (sym c.in_default.ensures) at

pub returns : goal.returns
returns c = λ passed path at.
    known-one (has_path c.args.self.now.paths) c.has.result c.in-Some.path.now _ path (sym c.in-Some.ensures) at c.has.ensures passed
