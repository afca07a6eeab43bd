use Rattle.std.proofs.Common.{◌≡◌, ◌+◌, ◌-◌, arith, add-one}
use Rattle.std.specs.Prelude.{slice_get, Some}
use Rattle.query_report.proofs.MarkLemmas.{units-more}
use Rattle.query_report.proofs.marks.mark_units.Goals as goal

pub loop-before-preserved : goal.loop-before-preserved
loop-before-preserved c =
    let k : c.loop-before.before + 1 - 1 ≡ c.loop-before.before = omega arith in
    let there : slice_get c.args.t.now.texts c.loop-before.before ≡ Some c.text.result.now = rw k at c.text.ensures in
    let more = units-more c.args.t.now.texts c.args.marks.now.items c.loop-before.before c.text.result.now there in
    rw (add-one, more, ← c.loop-before.invariant, ← c.reached.ensures) c.mark_unit.ensures
