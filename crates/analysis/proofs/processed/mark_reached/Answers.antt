use Rattle.std.proofs.lemmas.Option.{slice_get-get_or}
use Rattle.analysis.specs.Naming.{names_reached}
use Rattle.analysis.proofs.ProcessedLemmas.{marks_more, marks_all}
use Rattle.analysis.proofs.processed.mark_reached.Goals as goal

pub loop-i-preserved : goal.loop-i-preserved
loop-i-preserved c =
    let table = c.args.a.now.table in
    marks_more table (names_reached table) c.args.reached.now c.loop-i.i _ c.args.marks.now.items c.loop-i.marks.items c.mark_one.new.marks.items
    (slice_get-get_or c.args.reached.now c.loop-i.i _ c.loop-i-test.true) c.loop-i.invariant c.in-Ok.ensures

pub returns : goal.returns
returns c =
    let table = c.args.a.now.table in
    marks_all table (names_reached table) c.args.reached.now c.loop-i.i c.args.marks.now.items c.loop-i.marks.items c.loop-i-test.false c.loop-i.invariant
