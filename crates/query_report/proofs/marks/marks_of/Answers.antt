use Rattle.query_report.proofs.MarkLemmas.{marks-told}
use Rattle.query_report.proofs.marks.marks_of.Goals as goal

pub returns : goal.returns
returns c =
    marks-told c.args.t.now c.in_ok-marks.marks.items c.mark_units.new.marks.items c.in_ok-marks.ensures.each
    c.in_ok-marks.ensures.blank c.mark_units.ensures
