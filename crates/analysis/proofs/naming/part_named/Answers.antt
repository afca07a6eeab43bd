use Rattle.std.proofs.Common.{sym}
use Rattle.analysis.proofs.PlaceNameLemmas.{named_part}
use Rattle.analysis.proofs.naming.part_named.Goals as goal

pub returns-in-Some : goal.returns-in-Some
returns-in-Some c =
    named_part c.args.a.now c.args.classes.now c.args.path.now c.args.line c.args.column c.in-Some.pos c.part_at.result c.requires.own
    (sym c.in-Some.ensures) (sym c.part_at.ensures.answer)
