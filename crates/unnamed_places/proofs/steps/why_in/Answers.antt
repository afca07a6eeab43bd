use Rattle.std.proofs.Common.{sym}
use Rattle.unnamed_places.proofs.steps.why_in.Goals as goal

pub returns-in-None : goal.returns-in-None
returns-in-None c = (c.args.file.now, c.requires, sym c.in-None.ensures)

pub returns-then-in_name : goal.returns-then-in_name
returns-then-in_name c = (c.args.file.now, c.requires, (c.in-Some.p, sym c.in-Some.ensures, sym c.if-in_name.ensures))

pub returns-else-in_name : goal.returns-else-in_name
returns-else-in_name c = (c.args.file.now, c.requires, (c.in-Some.p, sym c.in-Some.ensures, sym c.if-in_name.ensures))
