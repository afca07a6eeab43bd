use Rattle.std.proofs.Common.{sym}
use Rattle.name_chains.proofs.latest.alike.Goals as goal

pub returns : goal.returns
returns c = rw (c.number_at.ensures, c.number_at-2.ensures) (sym (c.requires.numbered.same c.args.i c.args.j))
