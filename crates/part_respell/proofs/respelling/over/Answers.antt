use Rattle.std.proofs.Common.{sym}
use Rattle.part_respell.proofs.WalkLemmas.{over_first}
use Rattle.part_respell.proofs.respelling.over.Goals as goal

pub returns-else-first-at : goal.returns-else-first-at
returns-else-first-at c = sym (over_first c.args.file c.args.at c.args.members.now c.requires c.if-first-at.false)
