use Rattle.std.proofs.Common.{sym}
use Rattle.c99_tree.proofs.NameLemmas.{IsNumberOf-found}
use Rattle.c99_tree.proofs.numbered_names.NumberedNames.numbered.Goals as goal

pub returns-in-Some-clause-ok : goal.returns-in-Some-clause-ok
returns-in-Some-clause-ok c = IsNumberOf-found c.args.self.now c.args.name.now c.in-Some.number (sym c.in-Some.ensures.answer)
