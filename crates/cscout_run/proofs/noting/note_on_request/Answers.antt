use Rattle.cscout_run.proofs.RunLemmas.{if_told}
use Rattle.std.proofs.Common.{refl}
use Rattle.cscout_run.proofs.noting.note_on_request.Goals as goal

pub returns-in-Over-clause-answer : goal.returns-in-Over-clause-answer
returns-in-Over-clause-answer g c = rw (c.in-Over.is, ← c.place_of.ensures) c.note_over.ensures.answer

pub returns-in-Help-clause-answer : goal.returns-in-Help-clause-answer
returns-in-Help-clause-answer g c = rw c.in-Help.is (if_told (g.F.Files.told c.args.files.now).held _ (λ fs words. refl))

pub returns-in-Version-clause-answer : goal.returns-in-Version-clause-answer
returns-in-Version-clause-answer g c = rw c.in-Version.is (if_told (g.F.Files.told c.args.files.now).held _ (λ fs words. refl))

pub returns-in-Generated-clause-answer : goal.returns-in-Generated-clause-answer
returns-in-Generated-clause-answer g c = rw c.in-Generated.is (if_told (g.F.Files.told c.args.files.now).held _ (λ fs words. refl))
