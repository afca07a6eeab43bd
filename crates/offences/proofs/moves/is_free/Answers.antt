use Rattle.offences.proofs.FileLemmas.{all_apart}
use Rattle.offences.proofs.moves.is_free.Goals as goal

pub returns : goal.returns
returns c = λ _. all_apart c.args.members.now c.args.number c.loop-part.part-index c.loop-part-test.false c.loop-part.invariant
