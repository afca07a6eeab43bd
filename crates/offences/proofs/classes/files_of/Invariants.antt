use Rattle.offences.proofs.FileLemmas.{HoldTo}
use Rattle.offences.proofs.classes.files_of.Given as goal

abbrev pub invariant-loop-part : goal.invariant-loop-part
invariant-loop-part l = HoldTo l.members l.files l.part-index
