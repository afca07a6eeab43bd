use Rattle.std.proofs.Common.{◌≡◌, take}
use Rattle.std.specs.Prelude.{filter}
use Rattle.offences.specs.Moves.{is_outside}
use Rattle.offences.proofs.moves.others.Given as goal

abbrev pub invariant-loop-part : goal.invariant-loop-part
invariant-loop-part l = l.others.items ≡ filter (is_outside l.files) (take l.part-index l.members)
