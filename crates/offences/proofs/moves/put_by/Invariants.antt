use Rattle.std.proofs.Common.{◌≡◌, drop}
use Rattle.offences.specs.Moves.{put_at}
use Rattle.offences.proofs.moves.put_by.Given as goal

abbrev pub invariant-loop-part : goal.invariant-loop-part
invariant-loop-part l = put_at (drop l.part-index l.members) l.p ≡ put_at l.members l.p
