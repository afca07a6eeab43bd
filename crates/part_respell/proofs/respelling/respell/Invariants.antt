use Rattle.std.proofs.Common.{◌-◌, length}
use Rattle.part_respell.specs.Walk.{IsMade}
use Rattle.part_respell.proofs.respelling.respell.Given as goal

abbrev pub invariant-bytes : goal.invariant-bytes
invariant-bytes l = IsMade l.members l.name l.file l.bytes l.out.items l.offset l.at l.left

abbrev pub decreases-bytes : goal.decreases-bytes
decreases-bytes l = length l.bytes - l.offset
