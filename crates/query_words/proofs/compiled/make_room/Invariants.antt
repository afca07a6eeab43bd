use Rattle.std.proofs.Common.{◌+◌, ◌-◌, vec_len}
use Rattle.query_words.proofs.compiled.make_room.Given as goal

abbrev pub decreases-loop-places : goal.decreases-loop-places
decreases-loop-places l = l.len + 1 - vec_len l.places
