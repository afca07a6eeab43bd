use Rattle.std.proofs.Common.{◌≡◌, map, take}
use Rattle.analysis.specs.Changed.{renamed_token}
use Rattle.offences.specs.Moves.{renaming_by}
use Rattle.offences.proofs.respelled_toks.toks_stay.Given as goal

abbrev pub invariant-loop-tok : goal.invariant-loop-tok
invariant-loop-tok l = map (renamed_token (renaming_by l.moves)) (take l.tok-index l.toks) ≡ take l.tok-index l.toks
