use Rattle.std.proofs.Common.{◌≡◌, map, take}
use Rattle.analysis.specs.Changed.{renamed_token}
use Rattle.offences.specs.Moves.{renaming_by}
use Rattle.offences.proofs.respelled_toks.renamed_toks.Given as goal

abbrev pub invariant-loop-tok : goal.invariant-loop-tok
invariant-loop-tok l = l.renamed.items ≡ map (renamed_token (renaming_by l.moves)) (take l.tok-index l.toks)
