use Rattle.std.proofs.Common.{◌≡◌, map, take}
use Rattle.analysis.specs.Changed.{renamed_link}
use Rattle.offences.specs.Moves.{renaming_by}
use Rattle.offences.proofs.respelled_toks.links_stay.Given as goal

abbrev pub invariant-loop-link : goal.invariant-loop-link
invariant-loop-link l = map (renamed_link (renaming_by l.moves)) (take l.link-index l.links) ≡ take l.link-index l.links
