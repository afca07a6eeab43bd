use Rattle.std.proofs.Common.{◌≡◌}
use Rattle.kept_analysis.specs.Edits.{edited_front}
use Rattle.offences.specs.Moves.{editing_by}
use Rattle.kept_analysis.proofs.renamed_files.edited_files.Given as goal

abbrev pub invariant-loop-number : goal.invariant-loop-number
invariant-loop-number l = l.files.table ≡ edited_front (editing_by l.moves) 0 l.number l.fn.cache.table
