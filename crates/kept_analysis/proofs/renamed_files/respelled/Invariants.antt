use Rattle.analysis.specs.Below.lexer.Places.{pos}
use Rattle.kept_analysis.specs.Edits.{IsMade}
use Rattle.offences.specs.Moves.{put_by}
use Rattle.kept_analysis.proofs.renamed_files.respelled.Given as goal

abbrev pub invariant-loop-offset : goal.invariant-loop-offset
invariant-loop-offset l = IsMade (λ at c. put_by l.moves (pos l.number at) c) l.bytes l.out.items l.offset l.at
