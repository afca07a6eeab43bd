use Rattle.kept_analysis.proofs.StillLemmas.{editing_stays}
use Rattle.kept_analysis.proofs.renamed_files.changed.Goals as goal

pub returns-then-is_apart : goal.returns-then-is_apart
returns-then-is_apart c = editing_stays c.args.moves.now c.args.number c.args.file.now.bytes (c.is_apart.ensures c.if-is_apart.true)
