use Rattle.part_respell.proofs.WalkLemmas.{small}
use Rattle.kept_analysis.proofs.renamed_files.stands_at.Goals as goal

pub returns-in-Some-clause-small : goal.returns-in-Some-clause-small
returns-in-Some-clause-small c = small c.args.file.now.number c.args.file.now.bytes c.text.result.now c.text.ensures

pub returns-in-None-clause-small : goal.returns-in-None-clause-small
returns-in-None-clause-small c = small c.args.file.now.number c.args.file.now.bytes c.text.result.now c.text.ensures
