use Rattle.source_files.specs.Sources.{source_at}
use Rattle.source_files.proofs.TableLemmas.{reads-refl}
use Rattle.include_tree.proofs.AskingLemmas.{there-asked}
use Rattle.include_tree.proofs.including.is_there.Goals as goal

pub returns-in-Ok-clause-answer : goal.returns-in-Ok-clause-answer
returns-in-Ok-clause-answer g c = λ source found.
    there-asked c.there_asked.result c.args.cache.now.table c.there_asked.new.cache.table source c.args.unit.now c.args.cache.now.toks (source_at c.args.cache.now.table c.args.number) c.args.at
    c.args.next c.args.header.now c.args.behind c.in-Ok.asked.paths.items c.in-Ok.asked.place c.in-Ok.ensures.paths c.in-Ok.ensures.place (c.there_asked.ensures.answer source found)

pub returns-in-Err-clause-reads : goal.returns-in-Err-clause-reads
returns-in-Err-clause-reads g c = reads-refl (g.F.Files.told c.args.files.now).held c.args.cache.now
