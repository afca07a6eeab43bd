use Rattle.source_files.proofs.TableLemmas.{reads-refl}
use Rattle.include_tree.proofs.FrontLemmas.{fronts-later}
use Rattle.include_tree.proofs.main_walk.go_along.Goals as goal

pub returns-in_ok-keep-in-Ok-clause-fronts : goal.returns-in_ok-keep-in-Ok-clause-fronts
returns-in_ok-keep-in-Ok-clause-fronts g c =
    c.in_ok-keep-in-Ok.ensures c.walk_leads.new.cache.table c.in-Ok.ensures.along
    (fronts-later c.args.cache.now.table c.walk_leads.new.cache.table c.args.fronts.now.all.items c.in-Ok.ensures.reads.grown c.requires.fronts)

pub returns-in_err-before-clause-reads : goal.returns-in_err-before-clause-reads
returns-in_err-before-clause-reads g c = reads-refl (g.F.Files.told c.args.files.now).held c.args.cache.now
