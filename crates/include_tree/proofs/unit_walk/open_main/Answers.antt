use Rattle.std.proofs.Common.{refl}
use Rattle.source_files.specs.Answers.{fault_of}
use Rattle.source_files.proofs.TableLemmas.{earlier_found, reads-trans, reads-asked, reads-widened}
use Rattle.source_files.proofs.SourcesLemmas.{none-told}
use Rattle.include_tree.proofs.UnitLemmas.{main_opening, gives-main}
use Rattle.include_tree.proofs.unit_walk.open_main.Goals as goal

pub returns-in-Ok-first_place-clause-reads : goal.returns-in-Ok-first_place-clause-reads
returns-in-Ok-first_place-clause-reads g c =
    reads-trans (g.F.Files.told c.args.files.now).held (g.F.Files.told c.args.files.now).held c.args.cache.now c.ask_bytes.new.cache c.open_file.new.cache refl
    (reads-asked (g.F.Files.told c.args.files.now).held c.args.cache.now c.ask_bytes.new.cache c.in-Ok.ensures.asks.only c.in-Ok.ensures.asks.counted)
    (reads-widened (g.F.Files.told c.args.files.now).held c.ask_bytes.new.cache c.open_file.new.cache c.open_file.ensures.keeps.widens c.open_file.ensures.keeps.counted)

pub returns-in-Ok-first_place-clause-answer : goal.returns-in-Ok-first_place-clause-answer
returns-in-Ok-first_place-clause-answer g c = λ source found.
    gives-main source c.open_file.result c.open_file.new.cache.table c.args.cache.now.table c.ask_bytes.new.cache.table c.args.path.now c.in-Ok-first_place.place c.in-Ok-first_place.ensures
    (c.in-Ok.ensures.answer source (earlier_found source c.ask_bytes.new.cache.table c.open_file.new.cache.table (c.open_file.ensures.keeps.widens source).grown found))
    c.open_file.ensures.answer

pub returns-in-Err-clause-answer : goal.returns-in-Err-clause-answer
returns-in-Err-clause-answer g c =
    λ source found. none-told (fault_of c.in-Err.fault) (main_opening c.args.path.now c.args.cache.now.table source) c.in-Err.ensures.no_fault

pub returns-in-Err-first_place-clause-reads : goal.returns-in-Err-first_place-clause-reads
returns-in-Err-first_place-clause-reads g c = reads-asked (g.F.Files.told c.args.files.now).held c.args.cache.now c.ask_bytes.new.cache c.in-Ok.ensures.asks.only c.in-Ok.ensures.asks.counted

pub returns-in-Err-clause-reads : goal.returns-in-Err-clause-reads
returns-in-Err-clause-reads g c = reads-asked (g.F.Files.told c.args.files.now).held c.args.cache.now c.ask_bytes.new.cache c.in-Err.ensures.asks.only c.in-Err.ensures.asks.counted
