use Rattle.source_files.specs.Search.{search, searched}
use Rattle.source_files.specs.Answers.{fault_of}
use Rattle.source_files.specs.Sources.{opening_found}
use Rattle.source_files.proofs.TableLemmas.{earlier_found, reads-trans, reads-asked, reads-widened}
use Rattle.std.proofs.Common.{◌≡◌, ℕ, ◌<◌, List, [], length, get_or, Some, refl, sym, ◌∙◌, ap}
use Rattle.cs_base.proofs.ListLemmas.{default as get_or-default}
use Rattle.source_files.proofs.SourcesLemmas.{none-told, found-missing, found-opening}
use Rattle.include_tree.proofs.including.open_asked.Goals as goal

pub returns-in-Ok-Some-clause-reads : goal.returns-in-Ok-Some-clause-reads
returns-in-Ok-Some-clause-reads g c =
    reads-trans (g.F.Files.told c.args.files.now).held (g.F.Files.told c.args.files.now).held c.args.cache.now c.search.new.cache c.open_file.new.cache refl
    (reads-asked (g.F.Files.told c.args.files.now).held c.args.cache.now c.search.new.cache c.in-Ok-Some.ensures.asks.only c.in-Ok-Some.ensures.asks.counted)
    (reads-widened (g.F.Files.told c.args.files.now).held c.search.new.cache c.open_file.new.cache c.open_file.ensures.keeps.widens c.open_file.ensures.keeps.counted)

pub returns-in-Ok-Some-clause-answer : goal.returns-in-Ok-Some-clause-answer
returns-in-Ok-Some-clause-answer g c =
    let at = rw (c.in-Ok-Some.field-0-is, c.as_slice.ensures.value) at c.in-Ok-Some.ensures.answer in
    let within : c.in-Ok-Some.i < length c.args.asked.now.paths.items = rw (c.in-Ok-Some.field-0-is, c.as_slice.ensures.value) at c.in-Ok-Some.ensures.within in
    let path : c.bytes.result.now ≡ get_or c.args.asked.now.paths.items c.in-Ok-Some.i [] =
    c.bytes.ensures ∙ c.index.ensures ∙ get_or-default c.args.asked.now.paths.items c.in-Ok-Some.i c.index.result.now [] within in
    λ source found.
    found-opening c.open_file.result c.open_file.new.cache.table c.args.cache.now.table c.search.new.cache.table source c.args.asked.now.paths.items c.args.asked.now.place c.bytes.result.now
    (at source (earlier_found source c.search.new.cache.table c.open_file.new.cache.table (c.open_file.ensures.keeps.widens source).grown found)
    ∙ ap (λ (p : List ℕ). searched (Some p) c.search.new.cache.table) (sym path))
    c.open_file.ensures.answer

pub returns-in-Ok-None-clause-answer : goal.returns-in-Ok-None-clause-answer
returns-in-Ok-None-clause-answer g c =
    let at = rw (c.in-Ok-None.field-0-is, c.as_slice.ensures.value) at c.in-Ok-None.ensures.answer in
    λ source found.
    found-missing (fault_of c.fault_there.result) c.args.cache.now.table c.search.new.cache.table source c.args.asked.now.paths.items c.args.asked.now.place (at source found)
    c.fault_there.ensures.answer

pub returns-in-Ok-None-clause-reads : goal.returns-in-Ok-None-clause-reads
returns-in-Ok-None-clause-reads g c =
    reads-asked (g.F.Files.told c.args.files.now).held c.args.cache.now c.search.new.cache c.in-Ok-None.ensures.asks.only c.in-Ok-None.ensures.asks.counted

pub returns-in-Err-clause-reads : goal.returns-in-Err-clause-reads
returns-in-Err-clause-reads g c = reads-asked (g.F.Files.told c.args.files.now).held c.args.cache.now c.search.new.cache c.in-Err.ensures.asks.only c.in-Err.ensures.asks.counted

pub returns-in-Err-clause-answer : goal.returns-in-Err-clause-answer
returns-in-Err-clause-answer g c =
    λ source found. none-told (fault_of c.in-Err.fault) (opening_found c.args.asked.now.place (search source c.args.asked.now.paths.items c.args.cache.now.table)) c.in-Err.ensures.no_fault
