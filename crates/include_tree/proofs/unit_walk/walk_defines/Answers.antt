use Rattle.std.proofs.Common.{◌≡◌, Ok, Err, refl}
use Rattle.source_files.specs.Sources.{source_at}
use Rattle.source_files.proofs.AgreeLemmas.{some_source}
use Rattle.include_tree.specs.Unit.{with_defines}
use Rattle.include_tree.specs.Walk.{file_items}
use Rattle.unit_steps.specs.Keeping.{put_after}
use Rattle.unit_steps.specs.Moments.{state_in}
use Rattle.include_tree.specs.GivenFiles.{unit_context}
use Rattle.source_files.proofs.TableLemmas.{reads-trans, reads-widened}
use Rattle.include_tree.proofs.StayingLemmas.{some_is}
use Rattle.include_tree.proofs.LeadWalks.{at-file, begin-has}
use Rattle.include_tree.proofs.UnitLemmas.{outer-walked, outer-refused, defines_opening}
use Rattle.include_tree.proofs.unit_walk.walk_defines.Goals as goal

pub returns-in-Ok-walk_file-clause-answer : goal.returns-in-Ok-walk_file-clause-answer
returns-in-Ok-walk_file-clause-answer g c = λ none source found.
    outer-walked source (λ _. (state_in c.walk_file.new.cache.table c.walk_file.new.p, c.walk_file.new.p.text)) (Ok (tt {0}))
    c.args.p.now.text c.in-Ok.defines 199 (defines_opening c.args.number c.args.unit.now c.args.cache.now.table) c.make_defines.new.cache.table
    (state_in (with_defines c.args.number c.args.unit.now c.args.cache.now.table) c.args.p.now) c.args.unit.now c.args.cache.now.toks c.make_defines.new.cache.toks
    c.in-Ok.ensures.keeps.counted (c.in-Ok.ensures.answer none) (c.in-Ok-walk_file.ensures.answer source found)

pub returns-in-Err-walk_file-clause-answer : goal.returns-in-Err-walk_file-clause-answer
returns-in-Err-walk_file-clause-answer g c = λ none source found.
    outer-walked {X = Unit {0}} source (λ _. (state_in c.walk_file.new.cache.table c.walk_file.new.p, c.walk_file.new.p.text)) (Err c.in-Err-walk_file.fault)
    c.args.p.now.text c.in-Ok.defines 199 (defines_opening c.args.number c.args.unit.now c.args.cache.now.table) c.make_defines.new.cache.table
    (state_in (with_defines c.args.number c.args.unit.now c.args.cache.now.table) c.args.p.now) c.args.unit.now c.args.cache.now.toks c.make_defines.new.cache.toks
    c.in-Ok.ensures.keeps.counted (c.in-Ok.ensures.answer none) (c.in-Err-walk_file.ensures.answer source found)

pub returns-in-Ok-walk_file-clause-begun : goal.returns-in-Ok-walk_file-clause-begun
returns-in-Ok-walk_file-clause-begun g c = λ place.
    let file = some_is (source_at c.make_defines.new.cache.table c.in-Ok.defines) c.in-Ok.ensures.there in
    let agrees = some_source c.walk_file.new.cache.table c.numbers-numbers.ensures.once in
    begin-has agrees.0 c.args.unit.now c.make_defines.new.cache.toks c.make_defines.new.cache.table c.walk_file.new.cache.table c.in-Ok.defines file.0 c.args.p.now c.walk_file.new.p file.1
    c.in-Ok-walk_file.ensures.reads.grown (c.requires.start c.make_defines.new.cache.table) c.requires.nothing place
    (at-file (source_at c.make_defines.new.cache.table c.in-Ok.defines) file.0
    (λ f. put_after c.args.p.now.text (file_items (unit_context agrees.0 c.args.unit.now c.make_defines.new.cache.toks) 199 f (state_in c.make_defines.new.cache.table c.args.p.now))
    ≡ Ok (state_in c.walk_file.new.cache.table c.walk_file.new.p, c.walk_file.new.p.text)) file.1 (c.in-Ok-walk_file.ensures.answer agrees.0 agrees.1))

pub returns-in-Ok-walk_file-clause-reads : goal.returns-in-Ok-walk_file-clause-reads
returns-in-Ok-walk_file-clause-reads g c =
    reads-trans (g.F.Files.told c.args.files.now).held (g.F.Files.told c.args.files.now).held c.args.cache.now c.make_defines.new.cache c.walk_file.new.cache refl
    (reads-widened (g.F.Files.told c.args.files.now).held c.args.cache.now c.make_defines.new.cache c.in-Ok.ensures.keeps.widens c.in-Ok.ensures.keeps.counted) c.in-Ok-walk_file.ensures.reads

pub returns-in-Err-walk_file-clause-reads : goal.returns-in-Err-walk_file-clause-reads
returns-in-Err-walk_file-clause-reads g c =
    reads-trans (g.F.Files.told c.args.files.now).held (g.F.Files.told c.args.files.now).held c.args.cache.now c.make_defines.new.cache c.walk_file.new.cache refl
    (reads-widened (g.F.Files.told c.args.files.now).held c.args.cache.now c.make_defines.new.cache c.in-Ok.ensures.keeps.widens c.in-Ok.ensures.keeps.counted) c.in-Err-walk_file.ensures.reads

pub returns-in-Err-clause-answer : goal.returns-in-Err-clause-answer
returns-in-Err-clause-answer g c = λ none source found.
    outer-refused c.args.p.now.text c.in-Err.fault (defines_opening c.args.number c.args.unit.now c.args.cache.now.table) c.make_defines.new.cache.table
    (state_in (with_defines c.args.number c.args.unit.now c.args.cache.now.table) c.args.p.now) (file_items (unit_context source c.args.unit.now c.args.cache.now.toks) 199)
    (c.in-Err.ensures.answer none)

pub returns-in-Err-clause-reads : goal.returns-in-Err-clause-reads
returns-in-Err-clause-reads g c =
    reads-widened (g.F.Files.told c.args.files.now).held c.args.cache.now c.make_defines.new.cache c.in-Err.ensures.keeps.widens c.in-Err.ensures.keeps.counted
