use Rattle.std.proofs.Common.{ℕ, Option, sym, subst, ◌∙◌}
use Rattle.source_files.specs.Files.{asked}
use Rattle.include_tree.specs.Walk.{file_items}
use Rattle.unit_steps.specs.Moments.{state_in}
use Rattle.include_tree.specs.GivenFiles.{unit_context}
use Rattle.source_files.proofs.TableLemmas.{earlier_found, reads-trans}
use Rattle.include_tree.specs.Fronts.{HasBegun}
use Rattle.include_tree.proofs.FrontLemmas.{has-begun-later, fronts-later}
use Rattle.include_tree.proofs.UnitLemmas.{outer-walked, outer-refused, main_opening, unit-asked}
use Rattle.include_tree.proofs.unit_walk.walk_main.Goals as goal

pub open_main-requires : goal.open_main-requires
open_main-requires g c = record { can = unit-asked c.bytes.result.now c.args.unit.now (c.bytes.ensures ∙ c.path.ensures.answer) c.path.ensures.sound }

pub walk_own-requires-clause-begun : goal.walk_own-requires-clause-begun
walk_own-requires-clause-begun g c = λ place.
    subst (λ (b : Option ℕ). HasBegun c.args.unit.now c.open_main.new.cache.table c.args.pseudo (record (state_in c.open_main.new.cache.table c.args.p.now) { behind = b }) c.args.p.now.text) (sym place)
    (has-begun-later c.args.unit.now c.args.cache.now.table c.open_main.new.cache.table c.args.pseudo (state_in c.args.cache.now.table c.args.p.now) c.args.p.now.text c.in-Ok.ensures.reads.grown (c.requires.begun place))

pub walk_own-requires-clause-fronts : goal.walk_own-requires-clause-fronts
walk_own-requires-clause-fronts g c = fronts-later c.args.cache.now.table c.open_main.new.cache.table c.args.fronts.now.all.items c.in-Ok.ensures.reads.grown c.requires.fronts

pub returns-in-Ok-clause-reads : goal.returns-in-Ok-clause-reads
returns-in-Ok-clause-reads g c =
    reads-trans (g.F.Files.told c.args.files.now).held (g.F.Files.told c.open_main.new.files).held c.args.cache.now c.open_main.new.cache c.walk_own.new.cache c.in-Ok.ensures.faults.held
    c.in-Ok.ensures.reads c.walk_own.ensures.reads

pub returns-in-Ok-clause-answer : goal.returns-in-Ok-clause-answer
returns-in-Ok-clause-answer g c =
    let opens = rw (c.bytes.ensures ∙ c.path.ensures.answer) at c.in-Ok.ensures.answer in
    λ source found.
    outer-walked source (λ _. (state_in c.walk_own.new.cache.table c.walk_own.new.p, c.walk_own.new.p.text)) c.walk_own.result
    c.args.p.now.text c.in-Ok.main 199 (main_opening c.args.unit.now.path c.args.cache.now.table source) c.open_main.new.cache.table
    (state_in (asked source c.args.unit.now.path c.args.cache.now.table) c.args.p.now) c.args.unit.now c.args.cache.now.toks c.open_main.new.cache.toks
    c.in-Ok.ensures.reads.counted
    (opens source (earlier_found source c.open_main.new.cache.table c.walk_own.new.cache.table c.walk_own.ensures.reads.grown found)) (c.walk_own.ensures.answer source found)

pub returns-in-Err-clause-answer : goal.returns-in-Err-clause-answer
returns-in-Err-clause-answer g c =
    let opens = rw (c.bytes.ensures ∙ c.path.ensures.answer) at c.in-Err.ensures.answer in
    λ source found.
    outer-refused c.args.p.now.text c.in-Err.fault (main_opening c.args.unit.now.path c.args.cache.now.table source) c.open_main.new.cache.table
    (state_in (asked source c.args.unit.now.path c.args.cache.now.table) c.args.p.now) (file_items (unit_context source c.args.unit.now c.args.cache.now.toks) 199)
    (opens source found)
