use Rattle.std.proofs.Common.{◌≡◌, ℕ, ◌+◌, Bool, length, Ok, Err, sym, subst, ◌∙◌, ap}
use Rattle.std.specs.Prelude.{IfSome}
use Rattle.cs_base.specs.Units.{is_gnu}
use Rattle.source_files.specs.Files.{Table, Carried, carried}
use Rattle.source_files.specs.Tables.{AreFound, IsGrown, StaysHeld}
use Rattle.include_tree.specs.Unit.{with_defines, main_file}
use Rattle.unit_steps.specs.Keeping.{put_after}
use Rattle.unit_steps.specs.Moments.{state_in}
use Rattle.source_files.specs.Answers.{fault_of}
use Rattle.include_tree.specs.Preprocessed.{with_text, preprocessed}
use Rattle.unit_steps.specs.Texts.{UnitTextValue}
use Rattle.unit_steps.specs.Below.macro_body.Defining.{first_macros}
use Rattle.include_tree.specs.Fronts.{start_state}
use Rattle.include_tree.proofs.FrontLemmas.{fronts-later}
use Rattle.include_tree.specs.GivenFiles.{unit_context}
use Rattle.source_files.proofs.TableLemmas.{grown_refl, stays-refl, earlier_found, reads-trans}
use Rattle.include_tree.proofs.UnitLemmas.{begun-as, unit-done, unit-first_refused, unit-next_refused}
use Rattle.include_tree.proofs.unit_walk.preprocess_on.Goals as goal

pub returns-in-Err-clause-found : goal.returns-in-Err-clause-found
returns-in-Err-clause-found g c = stays-refl (g.F.Files.told c.args.files.now).held c.args.cache.now.table

pub returns-in-Err-clause-grown : goal.returns-in-Err-clause-grown
returns-in-Err-clause-grown g c = grown_refl c.args.cache.now.table

pub returns-in-Err-walk_defines-clause-answer : goal.returns-in-Err-walk_defines-clause-answer
returns-in-Err-walk_defines-clause-answer g c = λ none source found.
    unit-first_refused c.args.number c.args.unit.now c.args.cache.now (state_in (with_defines c.args.number c.args.unit.now c.args.cache.now.table) c.in-Ok.p) c.in-Ok.p.text
    (begun-as c.args.number c.args.unit.now c.args.cache.now.table c.is_gnu.result _ (c.is_gnu.ensures ∙ ap is_gnu c.standard.ensures.answer)
    (c.in-Ok.ensures.state (with_defines c.args.number c.args.unit.now c.args.cache.now.table))) c.in-Ok.ensures.text source (fault_of c.in-Err-walk_defines.fault)
    (c.in-Err-walk_defines.ensures.answer none source found)

pub returns-in-Err-walk_main-clause-answer : goal.returns-in-Err-walk_main-clause-answer
returns-in-Err-walk_main-clause-answer g c = λ none source found.
    unit-next_refused c.args.number c.args.unit.now c.args.cache.now (state_in (with_defines c.args.number c.args.unit.now c.args.cache.now.table) c.in-Ok.p) c.in-Ok.p.text
    (begun-as c.args.number c.args.unit.now c.args.cache.now.table c.is_gnu.result _ (c.is_gnu.ensures ∙ ap is_gnu c.standard.ensures.answer)
    (c.in-Ok.ensures.state (with_defines c.args.number c.args.unit.now c.args.cache.now.table))) c.in-Ok.ensures.text source (fault_of c.in-Err-walk_main.fault)
    (state_in c.walk_defines.new.cache.table c.walk_defines.new.p) c.walk_defines.new.p.text
    (c.in-Ok-walk_defines.ensures.answer none source (earlier_found source c.walk_defines.new.cache.table c.walk_main.new.cache.table c.in-Err-walk_main.ensures.reads.grown found))
    (subst (λ (n : ℕ). IfSome (fault_of c.in-Err-walk_main.fault) (λ f. put_after c.walk_defines.new.p.text (main_file (unit_context source c.args.unit.now n) c.args.unit.now.path (state_in c.walk_defines.new.cache.table c.walk_defines.new.p)) ≡ Err f))
    c.in-Ok-walk_defines.ensures.reads.counted (c.in-Err-walk_main.ensures.answer source found))

pub returns-in-Err-walk_main-clause-found : goal.returns-in-Err-walk_main-clause-found
returns-in-Err-walk_main-clause-found g c =
    (reads-trans (g.F.Files.told c.args.files.now).held (g.F.Files.told c.walk_defines.new.files).held c.args.cache.now c.walk_defines.new.cache c.walk_main.new.cache
    c.in-Ok-walk_defines.ensures.faults.held c.in-Ok-walk_defines.ensures.reads c.in-Err-walk_main.ensures.reads).found

pub returns-in-Err-walk_main-clause-grown : goal.returns-in-Err-walk_main-clause-grown
returns-in-Err-walk_main-clause-grown g c =
    (reads-trans (g.F.Files.told c.args.files.now).held (g.F.Files.told c.walk_defines.new.files).held c.args.cache.now c.walk_defines.new.cache c.walk_main.new.cache
    c.in-Ok-walk_defines.ensures.faults.held c.in-Ok-walk_defines.ensures.reads c.in-Err-walk_main.ensures.reads).grown

pub returns-in-Err-walk_main-clause-counted : goal.returns-in-Err-walk_main-clause-counted
returns-in-Err-walk_main-clause-counted g c = c.in-Err-walk_main.ensures.reads.counted ∙ c.in-Ok-walk_defines.ensures.reads.counted

pub returns-clause-found : goal.returns-clause-found
returns-clause-found g c =
    subst (λ (k : Carried). StaysHeld (g.F.Files.told c.args.files.now).held c.args.cache.now.table k.table) (sym c.count.ensures)
    (reads-trans (g.F.Files.told c.args.files.now).held (g.F.Files.told c.walk_defines.new.files).held c.args.cache.now c.walk_defines.new.cache c.walk_main.new.cache
    c.in-Ok-walk_defines.ensures.faults.held c.in-Ok-walk_defines.ensures.reads c.in-Ok-walk_main.ensures.reads).found

pub returns-clause-grown : goal.returns-clause-grown
returns-clause-grown g c =
    subst (λ (k : Carried). IsGrown c.args.cache.now.table k.table) (sym c.count.ensures)
    (reads-trans (g.F.Files.told c.args.files.now).held (g.F.Files.told c.walk_defines.new.files).held c.args.cache.now c.walk_defines.new.cache c.walk_main.new.cache
    c.in-Ok-walk_defines.ensures.faults.held c.in-Ok-walk_defines.ensures.reads c.in-Ok-walk_main.ensures.reads).grown

pub returns-clause-answer : goal.returns-clause-answer
returns-clause-answer g c = λ none source found.
    let walked = subst (λ (t : Table). AreFound source t) (ap (λ (k : Carried). k.table) c.count.ensures) found in
    subst (λ (t : UnitTextValue). preprocessed source c.args.number c.args.unit.now c.args.cache.now ≡ Ok (with_text c.count.new.self t))
    (sym c.settled.ensures)
    (unit-done c.args.number c.args.unit.now c.args.cache.now (state_in (with_defines c.args.number c.args.unit.now c.args.cache.now.table) c.in-Ok.p) c.in-Ok.p.text
    (begun-as c.args.number c.args.unit.now c.args.cache.now.table c.is_gnu.result _ (c.is_gnu.ensures ∙ ap is_gnu c.standard.ensures.answer)
    (c.in-Ok.ensures.state (with_defines c.args.number c.args.unit.now c.args.cache.now.table))) c.in-Ok.ensures.text source
    (state_in c.walk_defines.new.cache.table c.walk_defines.new.p) (state_in c.walk_main.new.cache.table c.walk_main.new.p) c.walk_defines.new.p.text c.walk_main.new.p.text c.count.new.self
    (c.in-Ok-walk_defines.ensures.answer none source (earlier_found source c.walk_defines.new.cache.table c.walk_main.new.cache.table c.in-Ok-walk_main.ensures.reads.grown walked))
    (subst (λ (n : ℕ). put_after c.walk_defines.new.p.text (main_file (unit_context source c.args.unit.now n) c.args.unit.now.path (state_in c.walk_defines.new.cache.table c.walk_defines.new.p)) ≡ Ok (state_in c.walk_main.new.cache.table c.walk_main.new.p, c.walk_main.new.p.text))
    c.in-Ok-walk_defines.ensures.reads.counted (c.in-Ok-walk_main.ensures.answer source walked))
    (c.count.ensures ∙ ap (λ (n : ℕ). carried c.walk_main.new.cache.table (c.walk_main.new.cache.toks + n)) c.before-2.ensures
    ∙ ap (λ (n : ℕ). carried c.walk_main.new.cache.table (n + length c.walk_main.new.p.text.toks)) (c.in-Ok-walk_main.ensures.reads.counted ∙ c.in-Ok-walk_defines.ensures.reads.counted)))

pub walk_defines-requires-clause-start : goal.walk_defines-requires-clause-start
walk_defines-requires-clause-start g c = λ table.
    c.in-Ok.ensures.state table
    ∙ ap (λ (b : Bool). record (start_state c.args.unit.now.standard) { table = table; macros = first_macros b }) (c.is_gnu.ensures ∙ ap is_gnu c.standard.ensures.answer)

pub walk_main-requires-clause-fronts : goal.walk_main-requires-clause-fronts
walk_main-requires-clause-fronts g c = fronts-later c.args.cache.now.table c.walk_defines.new.cache.table c.args.fronts.now.all.items c.in-Ok-walk_defines.ensures.reads.grown c.requires.fronts
