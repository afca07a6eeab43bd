use Rattle.std.proofs.Common.{◌≡◌, Ok, Err, ap, is_some}
use Rattle.std.specs.Prelude.{IfSome}
use Rattle.source_files.specs.Answers.{fault_of}
use Rattle.source_files.specs.Sources.{source_at}
use Rattle.source_files.proofs.AgreeLemmas.{some_source}
use Rattle.source_files.proofs.TableLemmas.{reads-refl}
use Rattle.unit_steps.specs.Keeping.{put_after}
use Rattle.unit_steps.specs.Moments.{state_in}
use Rattle.include_tree.specs.GivenFiles.{unit_context}
use Rattle.include_tree.specs.Walk.{file_items}
use Rattle.include_tree.proofs.StayingLemmas.{some_is, source-grown}
use Rattle.include_tree.proofs.LeadWalks.{lead-there, at-file, walked-within, line-done, line-fault, line-piece}
use Rattle.include_tree.proofs.main_walk.walk_lead.Goals as goal

pub walk_file-requires-clause-kept : goal.walk_file-requires-clause-kept
walk_file-requires-clause-kept g c =
    let there = lead-there c.args.unit.now c.args.cache.now.table c.args.main c.args.k c.args.lead c.args.p.now c.requires.kept c.requires.lead c.requires.place in
    ap is_some there.1

pub piece-requires : goal.piece-requires
piece-requires g c =
    let there = lead-there c.args.unit.now c.args.cache.now.table c.args.main c.args.k c.args.lead c.args.p.now c.requires.kept c.requires.lead c.requires.place in
    let agrees = some_source c.walk_file.new.cache.table c.numbers-numbers.ensures.once in
    let ctx = unit_context agrees.0 c.args.unit.now c.args.cache.now.toks in
    let before = state_in c.args.cache.now.table (record c.enter.new.self { behind = c.args.lead.behind }) in
    rw (c.mark-from.ensures, c.mark.ensures)
    (record {
      within = walked-within there.0 c.enter.new.self.text (file_items ctx 198 there.0 before) (state_in c.walk_file.new.cache.table c.walk_file.new.p) c.walk_file.new.p.text
          (at-file (source_at c.args.cache.now.table c.args.lead.number) there.0 (λ f. put_after c.enter.new.self.text (file_items ctx 198 f before) ≡ Ok (state_in c.walk_file.new.cache.table c.walk_file.new.p, c.walk_file.new.p.text)) there.1
          (c.in-Ok.ensures.answer agrees.0 agrees.1));
    })

pub returns-clause-answer : goal.returns-clause-answer
returns-clause-answer g c =
    let there = lead-there c.args.unit.now c.args.cache.now.table c.args.main c.args.k c.args.lead c.args.p.now c.requires.kept c.requires.lead c.requires.place in
    let before = state_in c.args.cache.now.table (record c.enter.new.self { behind = c.args.lead.behind }) in
    λ source found.
    line-done c.args.unit.now c.args.cache.now.toks c.args.cache.now.table c.args.main c.args.k c.args.lead c.args.p.now c.reach.new.self c.enter.new.self there.0 c.requires.lead there.1
    c.requires.place (c.requires.other c.args.cache.now.table) c.in_ok-reach.ensures.noted c.in_ok-enter.ensures.noted source c.walk_file.new.cache.table c.walk_file.new.p c.leave.new.self c.in_ok-leave.ensures.noted
    (at-file (source_at c.args.cache.now.table c.args.lead.number) there.0 (λ f. put_after c.enter.new.self.text (file_items (unit_context source c.args.unit.now c.args.cache.now.toks) 198 f before) ≡ Ok (state_in c.walk_file.new.cache.table c.walk_file.new.p, c.walk_file.new.p.text)) there.1
    (c.in-Ok.ensures.answer source found))

pub returns-in-Err-clause-answer : goal.returns-in-Err-clause-answer
returns-in-Err-clause-answer g c =
    let there = lead-there c.args.unit.now c.args.cache.now.table c.args.main c.args.k c.args.lead c.args.p.now c.requires.kept c.requires.lead c.requires.place in
    let before = state_in c.args.cache.now.table (record c.enter.new.self { behind = c.args.lead.behind }) in
    λ source found.
    line-fault c.args.unit.now c.args.cache.now.toks c.args.cache.now.table c.args.main c.args.k c.args.lead c.args.p.now c.reach.new.self c.enter.new.self there.0 c.requires.lead there.1
    c.requires.place (c.requires.other c.args.cache.now.table) c.in_ok-reach.ensures.noted c.in_ok-enter.ensures.noted source (fault_of c.in-Err.fault)
    (at-file (source_at c.args.cache.now.table c.args.lead.number) there.0
    (λ f. IfSome (fault_of c.in-Err.fault) (λ e. put_after c.enter.new.self.text (file_items (unit_context source c.args.unit.now c.args.cache.now.toks) 198 f before) ≡ Err e)) there.1
    (c.in-Err.ensures.answer source found))

pub returns-clause-piece : goal.returns-clause-piece
returns-clause-piece g c =
    let there = lead-there c.args.unit.now c.args.cache.now.table c.args.main c.args.k c.args.lead c.args.p.now c.requires.kept c.requires.lead c.requires.place in
    let main = some_is (source_at c.args.cache.now.table c.args.main) c.requires.kept in
    let agrees = some_source c.walk_file.new.cache.table c.numbers-numbers.ensures.once in
    let ctx = unit_context agrees.0 c.args.unit.now c.args.cache.now.toks in
    let before = state_in c.args.cache.now.table (record c.enter.new.self { behind = c.args.lead.behind }) in
    let has = line-piece c.args.unit.now c.args.cache.now.toks c.args.cache.now.table c.args.main c.args.k c.args.lead c.args.p.now c.reach.new.self c.enter.new.self there.0 c.requires.lead there.1
    c.requires.place (c.requires.other c.args.cache.now.table) c.in_ok-reach.ensures.noted c.in_ok-enter.ensures.noted agrees.0 main.0 c.walk_file.new.cache.table c.walk_file.new.p c.leave.new.self main.1 c.in_ok-leave.ensures.noted
    (at-file (source_at c.args.cache.now.table c.args.lead.number) there.0 (λ f. put_after c.enter.new.self.text (file_items ctx 198 f before) ≡ Ok (state_in c.walk_file.new.cache.table c.walk_file.new.p, c.walk_file.new.p.text)) there.1
    (c.in-Ok.ensures.answer agrees.0 agrees.1))
    (source-grown c.args.cache.now.table c.walk_file.new.cache.table c.args.lead.number there.0 c.in-Ok.ensures.reads.grown there.1) in
    rw (c.in_ok-piece.ensures, c.mark-from.ensures, c.mark.ensures) has

pub returns-in_err-reach-clause-reads : goal.returns-in_err-reach-clause-reads
returns-in_err-reach-clause-reads g c = reads-refl (g.F.Files.told c.args.files.now).held c.args.cache.now

pub returns-in_err-enter-clause-reads : goal.returns-in_err-enter-clause-reads
returns-in_err-enter-clause-reads g c = reads-refl (g.F.Files.told c.args.files.now).held c.args.cache.now
