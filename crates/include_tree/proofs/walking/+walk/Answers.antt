use Rattle.std.proofs.Common.{◌<◌, None, Ok, Err, is_some, refl, sym, ◌∙◌, ap, arith}
use Rattle.std.specs.Prelude.{IsSome}
use Rattle.cs_base.specs.Outside.{FilesTold}
use Rattle.source_files.specs.Answers.{fault_of}
use Rattle.unit_steps.specs.declared.progress.Progress.{Progress}
use Rattle.unit_steps.specs.Moments.{state_in}
use Rattle.source_files.specs.Sources.{source_at}
use Rattle.source_files.proofs.TableLemmas.{earlier_found, reads-refl, reads-trans}
use Rattle.include_tree.specs.GivenFiles.{unit_context}
use Rattle.include_tree.specs.Walking.{inner_in}
use Rattle.include_tree.proofs.StayingLemmas.{source-same, source-number}
use Rattle.include_tree.proofs.WalksLemmas.{item-told, item-included, line-included, include-fault, include-open, enter-done, enter-fault, once-passed, once-read, walk-starts, walk-goes, walk-faulted, walk-ends}
use Rattle.include_tree.proofs.walking.+walk.Goals as goal

-- ---- an item

pub walk_item-returns-in-Ok-None-clause-answer : goal.walk_item-returns-in-Ok-None-clause-answer
walk_item-returns-in-Ok-None-clause-answer g t c =
    λ source found.
    item-told source (source_at c.args.cache.now.table c.args.number) c.args.unit.now c.args.cache.now.toks c.args.p.now.most c.args.room c.args.k
    c.args.sections.now c.next_item.new.sections (state_in c.args.cache.now.table c.args.p.now) (state_in c.args.cache.now.table c.next_item.new.p) c.args.p.now.text
    c.next_item.new.p.text (Ok None) c.standard.result c.requires.ready.limited c.standard.ensures.answer (rw c.in-Ok-None.field-0-is at c.in-Ok-None.ensures.answer)

pub walk_item-returns-in-Err-clause-answer : goal.walk_item-returns-in-Err-clause-answer
walk_item-returns-in-Err-clause-answer g t c =
    λ source found.
    item-told source (source_at c.args.cache.now.table c.args.number) c.args.unit.now c.args.cache.now.toks c.args.p.now.most c.args.room c.args.k
    c.args.sections.now c.next_item.new.sections (state_in c.args.cache.now.table c.args.p.now) (state_in c.args.cache.now.table c.next_item.new.p) c.args.p.now.text
    c.next_item.new.p.text (Err c.in-Err.fault) c.standard.result c.requires.ready.limited c.standard.ensures.answer c.in-Err.ensures.answer

pub walk_item-returns-in-Ok-Some-clause-answer : goal.walk_item-returns-in-Ok-Some-clause-answer
walk_item-returns-in-Ok-Some-clause-answer g t c =
    λ source found.
    item-included source (source_at c.args.cache.now.table c.args.number) c.args.unit.now c.args.cache.now.toks c.args.p.now.most c.args.room c.args.k
    c.args.sections.now c.next_item.new.sections c.walk_line.new.sections (state_in c.args.cache.now.table c.args.p.now) (state_in c.args.cache.now.table c.next_item.new.p)
    (state_in c.walk_line.new.cache.table c.walk_line.new.p) c.args.p.now.text c.next_item.new.p.text c.walk_line.new.p.text c.in-Ok-Some.line c.walk_line.result
    c.standard.result c.requires.ready.limited c.standard.ensures.answer (rw c.in-Ok-Some.field-0-is at c.in-Ok-Some.ensures.answer) (c.walk_line.ensures.answer source found)

-- ---- a line for which files are asked

pub walk_line-returns-in-Include-clause-answer : goal.walk_line-returns-in-Include-clause-answer
walk_line-returns-in-Include-clause-answer g t c =
    λ source found.
    let ctx = unit_context source c.args.unit.now c.args.cache.now.toks in
    rw c.in-Include.is
    (line-included ctx (inner_in ctx c.args.room) (source_at c.args.cache.now.table c.args.number) c.in-Include.line c.args.sections.now (state_in c.args.cache.now.table c.args.p.now)
    (state_in c.include_file.new.cache.table c.include_file.new.p) c.args.p.now.text c.include_file.new.p.text c.include_file.result (c.include_file.ensures.answer source found))

pub walk_line-returns-in-Condition-clause-answer : goal.walk_line-returns-in-Condition-clause-answer
walk_line-returns-in-Condition-clause-answer g t c =
    λ source found. rw c.in-Condition.is (c.ask_section.ensures.answer source found)

-- ---- an include line

pub include_file-returns-in-Err-clause-answer : goal.include_file-returns-in-Err-clause-answer
include_file-returns-in-Err-clause-answer g t c =
    let some : 0 < c.args.room = omega arith in
    λ source found.
    include-fault source (source_at c.args.cache.now.table c.args.number) c.args.unit.now c.args.cache.now.toks c.args.room c.args.at c.args.next c.args.header.now
    (state_in c.args.cache.now.table c.args.p.now) c.args.p.now.text c.in-Err.fault c.open_header.new.cache.table some (c.in-Err.ensures.answer source found)

pub include_file-behind_found-requires-clause-kept : goal.include_file-behind_found-requires-clause-kept
include_file-behind_found-requires-clause-kept g t c =
    ap is_some (source-same c.args.cache.now.table c.open_header.new.cache.table c.args.number c.in-Ok.ensures.reads.grown c.requires.kept) ∙ c.requires.kept

pub include_file-returns-in_ok-behind-in-Ok-clause-answer : goal.include_file-returns-in_ok-behind-in-Ok-clause-answer
include_file-returns-in_ok-behind-in-Ok-clause-answer g t c =
    let some : 0 < c.args.room = omega arith in
    let same = source-same c.args.cache.now.table c.open_header.new.cache.table c.args.number c.in-Ok.ensures.reads.grown c.requires.kept in
    λ source found.
    include-open source (source_at c.args.cache.now.table c.args.number) (source_at c.open_header.new.cache.table c.args.number) c.args.unit.now c.args.cache.now.toks
    c.open_header.new.cache.toks c.args.room c.args.at c.args.next c.args.header.now c.in_ok-behind-in-Ok.behind (state_in c.args.cache.now.table c.args.p.now) (state_in c.enter_file.new.cache.table c.enter_file.new.p)
    c.args.p.now.text c.enter_file.new.p.text c.open_header.new.cache.table c.in-Ok.inner c.enter_file.result some c.in-Ok.ensures.reads.counted same
    (c.in-Ok.ensures.answer source (earlier_found source c.open_header.new.cache.table c.enter_file.new.cache.table c.enter_file.ensures.reads.grown found)) c.in_ok-behind-in-Ok.ensures
    (c.enter_file.ensures.answer source found)

-- ---- a file that is read once

pub read_file-returns-then-is_read_once-clause-answer : goal.read_file-returns-then-is_read_once-clause-answer
read_file-returns-then-is_read_once-clause-answer g t c =
    let table = c.args.cache.now.table in
    λ source found.
    once-passed source c.args.unit.now c.args.cache.now.toks c.args.room c.args.number c.args.at (state_in table c.args.p.now) (state_in table c.pass.new.self)
    c.args.p.now.text c.pass.new.self.text (source_at table c.args.number) (source-number table c.args.number)
    (sym (c.is_read_once.ensures table) ∙ c.if-is_read_once.true)
    (ap (λ (p : Progress). state_in table p) c.in_ok-pass.ensures.noted) (ap (λ (p : Progress). p.text) c.in_ok-pass.ensures.noted)

pub read_file-returns-clause-answer : goal.read_file-returns-clause-answer
read_file-returns-clause-answer g t c =
    let table = c.args.cache.now.table in
    λ source found.
    once-read source c.args.unit.now c.args.cache.now.toks c.args.room c.args.number c.args.at (state_in table c.args.p.now) (state_in c.walk_file.new.cache.table c.walk_file.new.p)
    c.args.p.now.text c.walk_file.new.p.text (source_at table c.args.number) c.walk_file.result (source-number table c.args.number)
    (sym (c.is_read_once.ensures table) ∙ c.if-is_read_once.false) (c.walk_file.ensures.answer source found)

-- ---- a file that is entered and left

pub enter_file-returns-clause-answer : goal.enter_file-returns-clause-answer
enter_file-returns-clause-answer g t c =
    λ source found.
    enter-done c.args.unit.now c.args.cache.now.toks c.args.room c.args.cache.now.table c.args.number c.args.at c.args.behind c.args.p.now c.enter.new.self c.in_ok-enter.ensures.noted
    source c.read_file.new.cache.table c.read_file.new.p c.leave.new.self c.in_ok-leave.ensures.noted (c.in-Ok.ensures.answer source found)

pub enter_file-returns-in-Err-clause-answer : goal.enter_file-returns-in-Err-clause-answer
enter_file-returns-in-Err-clause-answer g t c =
    λ source found.
    enter-fault c.args.unit.now c.args.cache.now.toks c.args.room c.args.cache.now.table c.args.number c.args.at c.args.behind c.args.p.now c.enter.new.self c.in_ok-enter.ensures.noted
    source (fault_of c.in-Err.fault) (c.in-Err.ensures.answer source found)

-- ---- the items of a file

pub walk_file-loop-k-init : goal.walk_file-loop-k-init
walk_file-loop-k-init g t c =
    record {
      told = refl;
      answer = λ source found. walk-starts source (source_at c.args.cache.now.table c.args.number) c.args.unit.now c.args.cache.now.toks c.args.room
          (state_in c.args.cache.now.table c.args.p.now) c.args.p.now.text c.new-sections.result c.new-sections.ensures;
      same = refl;
      able = c.requires.ready.able;
      most = refl;
      cache = reads-refl (g.F.Files.told c.args.files.now).held c.args.cache.now;
    }

pub walk_file-loop-k-preserved : goal.walk_file-loop-k-preserved
walk_file-loop-k-preserved g t c =
    let i = c.loop-k.invariant in
    let there : IsSome (source_at c.loop-k.cache.table c.args.number) = ap is_some i.same ∙ c.requires.kept in
    record {
      told = c.in-Ok.ensures.faults.told ∙ i.told;
      answer = λ source found.
          walk-goes source (source_at c.args.cache.now.table c.args.number) c.args.unit.now c.args.cache.now.toks c.args.room
          (state_in c.args.cache.now.table c.args.p.now) c.args.p.now.text (source_at c.loop-k.cache.table c.args.number) c.loop-k.cache.toks
          c.in_ok-count.count c.loop-k.k c.loop-k.sections (state_in c.loop-k.cache.table c.loop-k.p) c.loop-k.p.text i.same i.cache.counted c.in_ok-count.ensures c.loop-k-test.true
          (i.answer source (earlier_found source c.loop-k.cache.table c.walk_item.new.cache.table c.in-Ok.ensures.reads.grown found))
          c.walk_item.new.sections (state_in c.walk_item.new.cache.table c.walk_item.new.p) c.walk_item.new.p.text (c.in-Ok.ensures.answer source found);
      same = source-same c.loop-k.cache.table c.walk_item.new.cache.table c.args.number c.in-Ok.ensures.reads.grown there ∙ i.same;
      able = c.in-Ok.ensures.goes_on.able;
      most = c.in-Ok.ensures.goes_on.most ∙ i.most;
      cache = reads-trans (g.F.Files.told c.args.files.now).held (g.F.Files.told c.loop-k.files).held c.args.cache.now c.loop-k.cache c.walk_item.new.cache (ap (λ (o : FilesTold). o.held) i.told) i.cache c.in-Ok.ensures.reads;
    }

pub walk_file-returns-in-Err-clause-answer : goal.walk_file-returns-in-Err-clause-answer
walk_file-returns-in-Err-clause-answer g t c =
    let i = c.loop-k.invariant in
    λ source found.
    walk-faulted source (source_at c.args.cache.now.table c.args.number) c.args.unit.now c.args.cache.now.toks c.args.room
    (state_in c.args.cache.now.table c.args.p.now) c.args.p.now.text (source_at c.loop-k.cache.table c.args.number) c.loop-k.cache.toks
    c.in_ok-count.count c.loop-k.k c.loop-k.sections (state_in c.loop-k.cache.table c.loop-k.p) c.loop-k.p.text i.same i.cache.counted c.in_ok-count.ensures c.loop-k-test.true
    (i.answer source (earlier_found source c.loop-k.cache.table c.walk_item.new.cache.table c.in-Err.ensures.reads.grown found))
    (fault_of c.in-Err.fault) (c.in-Err.ensures.answer source found)

pub walk_file-returns-clause-answer : goal.walk_file-returns-clause-answer
walk_file-returns-clause-answer g t c =
    let i = c.loop-k.invariant in
    λ source found.
    walk-ends source (source_at c.args.cache.now.table c.args.number) c.args.unit.now c.args.cache.now.toks c.args.room
    (state_in c.args.cache.now.table c.args.p.now) c.args.p.now.text (source_at c.loop-k.cache.table c.args.number) c.in_ok-count.count c.loop-k.k c.loop-k.sections
    (state_in c.loop-k.cache.table c.loop-k.p) c.loop-k.p.text c.file_end.result i.same c.in_ok-count.ensures c.loop-k-test.false (i.answer source found) c.file_end.ensures.answer

-- ---- the cache

pub walk_item-returns-in-Ok-None-clause-reads : goal.walk_item-returns-in-Ok-None-clause-reads
walk_item-returns-in-Ok-None-clause-reads g t c =
    reads-refl (g.F.Files.told c.args.files.now).held c.args.cache.now

pub walk_item-returns-in-Err-clause-reads : goal.walk_item-returns-in-Err-clause-reads
walk_item-returns-in-Err-clause-reads g t c =
    reads-refl (g.F.Files.told c.args.files.now).held c.args.cache.now

pub include_file-returns-then-room-eq0-clause-reads : goal.include_file-returns-then-room-eq0-clause-reads
include_file-returns-then-room-eq0-clause-reads g t c =
    reads-refl (g.F.Files.told c.args.files.now).held c.args.cache.now

pub read_file-returns-then-is_read_once-clause-reads : goal.read_file-returns-then-is_read_once-clause-reads
read_file-returns-then-is_read_once-clause-reads g t c =
    reads-refl (g.F.Files.told c.args.files.now).held c.args.cache.now

pub read_file-returns-in_err-pass-clause-reads : goal.read_file-returns-in_err-pass-clause-reads
read_file-returns-in_err-pass-clause-reads g t c =
    reads-refl (g.F.Files.told c.args.files.now).held c.args.cache.now

pub enter_file-returns-in_err-enter-clause-reads : goal.enter_file-returns-in_err-enter-clause-reads
enter_file-returns-in_err-enter-clause-reads g t c =
    reads-refl (g.F.Files.told c.args.files.now).held c.args.cache.now

pub walk_file-returns-in_err-count-clause-reads : goal.walk_file-returns-in_err-count-clause-reads
walk_file-returns-in_err-count-clause-reads g t c =
    reads-refl (g.F.Files.told c.args.files.now).held c.args.cache.now

pub include_file-returns-in_ok-behind-in-Ok-clause-reads : goal.include_file-returns-in_ok-behind-in-Ok-clause-reads
include_file-returns-in_ok-behind-in-Ok-clause-reads g t c =
    reads-trans (g.F.Files.told c.args.files.now).held (g.F.Files.told c.open_header.new.files).held c.args.cache.now c.open_header.new.cache c.enter_file.new.cache c.in-Ok.ensures.faults.held c.in-Ok.ensures.reads
    c.enter_file.ensures.reads

pub walk_file-returns-in-Err-clause-reads : goal.walk_file-returns-in-Err-clause-reads
walk_file-returns-in-Err-clause-reads g t c =
    reads-trans (g.F.Files.told c.args.files.now).held (g.F.Files.told c.loop-k.files).held c.args.cache.now c.loop-k.cache c.walk_item.new.cache (ap (λ (o : FilesTold). o.held) c.loop-k.invariant.told) c.loop-k.invariant.cache c.in-Err.ensures.reads
