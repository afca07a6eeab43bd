use Rattle.std.proofs.Common.{map, refl, ◌∙◌, ap, is_some}
use Rattle.std.specs.Prelude.{IsSome}
use Rattle.cs_base.specs.Outside.{FilesTold}
use Rattle.source_files.specs.Answers.{fault_of}
use Rattle.source_files.specs.Sources.{source_at}
use Rattle.source_files.proofs.TableLemmas.{earlier_found, reads-refl, reads-trans}
use Rattle.unit_steps.specs.Moments.{state_in}
use Rattle.unit_steps.specs.Questions.{question_of}
use Rattle.include_tree.proofs.StayingLemmas.{source-same}
use Rattle.include_tree.proofs.AskingLemmas.{looked-starts, looked-more, looked-faulted, looked-ends, pieces-sound}
use Rattle.include_tree.proofs.asking.looked.Goals as goal

pub pieces-init : goal.pieces-init
pieces-init g c = record {
  told = refl;
  answer = λ source found. looked-starts source (source_at c.args.cache.now.table c.args.number) c.args.unit.now c.args.cache.now.toks c.args.at (map question_of c.args.questions.now)
      (state_in c.args.cache.now.table c.args.p.now) c.args.p.now.text c.new-out.result.items c.new-out.ensures.items;
  same = refl;
  able = c.requires.able;
  most = refl;
  cache = reads-refl (g.F.Files.told c.args.files.now).held c.args.cache.now;
  sound = λ h. (rw c.new-out.ensures.items refl, h);
}

pub pieces-preserved : goal.pieces-preserved
pieces-preserved g c =
    let i = c.pieces.invariant in
    let there : IsSome (source_at c.pieces.cache.table c.args.number) = ap is_some i.same ∙ c.requires.kept in
    record {
      told = c.in-Ok.ensures.faults.told ∙ i.told;
      answer = λ source found.
          looked-more source (source_at c.args.cache.now.table c.args.number) c.args.unit.now c.args.cache.now.toks c.args.at (map question_of c.args.questions.now)
          (state_in c.args.cache.now.table c.args.p.now) c.args.p.now.text (source_at c.pieces.cache.table c.args.number) c.pieces.cache.toks (question_of c.in-Some.question.now) (map question_of c.in-Some.after.now)
          c.pieces.out.items (state_in c.pieces.cache.table c.pieces.p) c.pieces.p.text i.same i.cache.counted
          (rw c.in-Some.ensures.cases.0 at (i.answer source (earlier_found source c.pieces.cache.table c.look.new.cache.table c.in-Ok.ensures.reads.grown found)))
          c.put.new.out.items c.in-Ok.tok (state_in c.look.new.cache.table c.look.new.p) c.look.new.p.text (c.in-Ok.ensures.answer source found) c.in_ok-put-in-Ok.ensures;
      same = source-same c.pieces.cache.table c.look.new.cache.table c.args.number c.in-Ok.ensures.reads.grown there ∙ i.same;
      able = c.in-Ok.ensures.goes_on.able;
      most = c.in-Ok.ensures.goes_on.most ∙ i.most;
      cache = reads-trans (g.F.Files.told c.args.files.now).held (g.F.Files.told c.pieces.files).held c.args.cache.now c.pieces.cache c.look.new.cache (ap (λ (o : FilesTold). o.held) i.told) i.cache c.in-Ok.ensures.reads;
      sound = λ h. pieces-sound c.pieces.out.items c.put.new.out.items c.in-Ok.tok (question_of c.in-Some.question.now) (map question_of c.in-Some.after.now)
          c.in_ok-put-in-Ok.ensures (i.sound h).0 (rw c.in-Some.ensures.cases.0 at (i.sound h).1) c.in-Ok.ensures.sound;
    }

pub returns-in-Err-clause-answer : goal.returns-in-Err-clause-answer
returns-in-Err-clause-answer g c =
    let i = c.pieces.invariant in
    λ source found.
    looked-faulted source (source_at c.args.cache.now.table c.args.number) c.args.unit.now c.args.cache.now.toks c.args.at (map question_of c.args.questions.now)
    (state_in c.args.cache.now.table c.args.p.now) c.args.p.now.text (source_at c.pieces.cache.table c.args.number) c.pieces.cache.toks (question_of c.in-Some.question.now) (map question_of c.in-Some.after.now)
    c.pieces.out.items (state_in c.pieces.cache.table c.pieces.p) c.pieces.p.text i.same i.cache.counted
    (rw c.in-Some.ensures.cases.0 at (i.answer source (earlier_found source c.pieces.cache.table c.look.new.cache.table c.in-Err.ensures.reads.grown found)))
    (fault_of c.in-Err.fault) (c.in-Err.ensures.answer source found)

pub returns-clause-answer : goal.returns-clause-answer
returns-clause-answer g c =
    λ source found.
    looked-ends source (source_at c.args.cache.now.table c.args.number) c.args.unit.now c.args.cache.now.toks c.args.at (map question_of c.args.questions.now)
    (state_in c.args.cache.now.table c.args.p.now) c.args.p.now.text c.pieces.out.items c.pieces.rest.now (state_in c.pieces.cache.table c.pieces.p) c.pieces.p.text c.in_default.ensures.cases
    (c.pieces.invariant.answer source found)

pub returns-in-Err-clause-reads : goal.returns-in-Err-clause-reads
returns-in-Err-clause-reads g c =
    reads-trans (g.F.Files.told c.args.files.now).held (g.F.Files.told c.pieces.files).held c.args.cache.now c.pieces.cache c.look.new.cache (ap (λ (o : FilesTold). o.held) c.pieces.invariant.told) c.pieces.invariant.cache c.in-Err.ensures.reads

pub returns-in_err-put-in-Ok-clause-reads : goal.returns-in_err-put-in-Ok-clause-reads
returns-in_err-put-in-Ok-clause-reads g c =
    reads-trans (g.F.Files.told c.args.files.now).held (g.F.Files.told c.pieces.files).held c.args.cache.now c.pieces.cache c.look.new.cache (ap (λ (o : FilesTold). o.held) c.pieces.invariant.told) c.pieces.invariant.cache c.in-Ok.ensures.reads
