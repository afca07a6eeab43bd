use Rattle.std.proofs.Common.{ap}
use Rattle.source_files.specs.Sources.{source_at}
use Rattle.source_files.proofs.TableLemmas.{reads-refl}
use Rattle.unit_steps.specs.Moments.{state_in}
use Rattle.unit_steps.specs.Questions.{question_of}
use Rattle.include_tree.specs.GivenFiles.{unit_context}
use Rattle.include_tree.proofs.AskingLemmas.{unasked-told}
use Rattle.include_tree.proofs.asking.look.Goals as goal

pub returns-in_err-same-in-Unasked-clause-reads : goal.returns-in_err-same-in-Unasked-clause-reads
returns-in_err-same-in-Unasked-clause-reads g c = reads-refl (g.F.Files.told c.args.files.now).held c.args.cache.now

pub returns-in_ok-same-in-Unasked-clause-answer : goal.returns-in_ok-same-in-Unasked-clause-answer
returns-in_ok-same-in-Unasked-clause-answer g c = λ source found.
    unasked-told (unit_context source c.args.unit.now c.args.cache.now.toks) c.args.at (question_of c.args.question.now) (state_in c.args.cache.now.table c.args.p.now) c.args.p.now.text
    (source_at c.args.cache.now.table c.args.number) c.in-Unasked.tok c.in_ok-same-in-Unasked.same (ap question_of c.in-Unasked.is) c.in_ok-same-in-Unasked.ensures

pub returns-in_ok-same-in-Unasked-clause-reads : goal.returns-in_ok-same-in-Unasked-clause-reads
returns-in_ok-same-in-Unasked-clause-reads g c = reads-refl (g.F.Files.told c.args.files.now).held c.args.cache.now

pub returns-in-Looks-clause-answer : goal.returns-in-Looks-clause-answer
returns-in-Looks-clause-answer g c = λ source found. rw c.in-Looks.is (rw c.as_slice.ensures.value at (c.look_up.ensures.answer source found))

pub returns-in-Lacks-clause-reads : goal.returns-in-Lacks-clause-reads
returns-in-Lacks-clause-reads g c = reads-refl (g.F.Files.told c.args.files.now).held c.args.cache.now
