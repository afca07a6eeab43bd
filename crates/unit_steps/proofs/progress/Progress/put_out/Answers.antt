use Rattle.std.proofs.Common.{refl, arith}
use Rattle.unit_steps.specs.SourceTexts.{source_in}
use Rattle.unit_steps.specs.Moments.{state_in}
use Rattle.unit_steps.proofs.GoingLemmas.{put-done}
use Rattle.unit_steps.proofs.progress.Progress.put_out.Goals as goal

pub returns-clause-answer : goal.returns-clause-answer
returns-clause-answer c = λ ctx table limit.
    put-done ctx (source_in c.args.file.now) c.args.out.items (state_in table c.args.self.now) c.args.self.now.text c.put.new.self c.args.self.now.most limit refl
    (omega (arith, c.if-len-room.false, c.len.ensures, c.before-2.ensures)) c.requires.able.few c.in_ok-put.ensures
