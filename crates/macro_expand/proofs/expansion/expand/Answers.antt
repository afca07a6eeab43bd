use Rattle.std.proofs.Common.{refl}
use Rattle.macro_body.specs.Live.{table_of}
use Rattle.macro_body.specs.Hides.{unhidden}
use Rattle.macro_expand.proofs.ListSound.{run_sound}
use Rattle.macro_expand.proofs.PlainLemmas.{run-goes, run-few}
use Rattle.macro_expand.proofs.expansion.expand.Goals as goal

pub whole_run-requires-clause-sound : goal.whole_run-requires-clause-sound
whole_run-requires-clause-sound c = run_sound c.args.run.now (unhidden c.args.run.now) c.new-rest.result c.new-rest.ensures refl c.requires.sound

pub returns-clause-answer : goal.returns-clause-answer
returns-clause-answer c =
    run-goes _ c.whole_run.result (table_of c.args.macros.now) c.args.path.now c.args.run.now c.new-rest.result c.args.work.now c.args.notes.now c.new-rest.ensures c.whole_run.ensures.answer

pub returns-clause-few : goal.returns-clause-few
returns-clause-few c = run-few c.whole_run.result _ c.args.run.now c.new-rest.result c.args.work.now.left c.whole_run.new.work.left c.new-rest.ensures c.whole_run.ensures.few
