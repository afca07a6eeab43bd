use Rattle.std.proofs.Common.{[], sym, refl, ◌∙◌}
use Rattle.macro_expand.specs.Below.macro_body.Defining.{in_gnu}
use Rattle.source_files.specs.Answers.{fault_of}
use Rattle.unit_steps.specs.Directives.{define_notes}
use Rattle.unit_steps.specs.Moments.{state_in}
use Rattle.unit_steps.specs.SourceTexts.{source_in}
use Rattle.unit_steps.proofs.DefiningLemmas.{define-line, define-refused, define-able}
use Rattle.unit_steps.proofs.progress.Progress.define.Goals as goal

pub returns-clause-goes_on : goal.returns-clause-goes_on
returns-clause-goes_on c =
    let m = in_gnu c.args.gnu c.in_ok-m.m in
    record {
      able = define-able c.args.self.now c.note_define.new.self c.define.new.self m (define_notes m (state_in [] c.args.self.now)) (c.in_ok-note_define.ensures.noted [])
          c.in_ok-define.ensures.answer (c.requires.traced c.in_ok-m.m c.in_ok-m.ensures) c.requires.able;
      most = c.in_ok-note_define.ensures.most;
    }

pub returns-clause-answer : goal.returns-clause-answer
returns-clause-answer c = λ table.
    define-line c.args.gnu table (source_in c.args.file.now) c.args.at c.args.toks.now c.args.self.now c.note_define.new.self c.define.new.self c.in_ok-m.m
    (in_gnu c.args.gnu c.in_ok-m.m) c.in_ok-m.ensures (sym c.may_define.ensures ∙ c.if-not-may_define.false) refl (c.in_ok-note_define.ensures.noted table)
    c.in_ok-define.ensures.answer

pub returns-then-not-may_define-clause-answer : goal.returns-then-not-may_define-clause-answer
returns-then-not-may_define-clause-answer c = λ table.
    define-refused c.args.gnu (source_in c.args.file.now) c.args.at c.args.toks.now (state_in table c.args.self.now) c.args.self.now.text c.in_ok-m.m (fault_of c.fault.result)
    c.in_ok-m.ensures (sym c.may_define.ensures ∙ c.if-not-may_define.true) c.fault.ensures.answer
