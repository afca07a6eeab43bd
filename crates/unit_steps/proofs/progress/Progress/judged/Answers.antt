use Rattle.std.proofs.Common.{sym, ◌∙◌}
use Rattle.cs_base.specs.declared.causes.Cause.TheVariants.{DefinedFromMacro}
use Rattle.source_files.specs.Faults.{fault_at}
use Rattle.source_files.specs.Answers.{fault_of}
use Rattle.unit_steps.specs.SourceTexts.{source_in}
use Rattle.unit_steps.specs.Conditions.{condition_fault, judged}
use Rattle.unit_steps.specs.Moments.{state_in}
use Rattle.unit_steps.proofs.JudgingLemmas.{kept-fault, judged-defined, judged-refused, judged-value}
use Rattle.unit_steps.proofs.progress.Progress.judged.Goals as goal

pub returns-then-has_defined-clause-answer : goal.returns-then-has_defined-clause-answer
returns-then-has_defined-clause-answer c = λ table.
    let s = state_in table c.args.self.now in
    kept-fault c.args.self.now.text (judged (source_in c.args.file.now) c.args.at c.args.toks.now s) (fault_at (source_in c.args.file.now) c.args.at DefinedFromMacro)
    (fault_of c.fault.result) (judged-defined (source_in c.args.file.now) c.args.at c.args.toks.now s (sym c.has_defined.ensures ∙ c.if-has_defined.true)) c.fault.ensures.answer

pub returns-in_ok-left_over-in-Ok-clause-answer : goal.returns-in_ok-left_over-in-Ok-clause-answer
returns-in_ok-left_over-in-Ok-clause-answer c = λ table.
    judged-value (source_in c.args.file.now) c.args.at c.args.toks.now (state_in table c.args.self.now) (state_in table c.left_over.new.self) c.args.self.now.text
    c.left_over.new.self.text c.in-Ok.value (sym c.has_defined.ensures ∙ c.if-has_defined.false) c.in-Ok.ensures.answer (c.in_ok-left_over-in-Ok.ensures.answer table)

pub returns-in-Err-clause-answer : goal.returns-in-Err-clause-answer
returns-in-Err-clause-answer c = λ table.
    let s = state_in table c.args.self.now in
    kept-fault c.args.self.now.text (judged (source_in c.args.file.now) c.args.at c.args.toks.now s) (condition_fault (source_in c.args.file.now) c.args.at c.args.toks.now c.in-Err.found)
    (fault_of c.condition_fault.result)
    (judged-refused (source_in c.args.file.now) c.args.at c.args.toks.now s c.in-Err.found (sym c.has_defined.ensures ∙ c.if-has_defined.false) c.in-Err.ensures.answer)
    c.condition_fault.ensures.answer
