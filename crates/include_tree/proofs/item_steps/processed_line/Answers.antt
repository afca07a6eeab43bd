use Rattle.std.proofs.Common.{refl}
use Rattle.unit_steps.specs.SourceTexts.{source_in}
use Rattle.unit_steps.specs.Moments.{state_in}
use Rattle.unit_steps.specs.Keeping.{put_after}
use Rattle.source_files.specs.Answers.{fault_of}
use Rattle.include_tree.specs.Walk.{processed_line}
use Rattle.include_tree.proofs.WalkingLemmas.{include-next-step, include-next-stopped, line-stopped, line-rest}
use Rattle.include_tree.proofs.item_steps.processed_line.Goals as goal

pub returns-in_ok-header-in-IncludeNext-clause-answer : goal.returns-in_ok-header-in-IncludeNext-clause-answer
returns-in_ok-header-in-IncludeNext-clause-answer c = λ ctx inner table.
    include-next-step ctx inner c.args.line (source_in c.args.file.now) c.args.at c.args.toks.now c.behind_word.result.now (state_in table c.args.p.now)
    c.args.p.now.text c.next_named.new.self.text c.in_ok-header-in-IncludeNext.header (state_in table c.next_named.new.self) c.in-IncludeNext.is c.behind_word.ensures
    (c.in_ok-header-in-IncludeNext.ensures.answer table)

pub returns-in_err-header-in-IncludeNext-clause-answer : goal.returns-in_err-header-in-IncludeNext-clause-answer
returns-in_err-header-in-IncludeNext-clause-answer c = λ ctx inner table.
    let e = c.in_err-header-in-IncludeNext.field-0.0 in
    let file = source_in c.args.file.now in
    let s = state_in table c.args.p.now in
    line-stopped ctx inner file e c.from_residual.result (state_in table c.next_named.new.self) c.next_named.new.self.text
    (put_after c.args.p.now.text (processed_line ctx inner c.args.line file c.args.at c.args.toks.now s)) c.from_residual.ensures.1
    (include-next-stopped ctx inner c.args.line file c.args.at c.args.toks.now c.behind_word.result.now s c.args.p.now.text (fault_of e) c.in-IncludeNext.is c.behind_word.ensures
    (c.in_err-header-in-IncludeNext.ensures.answer table))

pub returns-in_default : goal.returns-in_default
returns-in_default c = record {
  goes_on = record { able = c.requires.able; most = refl };
  no_read = tt;
  sound = tt;
  answer = λ ctx inner table.
      line-rest ctx inner c.args.line (source_in c.args.file.now) c.args.at c.args.toks.now (state_in table c.args.p.now) c.args.p.now.text c.in_default.not-IncludeNext;
}
