use Rattle.std.proofs.Common.{[]}
use Rattle.unit_steps.specs.SourceTexts.{source_in}
use Rattle.unit_steps.specs.Moments.{state_in}
use Rattle.unit_steps.specs.Conditions.{test_notes}
use Rattle.unit_steps.specs.Directives.{operand_in}
use Rattle.unit_steps.proofs.DefiningLemmas.{able-noted, asks-line}
use Rattle.unit_steps.proofs.progress.Progress.asks_name.Goals as goal

pub returns-in_ok-known-in-Some-clause-goes_on : goal.returns-in_ok-known-in-Some-clause-goes_on
returns-in_ok-known-in-Some-clause-goes_on c = record {
  able = able-noted c.args.self.now c.test.new.self c.in-Some.name.now (test_notes c.in-Some.name.now (state_in [] c.args.self.now)) (c.in_ok-known-in-Some.ensures.noted [])
      c.requires.able;
  most = c.in_ok-known-in-Some.ensures.most;
}

pub returns-in_ok-known-in-Some-clause-answer : goal.returns-in_ok-known-in-Some-clause-answer
returns-in_ok-known-in-Some-clause-answer c = λ table.
    asks-line table (source_in c.args.file.now) c.args.at c.args.opposite (operand_in c.args.toks.now) c.args.self.now c.test.new.self c.in-Some.name.now c.in_ok-known-in-Some.known
    c.in-Some.ensures (c.in_ok-known-in-Some.ensures.answer table) (c.in_ok-known-in-Some.ensures.noted table)
