use Rattle.std.proofs.Common.{true, sym, ◌∙◌}
use Rattle.unit_steps.specs.SourceTexts.{source_in}
use Rattle.unit_steps.specs.Moments.{state_in}
use Rattle.unit_steps.specs.Expanding.{expanded_in, put_out}
use Rattle.unit_steps.proofs.GoingLemmas.{put-onward}
use Rattle.unit_steps.proofs.progress.Progress.run_of.Goals as goal

pub returns-clause-answer : goal.returns-clause-answer
returns-clause-answer c = λ ctx table limit.
    rw (put-onward c.args.self.now.text c.expanded.new.self.text
    (expanded_in true (source_in c.args.file.now) c.args.toks.now (state_in table c.args.self.now)) (put_out ctx (source_in c.args.file.now))
    c.in_ok-out.out.items (state_in table c.expanded.new.self) (c.in_ok-out.ensures.answer table))
    (c.put_out.ensures.answer ctx table (limit ∙ sym c.in_ok-out.ensures.goes_on.most))
