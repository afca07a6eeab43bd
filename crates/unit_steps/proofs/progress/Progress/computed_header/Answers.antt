use Rattle.std.proofs.Common.{false}
use Rattle.unit_steps.specs.SourceTexts.{source_in}
use Rattle.unit_steps.specs.Moments.{state_in}
use Rattle.unit_steps.specs.Expanding.{expanded_in}
use Rattle.unit_steps.specs.IncludeNames.{header_or}
use Rattle.source_files.specs.HeaderNames.{header_of_toks}
use Rattle.unit_steps.proofs.GoingLemmas.{kept-onward}
use Rattle.unit_steps.proofs.progress.Progress.computed_header.Goals as goal

pub returns-clause-answer : goal.returns-clause-answer
returns-clause-answer c = λ table.
    rw (kept-onward c.args.self.now.text c.expanded.new.self.text (expanded_in false (source_in c.args.file.now) c.args.toks.now (state_in table c.args.self.now))
    (λ out t. header_or (source_in c.args.file.now) c.args.at out t (header_of_toks out)) c.in_ok-out.out.items (state_in table c.expanded.new.self) (c.in_ok-out.ensures.answer table))
    (rw c.deref.ensures.value at (c.header_or.ensures.answer table))
