use Rattle.std.proofs.Common.{◌≡◌, Some, rules}
use Rattle.source_files.specs.HeaderNames.{header_at}
use Rattle.unit_steps.specs.SourceTexts.{source_in}
use Rattle.unit_steps.specs.Moments.{state_in}
use Rattle.unit_steps.proofs.IncludingLemmas.{header-written}
use Rattle.unit_steps.proofs.progress.Progress.written_header.Goals as goal

pub returns-in-Some-clause-answer : goal.returns-in-Some-clause-answer
returns-in-Some-clause-answer c = λ table.
    let is : header_at c.args.toks.now ≡ Some c.in-Some.header = search rules in
    header-written c.args.self.now.text (source_in c.args.file.now) c.args.at (state_in table c.args.self.now) (header_at c.args.toks.now) c.in-Some.header is
