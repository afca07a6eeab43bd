use Rattle.std.proofs.Common.{sym, ◌∙◌, ap}
use Rattle.unit_steps.specs.SourceTexts.{source_in}
use Rattle.unit_steps.specs.Moments.{state_in}
use Rattle.source_files.specs.HeaderNames.{header_in}
use Rattle.unit_steps.proofs.IncludingLemmas.{header-alone}
use Rattle.unit_steps.proofs.progress.Progress.header_named.Goals as goal

pub returns-in_ok-header_in-in-len1-up-clause-answer : goal.returns-in_ok-header_in-in-len1-up-clause-answer
returns-in_ok-header_in-in-len1-up-clause-answer c = λ table.
    header-alone c.args.self.now.text (source_in c.args.file.now) c.args.at c.args.toks.now (state_in table c.args.self.now) c.first-item.result c.in_ok-header_in-in-len1-up.field-0
    c.in-len1-up.len_at_least c.first-item.is (sym c.is_header.ensures ∙ c.if-is_header.true) (c.in_ok-header_in-in-len1-up.ensures ∙ ap header_in c.text.ensures.answer)
