use Rattle.std.proofs.Common.{sym, ◌∙◌}
use Rattle.unit_steps.specs.SourceTexts.{source_in}
use Rattle.include_tree.specs.ItemTexts.{item_in}
use Rattle.unit_steps.specs.Moments.{state_in}
use Rattle.include_tree.proofs.WalkingLemmas.{foreign-step}
use Rattle.include_tree.proofs.item_steps.foreign_line.Goals as goal

pub returns-clause-answer : goal.returns-clause-answer
returns-clause-answer c = λ table.
    foreign-step (source_in c.args.file.now) (item_in c.args.item.now) c.args.sections.now (state_in table c.args.p.now) c.args.p.now.text
    (sym c.are_processed.ensures ∙ c.if-are_processed.false)
