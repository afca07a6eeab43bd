use Rattle.std.proofs.Common.{sym, ◌∙◌}
use Rattle.unit_steps.specs.SourceTexts.{source_in}
use Rattle.include_tree.specs.ItemTexts.{item_in}
use Rattle.unit_steps.specs.Moments.{state_in}
use Rattle.include_tree.proofs.WalkingLemmas.{stays-skipped, stays-step}
use Rattle.include_tree.proofs.item_steps.stay.Goals as goal

pub returns-then-not-are_processed-clause-answer : goal.returns-then-not-are_processed-clause-answer
returns-then-not-are_processed-clause-answer c = λ ctx inner table limit standard.
    stays-skipped ctx inner (source_in c.args.file.now) c.args.k (item_in c.args.item.now) (state_in table c.args.p.now) c.args.p.now.text c.args.sections.now
    (sym c.are_processed.ensures ∙ c.if-not-are_processed.true)

pub returns-clause-answer : goal.returns-clause-answer
returns-clause-answer c = λ ctx inner table limit standard.
    stays-step ctx inner (source_in c.args.file.now) c.args.k (item_in c.args.item.now) c.args.sections.now table c.args.p.now c.reach.new.self c.processed.result
    (state_in table c.processed.new.p) c.processed.new.p.text c.in_ok-reach.ensures.noted (sym c.are_processed.ensures ∙ c.if-not-are_processed.false)
    (c.processed.ensures.answer ctx inner table (limit ∙ sym c.in_ok-reach.ensures.goes_on.most) standard)
