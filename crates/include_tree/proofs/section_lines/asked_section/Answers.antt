use Rattle.std.proofs.Common.{drop, ◌∙◌}
use Rattle.unit_steps.specs.SourceTexts.{source_in}
use Rattle.include_tree.specs.ItemTexts.{item_in}
use Rattle.unit_steps.specs.Moments.{state_in}
use Rattle.include_tree.proofs.WalkingLemmas.{asked-left, line-given}
use Rattle.include_tree.proofs.section_lines.asked_section.Goals as goal

pub returns-clause-answer : goal.returns-clause-answer
returns-clause-answer c = λ ctx inner sections table asks waits.
    asked-left ctx (source_in c.args.file.now) c.args.k (item_in c.args.item.now) c.args.open.now sections table c.args.p.now c.reach.new.self c.in_ok-reach.ensures.noted asks waits
    ∙ line-given ctx (source_in c.args.file.now) c.in_ok-line.line c.args.item.now.at c.args.open.now.opening (drop 2 c.args.item.now.toks.now) sections
    (state_in table c.reach.new.self) c.reach.new.self.text c.in_ok-line.ensures.at.0 (c.in_ok-line.ensures.at.1 ∙ c.opening.ensures) c.in_ok-line.ensures.pieces
