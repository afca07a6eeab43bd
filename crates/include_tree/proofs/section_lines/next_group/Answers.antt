use Rattle.std.proofs.Common.{ap}
use Rattle.unit_steps.specs.SourceTexts.{source_in}
use Rattle.include_tree.specs.ItemTexts.{item_in}
use Rattle.unit_steps.specs.Moments.{state_in}
use Rattle.include_tree.specs.OpenSections.{group_of}
use Rattle.include_tree.proofs.WalkingLemmas.{skipped-on}
use Rattle.include_tree.proofs.section_lines.next_group.Goals as goal

pub returns-in-Skipped-clause-answer : goal.returns-in-Skipped-clause-answer
returns-in-Skipped-clause-answer c = λ ctx table open_ around standard.
    skipped-on ctx c.args.p.now.text (source_in c.args.file.now) c.args.k (item_in c.args.item.now) open_ around (state_in table c.args.p.now) (group_of c.args.group)
    (ap group_of c.in-Skipped.is)
