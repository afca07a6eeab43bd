use Rattle.std.proofs.Common.{sym, ◌∙◌}
use Rattle.unit_steps.specs.SourceTexts.{source_in}
use Rattle.unit_steps.specs.Moments.{state_in}
use Rattle.include_tree.specs.OpenSections.{group_of}
use Rattle.include_tree.proofs.WalkingLemmas.{skipped-only}
use Rattle.include_tree.proofs.section_lines.reach_alive.Goals as goal

pub returns-then-not-is_alive-clause-answer : goal.returns-then-not-is_alive-clause-answer
returns-then-not-is_alive-clause-answer c = λ table sections.
    skipped-only c.args.p.now.text (source_in c.args.file.now) c.args.k (group_of c.args.group) sections (state_in table c.args.p.now)
    (sym c.is_alive.ensures ∙ c.if-not-is_alive.true)
