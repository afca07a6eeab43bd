use Rattle.std.proofs.Common.{sym, ◌∙◌}
use Rattle.class_marks.proofs.MarkLemmas.{marked_within}
use Rattle.class_marks.proofs.marks.mark_next.Goals as goal

pub returns-then-is_within-clause-answer : goal.returns-then-is_within-clause-answer
returns-then-is_within-clause-answer c =
    marked_within c.args.classes.now c.args.marks.now.items c.args.part c.args.origin c.requires (sym c.is_within.ensures ∙ c.if-is_within.true)
