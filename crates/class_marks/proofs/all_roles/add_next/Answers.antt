use Rattle.std.proofs.Common.{sym, ◌∙◌}
use Rattle.class_marks.proofs.ClassRoleLemmas.{added_within}
use Rattle.class_marks.proofs.all_roles.add_next.Goals as goal

pub returns-then-is_within-clause-answer : goal.returns-then-is_within-clause-answer
returns-then-is_within-clause-answer c =
    added_within c.args.classes.now c.args.roles c.args.all.now.items c.args.part c.args.origin c.requires (sym c.is_within.ensures ∙ c.if-is_within.true)
