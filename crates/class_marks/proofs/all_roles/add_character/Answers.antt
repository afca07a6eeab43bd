use Rattle.std.proofs.Common.{sym, ap, ◌∙◌}
use Rattle.std.specs.Option.{option_map}
use Rattle.class_marks.proofs.ClassRoleLemmas.{class_added, none_added, part_added}
use Rattle.class_marks.proofs.all_roles.add_character.Goals as goal

pub returns-in-Some-clause-answer : goal.returns-in-Some-clause-answer
returns-in-Some-clause-answer c =
    class_added c.args.classes.now c.args.roles c.args.all.now.items c.add_class.new.all.items c.in-Some.found.class c.args.origin c.add_class.ensures
    (sym (ap (option_map (λ f. f.class)) c.in-Some.is) ∙ c.found_at.ensures.class)

pub returns-in-Some-clause-part : goal.returns-in-Some-clause-part
returns-in-Some-clause-part c =
    part_added c.args.classes.now c.args.roles c.args.all.now.items c.add_class.new.all.items c.in-Some.found.part c.in-Some.found.class c.add_class.ensures
    c.in-Some.ensures.part.0 c.in-Some.ensures.part.1

pub returns-in-None-clause-answer : goal.returns-in-None-clause-answer
returns-in-None-clause-answer c =
    none_added c.args.classes.now c.args.roles c.args.all.now.items c.args.origin (sym (ap (option_map (λ f. f.class)) c.in-None.is) ∙ c.found_at.ensures.class)
