use Rattle.std.proofs.Common.{Some, ap, sym, ◌∙◌}
use Rattle.std.specs.Option.{option_map}
use Rattle.eclass_map.specs.ClassTable.{Table}
use Rattle.class_marks.specs.Marks.{class_at}
use Rattle.class_marks.proofs.RoleLemmas.{start_class}
use Rattle.class_marks.proofs.marks.class_number_near.Goals as goal

pub returns-in-Some : goal.returns-in-Some
returns-in-Some c =
    sym (ap (option_map (λ f. f.class)) c.in-Some.is) ∙ c.found_at.ensures.class
    ∙ ap (λ (t : Table). class_at t (Some c.args.part.start)) c.classes.ensures.answer
    ∙ start_class c.args.a.now c.classes.ensures.own c.args.part c.requires

pub returns-in-None : goal.returns-in-None
returns-in-None c =
    sym (ap (option_map (λ f. f.class)) c.in-None.is) ∙ c.found_at.ensures.class
    ∙ ap (λ (t : Table). class_at t (Some c.args.part.start)) c.classes.ensures.answer
    ∙ start_class c.args.a.now c.classes.ensures.own c.args.part c.requires
