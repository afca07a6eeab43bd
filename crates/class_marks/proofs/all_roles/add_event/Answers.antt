use Rattle.std.proofs.Common.{ap, sym, ◌∙◌}
use Rattle.class_marks.specs.ClassRoles.{of_role}
use Rattle.class_marks.specs.Marks.{with_tokens}
use Rattle.class_marks.specs.Roles.{event_has}
use Rattle.class_marks.proofs.ClassRoleLemmas.{event_named, event_unnamed, name_added}
use Rattle.class_marks.proofs.all_roles.add_event.Goals as goal

pub returns-in-Some : goal.returns-in-Some
returns-in-Some c = λ role.
    let t = c.args.classes.now in
    let e = c.args.event.now in
    let name = c.in-Some.name in
    name_added t c.event_roles.result c.args.all.now.items c.add_token.new.all.items name c.add_token.ensures role (event_has role e.kind)
    (c.event_roles.ensures role)
    ∙ ap (with_tokens t (of_role role c.args.all.now.items)) (event_named role e name c.in-Some.is)

pub returns-in-None : goal.returns-in-None
returns-in-None c = λ role.
    ap (with_tokens c.args.classes.now (of_role role c.args.all.now.items)) (event_unnamed role c.args.event.now c.in-None.is)
