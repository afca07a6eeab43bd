use Rattle.std.proofs.Common.{◌≡◌, Some, sym, ◌∙◌}
use Rattle.std.proofs.lemmas.Option.{none-some}
use Rattle.eclass_map.specs.ClassTable.{class_in}
use Rattle.analysis.proofs.ClassLemmas.{part_held}
use Rattle.class_marks.specs.ClassRoles.{has_role, of_role}
use Rattle.class_marks.specs.Touching.{HasRole}
use Rattle.class_marks.proofs.AnswerLemmas.{told}
use Rattle.class_marks.proofs.RoleLemmas.{marked_role, role_marked}
use Rattle.class_marks.proofs.all_roles.class_roles.Goals as goal

pub returns-in-Some : goal.returns-in-Some
returns-in-Some c = λ role.
    let a = c.args.a.now in
    let own = c.classes-classes.ensures.own in
    let class = c.in-Some.class in
    let marks = c.requires.roles role in
    let is : class_in a.classes c.args.part ≡ Some class = sym c.requires.class ∙ c.in-Some.is in
    let within = marks.enough c.args.part class is in
    let answer = c.roles_at.ensures role in
    told (has_role role c.roles_at.result) (HasRole a.value role c.args.part)
    (λ yes. marked_role a own c.args.part class is role (of_role role c.args.all.now) marks within (sym answer ∙ yes))
    (λ not x.
    let yes = role_marked a own c.args.part class is role (of_role role c.args.all.now) marks within x in
    cc)

pub returns-in-None : goal.returns-in-None
returns-in-None c = λ role.
    let a = c.args.a.now in
    let own = c.classes-classes.ensures.own in
    let number = own.parts.each c.args.part (part_held a.value a.classes own c.args.part c.requires.part) in
    let none = c.no_roles.ensures role in
    told (has_role role c.no_roles.result) (HasRole a.value role c.args.part)
    (λ yes. cc)
    (λ not x. none-some number.0 (sym c.in-None.is ∙ (c.requires.class ∙ number.1)))
