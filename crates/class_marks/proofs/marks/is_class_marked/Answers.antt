use Rattle.std.proofs.Common.{◌≡◌, Some, sym, ◌∙◌}
use Rattle.std.proofs.lemmas.Option.{none-some}
use Rattle.eclass_map.specs.ClassTable.{class_in}
use Rattle.analysis.proofs.ClassLemmas.{part_held}
use Rattle.class_marks.specs.Touching.{HasRole}
use Rattle.class_marks.proofs.AnswerLemmas.{told}
use Rattle.class_marks.proofs.RoleLemmas.{marked_role, role_marked}
use Rattle.class_marks.proofs.marks.is_class_marked.Goals as goal

pub returns-in-Some : goal.returns-in-Some
returns-in-Some c = λ role marks.
    let a = c.args.a.now in
    let own = c.classes-classes.ensures.own in
    let class = c.in-Some.class in
    let is : class_in a.classes c.args.part ≡ Some class = sym c.requires.class ∙ c.in-Some.is in
    let within = marks.enough c.args.part class is in
    told c.is_set.result (HasRole a.value role c.args.part)
    (λ yes. marked_role a own c.args.part class is role c.args.marks.now marks within (sym c.is_set.ensures ∙ yes))
    (λ not x.
    let yes = role_marked a own c.args.part class is role c.args.marks.now marks within x in
    let answer = c.is_set.ensures in
    cc)

pub returns-in-None : goal.returns-in-None
returns-in-None c = λ role marks x.
    let a = c.args.a.now in
    let own = c.classes-classes.ensures.own in
    let number = own.parts.each c.args.part (part_held a.value a.classes own c.args.part c.requires.part) in
    none-some number.0 (sym c.in-None.is ∙ (c.requires.class ∙ number.1))
