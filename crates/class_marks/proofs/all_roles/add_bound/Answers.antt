use Rattle.std.proofs.Common.{◌≡◌, [], ◌∷◌, false, ap, sym, ◌∙◌}
use Rattle.std.specs.Prelude.{if◌then◌else◌}
use Rattle.std.specs.Option.{option_map_or}
use Rattle.class_marks.specs.ClassRoles.{of_role}
use Rattle.class_marks.specs.Marks.{with_tokens}
use Rattle.class_marks.specs.Roles.{occurrence_has, token_has}
use Rattle.class_marks.proofs.ClassRoleLemmas.{name_added}
use Rattle.class_marks.proofs.all_roles.add_bound.Goals as goal

pub returns-in-Some : goal.returns-in-Some
returns-in-Some c = λ role.
    let names = c.args.bound.now.names in
    let entity = c.in-Some.entity in
    name_added c.args.classes.now c.token_roles.result c.args.all.now.items c.add_token.new.all.items c.args.tok.now c.add_token.ensures role
    (token_has role names c.args.k)
    (c.token_roles.ensures role ∙ ap (λ o. option_map_or (occurrence_has role names c.args.k) o false) (sym c.in-Some.is ∙ c.entity.ensures))

pub returns-in-None : goal.returns-in-None
returns-in-None c = λ role.
    let names = c.args.bound.now.names in
    let t = c.args.classes.now in
    let ms = of_role role c.args.all.now.items in
    ap (λ o. with_tokens t ms (if option_map_or (occurrence_has role names c.args.k) o false then c.args.tok.now ∷ [] else [])) (sym c.in-None.is ∙ c.entity.ensures)
