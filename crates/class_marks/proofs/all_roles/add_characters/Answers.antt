use Rattle.std.proofs.Common.{◌<◌, length, ap, ◌∙◌, subst, arith, List, Option}
use Rattle.std.specs.Prelude.{if◌then◌else◌}
use Rattle.std.specs.List.{fold}
use Rattle.std.proofs.lemmas.List.{take_all}
use Rattle.cs_base.specs.declared.positions.Pos.{Pos}
use Rattle.class_marks.specs.ClassRoles.{Adds, has_role, of_role}
use Rattle.class_marks.specs.Marks.{with_character}
use Rattle.class_marks.proofs.ClassRoleLemmas.{character_added}
use Rattle.class_marks.proofs.all_roles.add_characters.Goals as goal

pub loop-k-preserved : goal.loop-k-preserved
loop-k-preserved c =
    let t = c.args.classes.now in
    let within : c.loop-k.k < length c.args.tok.now.origins = omega (arith, c.loop-k-test.true, c.length-count.ensures) in (
      character_added t c.args.roles c.args.tok.now c.loop-k.k c.args.all.now.items c.loop-k.all.items c.add_next-part.new.all.items within c.loop-k.invariant.0
          (subst (λ (o : Option Pos). Adds c.args.roles (λ marks. with_character t marks o) c.loop-k.all.items c.add_next-part.new.all.items)
          c.origins.ensures.answer c.add_next-part.ensures.answer),
      c.add_next-part.ensures.part,
    )

pub returns : goal.returns
returns c = λ role.
    let first = of_role role c.args.all.now.items in
    let all = take_all c.loop-k.k c.args.tok.now.origins (omega (arith, c.loop-k-test.false, c.length-count.ensures)) in
    c.loop-k.invariant.0 role
    ∙ ap (λ (os : List (Option Pos)). if has_role role c.args.roles then fold (with_character c.args.classes.now) first os else first) all
