use Rattle.std.proofs.Common.{◌≡◌, ◌||◌}
use Rattle.analysis.specs.Below.c_types.declared.entity.EntityKind.TheVariants.{Object, Function, Typedef, Parameter, Enumerator, Tag, Member, Label}
use Rattle.class_marks.specs.declared.all_roles.Roles.{Roles}
use Rattle.class_marks.specs.declared.roles.Role.TheVariants.{Declares, Uses, Defines, OfKind, External}
use Rattle.class_marks.specs.ClassRoles.{has_role}
use Rattle.class_marks.proofs.all_roles.joined.Goals as goal

pub returns : goal.returns
returns c = λ role.
    let all : Roles = record {
      declares = c.either.result;
      uses = c.either-2.result;
      defines = c.either-3.result;
      external = c.either-4.result;
      object = c.either-5.result;
      function = c.either-6.result;
      typedef = c.either-7.result;
      parameter = c.either-8.result;
      enumerator = c.either-9.result;
      tag = c.either-10.result;
      member = c.either-11.result;
      label = c.either-12.result;
    } in
    elim role as (λ r. has_role r all ≡ (has_role r c.args.one || has_role r c.args.other)) [
      | Declares ↦ c.either.ensures
      | Uses ↦ c.either-2.ensures
      | Defines ↦ c.either-3.ensures
      | External ↦ c.either-4.ensures
      | OfKind kind ↦ elim kind as (λ k. has_role (OfKind k) all ≡ (has_role (OfKind k) c.args.one || has_role (OfKind k) c.args.other)) [
        | Object ↦ c.either-5.ensures
        | Function ↦ c.either-6.ensures
        | Typedef ↦ c.either-7.ensures
        | Parameter ↦ c.either-8.ensures
        | Enumerator ↦ c.either-9.ensures
        | Tag ↦ c.either-10.ensures
        | Member ↦ c.either-11.ensures
        | Label ↦ c.either-12.ensures
      ]
    ]
