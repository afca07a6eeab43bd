use Rattle.std.specs.Prelude.{MatchBool}
use Rattle.analysis.specs.Below.c_types.declared.entity.EntityKind.TheVariants as entity
use Rattle.class_marks.specs.declared.roles.Role.TheVariants as role
use Rattle.query_words.specs.declared.attributes.Attribute.{Attribute}
use Rattle.query_words.specs.declared.attributes.Attribute.TheVariants.{Macro, Function, Object, Typedef, Parameter, Enumerator, Tag, Member, Label, External, ReadOnly, Unused, Cut}
use Rattle.query_words.specs.declared.attributes.Facts.{Facts}
use Rattle.query_words.specs.Attributes.{has}
use Rattle.find_names.specs.Satisfying.{HasAttribute}
use Rattle.find_names.proofs.class_facts.facts_of.Goals as goal

pub class_roles-roles-requires : goal.class_roles-roles-requires
class_roles-roles-requires c = record {
  part = c.requires.class.first.is_part;
  class = c.requires.number;
  roles = rw c.deref.ensures.value c.requires.marks.roles;
}

pub any_read_only-read_only-requires : goal.any_read_only-read_only-requires
any_read_only-read_only-requires c = rw c.deref-2.ensures.value c.requires.marks.read_only

pub is_unused_class-unused-requires : goal.is_unused_class-unused-requires
is_unused_class-unused-requires c = record {
  first = c.requires.class.first;
  declared = c.class_roles-roles.ensures role.Declares;
  used = c.class_roles-roles.ensures role.Uses;
  read_only = c.any_read_only-read_only.ensures c.args.part c.requires.class.are_members;
}

pub returns : goal.returns
returns c = λ attribute.
    let a = c.args.a.now.value in
    let part = c.args.part in
    let roles = c.class_roles-roles.result in
    let told = c.class_roles-roles.ensures in
    let facts : Facts = record {
      macro_ = roles.defines;
      function = roles.function;
      object = roles.object;
      typedef = roles.typedef;
      parameter = roles.parameter;
      enumerator = roles.enumerator;
      tag = roles.tag;
      member = roles.member;
      label = roles.label;
      external = roles.external;
      read_only = c.any_read_only-read_only.result;
      unused = c.is_unused_class-unused.result;
      cut = c.is_cut-cut.result;
    } in
    elim attribute as (λ k. MatchBool (has facts k) (HasAttribute a part k) (HasAttribute a part k → ⊥)) [
      | Macro ↦ told role.Defines
      | Function ↦ told (role.OfKind entity.Function)
      | Object ↦ told (role.OfKind entity.Object)
      | Typedef ↦ told (role.OfKind entity.Typedef)
      | Parameter ↦ told (role.OfKind entity.Parameter)
      | Enumerator ↦ told (role.OfKind entity.Enumerator)
      | Tag ↦ told (role.OfKind entity.Tag)
      | Member ↦ told (role.OfKind entity.Member)
      | Label ↦ told (role.OfKind entity.Label)
      | External ↦ told role.External
      | ReadOnly ↦ c.any_read_only-read_only.ensures part c.requires.class.are_members
      | Unused ↦ c.is_unused_class-unused.ensures
      | Cut ↦ c.is_cut-cut.ensures
    ]
