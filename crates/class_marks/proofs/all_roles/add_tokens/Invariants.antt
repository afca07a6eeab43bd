use Rattle.std.proofs.Common.{◌≡◌, drop, length}
use Rattle.class_marks.specs.declared.roles.Role.{Role}
use Rattle.class_marks.specs.ClassRoles.{of_role}
use Rattle.class_marks.specs.Marks.{with_tokens}
use Rattle.class_marks.specs.Roles.{tokens_with}
use Rattle.class_marks.proofs.all_roles.add_tokens.Given as goal

abbrev pub invariant-loop-k : goal.invariant-loop-k
invariant-loop-k l = record {
  counted : l.count ≡ length l.toks;
  rest : (role : Role) → with_tokens l.classes (of_role role l.all.items) (tokens_with role l.bound.names l.k (drop l.k l.toks))
      ≡ with_tokens l.classes (of_role role l.initial.all.items) (tokens_with role l.bound.names 0 l.toks);
}
