use Rattle.std.proofs.Common.{◌≡◌, take}
use Rattle.std.specs.List.{flat_map}
use Rattle.analysis.specs.Analysis.{UnitAnalysis}
use Rattle.class_marks.specs.declared.roles.Role.{Role}
use Rattle.class_marks.specs.ClassRoles.{of_role}
use Rattle.class_marks.specs.Marks.{with_tokens}
use Rattle.class_marks.specs.Roles.{names_in}
use Rattle.class_marks.proofs.all_roles.roles_of.Given as goal

abbrev pub invariant-loop-unit : goal.invariant-loop-unit
invariant-loop-unit l = (role : Role) → of_role role l.all.items
    ≡ with_tokens l.a.classes (of_role role l.initial.all.items) (flat_map (λ (u : UnitAnalysis). names_in role u.text u.bound.names) (take l.unit l.a.value.units))
