-- What a query may ask of the names of all classes, and which files are read-only.
use Rattle.analysis.specs.Analysed.{Analysed}
use Rattle.class_marks.specs.ClassRoles.{AreRoles}
use Rattle.class_marks.specs.Touching.{AreReadOnly}
use Rattle.find_names.specs.declared.role_marks.RoleMarks.{RoleMarks}

pub record AreRoleMarks (a : Analysed) (marks : RoleMarks) : Type 0 where
  pub roles : AreRoles a marks.roles.items
  pub read_only : AreReadOnly a.value marks.read_only.items
