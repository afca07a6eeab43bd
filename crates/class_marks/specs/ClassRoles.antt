-- The roles of the names that touch each class, of all roles at once.
use Rattle.std.specs.Prelude.{ℕ, ◌≡◌, true, if◌then◌else◌, Bool, Some, List, map}
use Rattle.cs_base.specs.declared.positions.Part.{Part}
use Rattle.eclass_map.specs.ClassTable.{Table, HasParts, class_in}
use Rattle.analysis.specs.Below.c_types.declared.entity.EntityKind.TheVariants as entity
use Rattle.analysis.specs.Analysed.{Analysed}
use Rattle.class_marks.specs.declared.all_roles.Roles.{Roles}
use Rattle.class_marks.specs.declared.roles.Role.{Role}
use Rattle.class_marks.specs.declared.roles.Role.TheVariants.{Declares, Uses, Defines, OfKind, External}
use Rattle.class_marks.specs.Marks.{AreMarked, mark_class}
use Rattle.class_marks.specs.Roles.{names_with}

-- the role is among these
abbrev pub has_role : Role → Roles → Bool
has_role Declares roles = roles.declares
has_role Uses roles = roles.uses
has_role Defines roles = roles.defines
has_role External roles = roles.external
has_role (OfKind entity.Object) roles = roles.object
has_role (OfKind entity.Function) roles = roles.function
has_role (OfKind entity.Typedef) roles = roles.typedef
has_role (OfKind entity.Parameter) roles = roles.parameter
has_role (OfKind entity.Enumerator) roles = roles.enumerator
has_role (OfKind entity.Tag) roles = roles.tag
has_role (OfKind entity.Member) roles = roles.member
has_role (OfKind entity.Label) roles = roles.label

-- the marks on the classes that have a role
abbrev pub of_role : Role → List Roles → List Bool
of_role role all = map (has_role role) all

-- The names with each role touch the classes that have it, and no others.
abbrev pub AreRoles : Analysed → List Roles → Type 0
AreRoles a all = (role : Role) → AreMarked a.classes (names_with role a.value) (of_role role all)

-- the marks of each of these roles are changed so, and no others
abbrev pub Adds : Roles → (List Bool → List Bool) → List Roles → List Roles → Type 0
Adds roles change old new = (role : Role) → of_role role new ≡ (if has_role role roles then change (of_role role old) else of_role role old)

-- a part, of a table that tells the parts, whose class has these roles
abbrev pub IsAddedPart : Table → Roles → List Roles → Part → Type 0
IsAddedPart classes roles all part =
    HasParts classes × (c : ℕ) × (class_in classes part ≡ Some c)
    × ((role : Role) → has_role role roles ≡ true → mark_class (of_role role all) c ≡ of_role role all)
