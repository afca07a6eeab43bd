-- What tokens stand for, by their places in the tree (ISO/IEC 9899:1999, 6.2.3 and Annex A).
use Rattle.std.specs.Prelude.{ℕ, Bool, ◌&&◌, if◌then◌else◌, ◌==◌, ◌%◌}
use Rattle.c99_tree.specs.declared.production.Production.{Production}
use Rattle.c99_tree.specs.declared.production.Production.TheVariants.{Main, SuRest, EnRest, Params, Designator, Primary, Post, Statement}
use Rattle.scope_bind.specs.declared.roles.Role.{Role}
use Rattle.scope_bind.specs.declared.roles.Role.TheVariants.{Plain as plain, Primary as primary, TypeName as type_name, Tag as tag, EnumerationTag as enumeration_tag, Listed as listed, Member as member, PointedMember as pointed_member, Designated as designated, Label as label, Jump as jump}

abbrev pub role_if : Bool → Role → Role
role_if is r = if is then r else plain

-- the role of a child that is a token, by the production, the alternative and how many children stand before it
abbrev pub role_of : Production → ℕ → ℕ → Role
role_of Primary a k = role_if (a == 1) primary
role_of Main a k = role_if ((a == 4) && (k == 0)) type_name
role_of SuRest a k = role_if ((a == 1) && (k == 0)) tag
role_of EnRest a k = role_if ((a == 1) && (k == 0)) enumeration_tag
role_of Params a k = role_if ((a == 1) && (k % 2 == 0)) listed
role_of Post a k = if (a == 3) && (k == 1) then member else role_if ((a == 4) && (k == 1)) pointed_member
role_of Designator a k = role_if ((a == 1) && (k == 1)) designated
role_of Statement a k = if (a == 1) && (k == 0) then label else role_if ((a == 10) && (k == 1)) jump
role_of _ a k = plain
