-- What tokens stand for in GNU C, by their places in the tree.
use Rattle.std.specs.Prelude.{ℕ, Bool, ◌&&◌, ◌||◌, if◌then◌else◌, ◌==◌, ◌%◌}
use Rattle.c99_tree.specs.declared.production.Production.{Production}
use Rattle.c99_tree.specs.declared.production.Production.TheVariants.{SuRest, InitItem, Unary, Primary, MemberPath, BlockItem, Statement, AsmPart}
use Rattle.scope_bind.specs.declared.roles.Role.TheVariants.{Plain as plain, Designated as designated}
use Rattle.scope_bind.specs.Roles.{role_if, role_of}
use Rattle.gnu_bind.specs.declared.roles.GnuRole.{GnuRole}
use Rattle.gnu_bind.specs.declared.roles.GnuRole.TheVariants.{Standard as standard, Name as name, BlockLabel as block_label, Label as label, Jump as jump, Address as address, Path as path, Brace as brace}

abbrev pub gnu_if : Bool → GnuRole → GnuRole
gnu_if is r = if is then r else standard plain

-- the `}` of a structure or union without members
abbrev pub is_brace : ℕ → ℕ → Bool
is_brace a k = ((a == 1) && (k == 2)) || ((a == 2) && (k == 1))

-- the role of a child that is a token, by the production, the alternative and how many children stand before it
abbrev pub role_in : Production → ℕ → ℕ → GnuRole
role_in Primary a k = gnu_if (a == 1) name
role_in SuRest a k = if is_brace a k then brace else standard (role_of SuRest a k)
role_in InitItem a k = standard (role_if ((a == 2) && (k == 0)) designated)
role_in Unary a k = gnu_if ((a == 4) && (k == 1)) address
role_in MemberPath a k = path
role_in BlockItem a k = gnu_if ((a == 7) && (k % 2 == 1)) block_label
role_in Statement a k = if (a == 1) && (k == 0) then label else gnu_if ((a == 10) && (k == 1)) jump
role_in AsmPart a k = gnu_if ((a == 1) && (k % 2 == 1)) jump
role_in p a k = standard (role_of p a k)
