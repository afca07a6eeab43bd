-- Facts on scopes and faults.
use Rattle.std.proofs.Common.{Bool, None, Option, Some, arith, false, if◌then◌else◌, true, ◌+◌, ◌≡◌, ◌≤◌}
use Rattle.c_types.specs.Trees.{is_list, last_token}
use Rattle.c_types.specs.Faults.{comes_first, first_fault}
use Rattle.name_chains.specs.Entering.{inner, is_scoped, scope_in}
use Rattle.scope_bind.specs.Named.{Fault, Scope}
use Rattle.c99_tree.specs.declared.production.Production.{Production}
use Rattle.c99_tree.specs.declared.production.Label.{Label}
use Rattle.c99_tree.specs.Tree.{Forest}
use Rattle.c99_tree.specs.declared.production.Production.TheVariants.{Block, FunBody, Statement, Sub, Suffix}

-- scopes around some children are inside those around their node
pub deeper : (p : Production) (l : Label) (under : Forest) (scope : Scope) → scope.depth ≤ (scope_in p l under scope).depth
deeper Block l under scope = omega arith
deeper FunBody l under scope = omega arith
deeper Sub l under scope = omega arith
deeper Suffix l under scope = by (is_list l)
  where
    by : (c : Bool) → scope.depth ≤ (if c then inner scope (last_token under 0) else scope).depth
    by true = omega arith
    by false = omega arith
deeper Statement l under scope = by (is_scoped l.alternative)
  where
    by : (c : Bool) → scope.depth ≤ (if c then inner scope (last_token under 0 + 1) else scope).depth
    by true = omega arith
    by false = omega arith
deeper _ l under scope = omega arith

pub fault_some : (o : Option Fault) (x : Fault) → first_fault o x ≡ None → ⊥
fault_some None x e = cc
fault_some (Some y) x e = by (comes_first x y) e
  where
    by : (c : Bool) → (if c then Some x else Some y) ≡ None → ⊥
    by true e = cc
    by false e = cc
