-- Types of expressions of GNU C: what a node has once one more of its children is read.
use Rattle.std.specs.Prelude.{Bool, ◌&&◌, ◌||◌, List, if◌then◌else◌, ◌==◌}
use Rattle.cs_base.specs.Token.{Token}
use Rattle.c99_tree.specs.Tree.{Forest}
use Rattle.c99_tree.specs.declared.production.Label.{Label}
use Rattle.c99_tree.specs.declared.production.Production.{Production}
use Rattle.c99_tree.specs.declared.production.Production.TheVariants.{Cond, Unary, Primary, Post, Args, TypeName, Main, Init, Block, BlockItem, Statement, AutoDecl, Operand, MemberPath}
use Rattle.c_types.specs.Types.{CType, arithmetic, target_of, adjusted, chosen, is_unknown}
use Rattle.c_types.specs.Trees.{is_node, is_at}
use Rattle.c_types.specs.Declarations.{spelling_at}
use Rattle.c_types.specs.declared.frames.Frame.{Frame}
use Rattle.scope_bind.specs.Expressions.{of_conditional, of_main, of_postfix, of_unary, found_after}
use Rattle.gnu_bind.specs.Words.{is_extension}
use Rattle.gnu_bind.specs.declared.senses.Special.{Special}
use Rattle.gnu_bind.specs.Senses.{is_fetching, is_choosing, is_value}

-- `a ?: b` chooses between a and b
abbrev pub of_choice : Special → Frame → Frame → CType
of_choice s f child =
    if is_choosing s
    then (if f.nth == 0 then child.found else (if f.nth == 3 then chosen f.found child.found else f.found))
    else of_conditional f child

-- A statement in parentheses has the value of its last expression; `_Generic` and the comparison of types what they
-- began with; the place of a member is a number; and an argument has the type that is named behind it.
abbrev pub of_primary : Frame → Label → Frame → CType
of_primary f l child =
    if is_node l Block then adjusted child.found
    else (if (f.label.alternative == 6) || (f.label.alternative == 9) then f.found
    else (if is_node l MemberPath then arithmetic else child.found))

-- the first argument's, where it is asked for
abbrev pub of_arguments : Special → Frame → Frame → CType
of_arguments s f child = if is_fetching s && (f.nth == 0) then child.found else f.found

-- what the first argument points to, where the function is built in
abbrev pub of_call : Special → Frame → Label → Frame → CType
of_call s f l child = if is_fetching s && (is_unknown f.given && is_node l Args) then target_of child.found else of_postfix f child

-- `typeof` and `_Atomic` name the type
abbrev pub of_specifier : Frame → Label → Frame → CType
of_specifier f l child = if is_node l Operand || is_node l TypeName then child.found else of_main f l child

-- a block with a value has that of its last item
abbrev pub of_block : Special → Frame → Label → Frame → CType
of_block s f l child = if is_value s && is_node l BlockItem then child.found else f.found

-- .. which has the type of its statement
abbrev pub of_item : Special → Frame → Label → Frame → CType
of_item s f l child = if is_value s && (is_node l Statement || is_node l BlockItem) then child.found else f.found

-- an expression statement has that of its expression, and a labelled one that of what is labelled
abbrev pub of_statement : Special → Frame → Label → Frame → CType
of_statement s f l child = if is_value s && ((f.label.alternative == 15) || is_node l BlockItem) then child.found else f.found

abbrev pub of_auto : Frame → Label → Frame → CType
of_auto f l child = if is_at l Init 2 then child.found else f.found

module _ (toks : List Token) where
  abbrev pub is_extended : Frame → Bool
  is_extended f = (f.label.alternative == 1) && is_extension (spelling_at toks f.token)

  abbrev pub of_prefix : Frame → Frame → CType
  of_prefix f child = if is_extended f then child.found else of_unary toks f child

  -- the type of a node of the production, once this child is read
  abbrev pub type_after : Production → Special → Frame → Label → Forest → Frame → CType
  type_after Cond s f l under child = of_choice s f child
  type_after Unary s f l under child = of_prefix f child
  type_after Primary s f l under child = of_primary f l child
  type_after Args s f l under child = of_arguments s f child
  type_after Post s f l under child = of_call s f l child
  type_after Main s f l under child = of_specifier f l child
  type_after Operand s f l under child = child.found
  type_after MemberPath s f l under child = target_of f.found
  type_after AutoDecl s f l under child = of_auto f l child
  type_after Block s f l under child = of_block s f l child
  type_after BlockItem s f l under child = of_item s f l child
  type_after Statement s f l under child = of_statement s f l child
  type_after p s f l under child = found_after toks p f l under child
