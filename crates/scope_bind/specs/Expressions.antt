-- Types of expressions (ISO/IEC 9899:1999, 6.5): what a node has once one more of its children is read.
use Rattle.std.specs.Prelude.{ℕ, Bool, ◌||◌, List, codes, if◌then◌else◌, ◌==◌}
use Rattle.std.specs.Str.{bytes_eq}
use Rattle.cs_base.specs.Token.{Token}
use Rattle.c99_tree.specs.Tree.{Forest}
use Rattle.c99_tree.specs.declared.production.Label.{Label}
use Rattle.c99_tree.specs.declared.production.Production.{Production}
use Rattle.c99_tree.specs.declared.production.Production.TheVariants.{Expr, Assign, Cond, Add, Cast, CastRest, Unary, SizeRest, SizeLit, Primary, Post, TypeName, Specs, Main, StructSpec, Word, ExtRest, InitDecl, Declarator, Init, InitItem, Designator}
use Rattle.c_types.specs.Types.{CType, arithmetic, nothing, pointer, subscripted, pointed_to, sum_type, chosen}
use Rattle.c_types.specs.Trees.{is_node, is_at, declarator_type}
use Rattle.c_types.specs.Declarations.{spelling_at}
use Rattle.c_types.specs.declared.frames.Frame.{Frame}

-- the first operand's: assignment (6.5.16 paragraph 3)
abbrev pub of_first : Frame → Frame → CType
of_first f child = if f.nth == 0 then child.found else f.found

-- the second and the third operand's (6.5.15)
abbrev pub of_conditional : Frame → Frame → CType
of_conditional f child =
    if f.nth == 2 then child.found else (if f.nth == 4 then chosen f.found child.found else f.found)

-- a cast or compound literal has the named type (6.5.4 and 6.5.2.5), and what follows a literal its own
abbrev pub of_cast : Frame → Label → Frame → CType
of_cast f l child = if is_node l TypeName || is_at l CastRest 1 then child.found else f.found

-- what one child of the production says
abbrev pub of_child : Production → Frame → Label → Frame → CType
of_child p f l child = if is_node l p then child.found else f.found

-- specifiers (6.7.2): `void`, a structure or union; an enumeration counts as arithmetic
abbrev pub of_main : Frame → Label → Frame → CType
of_main f l child = if is_at l Word 1 then nothing else of_child StructSpec f l child

-- a type name (6.7.6)
abbrev pub of_type_name : Frame → Label → Forest → Frame → CType
of_type_name f l under child = if is_node l Specs then child.found else declarator_type f.found under

-- the declared name's, for its initializer
abbrev pub of_declarator : Frame → Label → Forest → CType
of_declarator f l under = if is_node l Declarator then declarator_type f.base under else f.found

-- `[` and an expression (6.5.2.1)
abbrev pub of_postfix : Frame → Frame → CType
of_postfix f child = if f.label.alternative == 1 then subscripted f.given child.found else f.found

module _ (toks : List Token) where
  abbrev pub is_sign : ℕ → List ℕ → Bool
  is_sign i text = bytes_eq (spelling_at toks i) text

  -- unary operators (6.5.3)
  abbrev pub prefixed : ℕ → CType → CType
  prefixed sign t =
      if is_sign sign (codes "++") || is_sign sign (codes "--") then t
      else (if is_sign sign (codes "&") then pointer t else (if is_sign sign (codes "*") then pointed_to t else arithmetic))

  abbrev pub of_unary : Frame → Frame → CType
  of_unary f child =
      if f.label.alternative == 1 then prefixed f.token child.found
      else (if f.label.alternative == 2 then arithmetic else child.found)

  -- one operand more, behind a sign
  abbrev pub of_sum : Frame → Frame → CType
  of_sum f child = if f.nth == 0 then child.found else sum_type (is_sign f.token (codes "-")) f.found child.found

  -- the type of a node of the production, once this child is read
  abbrev pub found_after : Production → Frame → Label → Forest → Frame → CType
  found_after Expr f l under child = child.found
  found_after Assign f l under child = of_first f child
  found_after Cond f l under child = of_conditional f child
  found_after Add f l under child = of_sum f child
  found_after Cast f l under child = of_cast f l child
  found_after Unary f l under child = of_unary f child
  found_after CastRest f l under child = of_child Post f l child
  found_after SizeRest f l under child = of_child TypeName f l child
  found_after SizeLit f l under child = of_child Post f l child
  found_after Primary f l under child = child.found
  found_after Post f l under child = of_postfix f child
  found_after TypeName f l under child = of_type_name f l under child
  found_after Specs f l under child = of_child Main f l child
  found_after Main f l under child = of_main f l child
  found_after StructSpec f l under child = child.found
  found_after ExtRest f l under child = of_declarator f l under
  found_after InitDecl f l under child = of_declarator f l under
  found_after Init f l under child = child.found
  found_after InitItem f l under child = of_child Designator f l child
  found_after _ f l under child = f.found
