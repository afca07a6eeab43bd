-- Types whose structures do not stand beside give none that does.
use Rattle.std.proofs.Common.{ℕ, ◌≡◌, Bool, true, false, ◌&&◌, ◌||◌, not, if◌then◌else◌, ◌==◌, List}
use Rattle.std.specs.Prelude.{codes}
use Rattle.cs_base.specs.Token.{Token}
use Rattle.c99_tree.specs.Tree.{Forest, none, token, node}
use Rattle.c99_tree.specs.declared.production.Label.{Label}
use Rattle.c99_tree.specs.declared.production.Production.{Production}
use Rattle.c99_tree.specs.declared.production.Production.TheVariants.{Expr, Assign, Cond, Add, Cast, CastRest, Unary, SizeRest, SizeLit, Primary, Post, TypeName, Specs, Main, StructSpec, Word, ExtRest, InitDecl, Declarator, Init, InitItem, Designator, Pointer, Suffix}
use Rattle.c_types.specs.declared.types.Base.{Base}
use Rattle.c_types.specs.declared.types.Base.TheVariants.{Arithmetic, Nothing, Structure, Union, Enumeration, Unknown}
use Rattle.c_types.specs.Types.{CType, arithmetic, nothing, unknown, pointer, array, function, inner_of, lacking, target_of, adjusted, subscripted, result_of, called, pointed_to, tells_sum, sum_type, tells_members, chosen, is_pointing, is_array, is_function, begins_pointer, is_unknown}
use Rattle.c_types.specs.Tags.{base_number, base_renumbered, renumbered}
use Rattle.c_types.specs.Trees.{is_node, is_at, is_aside, suffixed, declarator_type}
use Rattle.scope_bind.specs.Named.{Frame}
use Rattle.scope_bind.specs.Expressions.{is_sign, prefixed, found_after}
use Rattle.reordered_tree_laws.specs.Beside.{IsOwn, IsOwnFrame}

module _ (foreign : ℕ → Bool) (zero_own : foreign 0 ≡ false) where
  abbrev Own : CType → Type 0
  Own t = IsOwn foreign t

  pub own_if : (c : Bool) (s t : CType) → Own s → Own t → Own (if c then s else t)
  own_if true s t h k = h
  own_if false s t h k = k

  own_lacking : (t : CType) → Own (lacking t)
  own_lacking t = own_if (is_unknown t) unknown arithmetic zero_own zero_own

  pub own_target : (t : CType) → Own t → Own (target_of t)
  own_target t h = own_if (is_pointing t) (inner_of t) (lacking t) h (own_lacking t)

  pub own_adjusted : (t : CType) → Own t → Own (adjusted t)
  own_adjusted t h = own_if (is_array t) (pointer (inner_of t)) (if is_function t then pointer t else t) h (own_if (is_function t) (pointer t) t h h)

  own_subscripted : (s t : CType) → Own s → Own t → Own (subscripted s t)
  own_subscripted s t h k =
      own_if (is_pointing s || (is_unknown s && not (is_pointing t))) (target_of s) (target_of t) (own_target s h) (own_target t k)

  own_result : (t : CType) → Own t → Own (result_of t)
  own_result t h = own_if (is_function t) (inner_of t) (lacking t) h (own_lacking t)

  pub own_called : (t : CType) → Own t → Own (called t)
  own_called t h = own_if (begins_pointer t.derivations) (result_of (inner_of t)) (result_of t) (own_result (inner_of t) h) (own_result t h)

  own_pointed : (t : CType) → Own t → Own (pointed_to t)
  own_pointed t h = own_if (is_function t) t (target_of t) h (own_target t h)

  own_sum : (minus : Bool) (s t : CType) → Own s → Own t → Own (sum_type minus s t)
  own_sum minus s t h k =
      own_if (is_pointing s && (is_pointing t && minus)) arithmetic (if tells_sum minus s t then s else (if is_pointing t then t else lacking t)) zero_own
      (own_if (tells_sum minus s t) s (if is_pointing t then t else lacking t) h (own_if (is_pointing t) t (lacking t) k (own_lacking t)))

  own_chosen : (s t : CType) → Own s → Own t → Own (chosen s t)
  own_chosen s t h k = own_if (tells_members s || (is_unknown s && not (tells_members t))) s t h k

  pub own_suffixed : (t : CType) (f : Forest) → Own t → Own (suffixed t f)
  own_suffixed t none h = h
  own_suffixed t (token i rest) h = own_suffixed t rest h
  own_suffixed t (node l first under rest) h =
      let more : Own (suffixed t rest) = own_suffixed t rest h in
      own_if (is_node l Suffix) (if l.alternative == 1 then array (suffixed t rest) else function (suffixed t rest)) (suffixed t rest)
      (own_if (l.alternative == 1) (array (suffixed t rest)) (function (suffixed t rest)) more more) more

  pub own_declarator : (t : CType) (f : Forest) → Own t → Own (declarator_type t f)
  own_declarator t none h = h
  own_declarator t (token i rest) h = own_declarator t rest h
  own_declarator t (node l first under rest) h =
      let last : CType = if is_aside l then declarator_type t rest else declarator_type (suffixed t rest) under in
      own_if (is_node l Pointer) (declarator_type (pointer t) rest) (if is_node l Suffix then suffixed t (node l first under rest) else last)
      (own_declarator (pointer t) rest h)
      (own_if (is_node l Suffix) (suffixed t (node l first under rest)) last (own_suffixed t (node l first under rest) h)
      (own_if (is_aside l) (declarator_type t rest) (declarator_type (suffixed t rest) under) (own_declarator t rest h)
      (own_declarator (suffixed t rest) under (own_suffixed t rest h))))

  base_own : (b : Base) (e : ℕ) → foreign (base_number b) ≡ false → foreign e ≡ false → foreign (base_number (base_renumbered b e)) ≡ false
  base_own (Structure n) e h k = k
  base_own (Union n) e h k = k
  base_own (Enumeration n) e h k = k
  base_own Arithmetic e h k = h
  base_own Nothing e h k = h
  base_own Unknown e h k = h

  pub own_renumbered : (t : CType) (e : ℕ) → Own t → foreign e ≡ false → Own (renumbered t e)
  own_renumbered t e h k = base_own t.base e h k

  -- ---- What a node has once a child is read

  module _ (toks : List Token) (f : Frame) (l : Label) (under : Forest) (child : Frame) (h : IsOwnFrame foreign f) (k : Own child.found) where
    own_child : (p : Production) → Own (if is_node l p then child.found else f.found)
    own_child p = own_if (is_node l p) child.found f.found k h.found

    own_prefixed : (sign : ℕ) (t : CType) → Own t → Own (prefixed toks sign t)
    own_prefixed sign t o =
        own_if (is_sign toks sign (codes "++") || is_sign toks sign (codes "--")) t
        (if is_sign toks sign (codes "&") then pointer t else (if is_sign toks sign (codes "*") then pointed_to t else arithmetic)) o
        (own_if (is_sign toks sign (codes "&")) (pointer t) (if is_sign toks sign (codes "*") then pointed_to t else arithmetic) o
        (own_if (is_sign toks sign (codes "*")) (pointed_to t) arithmetic (own_pointed t o) zero_own))

    pub own_after : (p : Production) → Own (found_after toks p f l under child)
    own_after Expr = k
    own_after Assign = own_if (f.nth == 0) child.found f.found k h.found
    own_after Cond =
        own_if (f.nth == 2) child.found (if f.nth == 4 then chosen f.found child.found else f.found) k
        (own_if (f.nth == 4) (chosen f.found child.found) f.found (own_chosen f.found child.found h.found k) h.found)
    own_after Add =
        own_if (f.nth == 0) child.found (sum_type (is_sign toks f.token (codes "-")) f.found child.found) k
        (own_sum (is_sign toks f.token (codes "-")) f.found child.found h.found k)
    own_after Cast = own_if (is_node l TypeName || is_at l CastRest 1) child.found f.found k h.found
    own_after Unary =
        own_if (f.label.alternative == 1) (prefixed toks f.token child.found) (if f.label.alternative == 2 then arithmetic else child.found)
        (own_prefixed f.token child.found k) (own_if (f.label.alternative == 2) arithmetic child.found zero_own k)
    own_after CastRest = own_child Post
    own_after SizeRest = own_child TypeName
    own_after SizeLit = own_child Post
    own_after Primary = k
    own_after Post =
        own_if (f.label.alternative == 1) (subscripted f.given child.found) f.found (own_subscripted f.given child.found h.given k) h.found
    own_after TypeName = own_if (is_node l Specs) child.found (declarator_type f.found under) k (own_declarator f.found under h.found)
    own_after Specs = own_child Main
    own_after Main = own_if (is_at l Word 1) nothing (if is_node l StructSpec then child.found else f.found) zero_own (own_child StructSpec)
    own_after StructSpec = k
    own_after ExtRest = own_if (is_node l Declarator) (declarator_type f.base under) f.found (own_declarator f.base under h.base) h.found
    own_after InitDecl = own_if (is_node l Declarator) (declarator_type f.base under) f.found (own_declarator f.base under h.base) h.found
    own_after Init = k
    own_after InitItem = own_child Designator
    own_after _ = h.found
