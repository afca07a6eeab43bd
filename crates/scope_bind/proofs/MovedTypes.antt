-- Types of moved structures: what is made of them is moved along.
use Rattle.std.proofs.Common.{ℕ, ◌≡◌, Bool, true, false, ◌&&◌, ◌||◌, not, if◌then◌else◌, ◌==◌, List, Option, refl, sym, ap, ◌∙◌}
use Rattle.std.specs.Prelude.{codes}
use Rattle.std.specs.Str.{bytes_eq}
use Rattle.std.proofs.lemmas.Bool.{false≢true}
use Rattle.cs_base.specs.Token.{Token}
use Rattle.c99_tree.specs.Tree.{Forest, none, token, node}
use Rattle.c99_tree.specs.declared.production.Label.{Label}
use Rattle.c99_tree.specs.declared.production.Production.{Production}
use Rattle.c99_tree.specs.declared.production.Production.TheVariants.{Expr, Assign, Cond, Add, Cast, CastRest, Unary, SizeRest, SizeLit, Primary, Post, TypeName, Specs, Main, StructSpec, Word, ExtRest, InitDecl, Declarator, Init, InitItem, Designator, Pointer, Suffix}
use Rattle.c_types.specs.declared.types.Base.{Base}
use Rattle.c_types.specs.declared.types.Base.TheVariants.{Arithmetic, Nothing, Structure, Union, Enumeration, Unknown}
use Rattle.c_types.specs.Types.{CType, arithmetic, nothing, unknown, pointer, array, function, inner_of, lacking, target_of, adjusted, subscripted, result_of, called, pointed_to, tells_sum, sum_type, points_to_something, tells_members, chosen, is_pointing, is_array, is_function, begins_pointer, is_record, is_nothing, is_arithmetic, is_unknown, is_plain, is_record_base, is_nothing_base, is_arithmetic_base, is_unknown_base}
use Rattle.c_types.specs.Tags.{base_renumbered, renumbered, is_base_sort, is_sort}
use Rattle.c_types.specs.Trees.{is_node, is_at, is_aside, suffixed, declarator_type}
use Rattle.c_types.specs.Declarations.{spelling_at}
use Rattle.name_chains.specs.Initializers.{is_union_base}
use Rattle.scope_bind.specs.Named.{Frame}
use Rattle.scope_bind.specs.Expressions.{is_sign, prefixed, found_after}
use Rattle.scope_bind.specs.Moved.{moved_base, moved_type, moved_frame, AreMovedTexts}

module _ (m : ℕ → ℕ) where
  abbrev Goes : CType → CType
  Goes t = moved_type m t

  pub type_if : (c : Bool) (s t u v : CType) → u ≡ Goes s → v ≡ Goes t → (if c then u else v) ≡ Goes (if c then s else t)
  type_if true s t u v h k = h
  type_if false s t u v h k = k

  pub type_when : (c : Bool) (s t u v : CType) → (c ≡ true → u ≡ Goes s) → (c ≡ false → v ≡ Goes t) → (if c then u else v) ≡ Goes (if c then s else t)
  type_when true s t u v h k = h refl
  type_when false s t u v h k = k refl

  -- ---- What a type is

  pub record_same : (t : CType) → is_record (Goes t) ≡ is_record t
  record_same t = ap (λ b. is_plain t && b) (by t.base)
    where
      by : (b : Base) → is_record_base (moved_base m b) ≡ is_record_base b
      by (Structure n) = refl
      by (Union n) = refl
      by (Enumeration n) = refl
      by Arithmetic = refl
      by Nothing = refl
      by Unknown = refl

  pub nothing_same : (t : CType) → is_nothing (Goes t) ≡ is_nothing t
  nothing_same t = ap (λ b. is_plain t && b) (by t.base)
    where
      by : (b : Base) → is_nothing_base (moved_base m b) ≡ is_nothing_base b
      by (Structure n) = refl
      by (Union n) = refl
      by (Enumeration n) = refl
      by Arithmetic = refl
      by Nothing = refl
      by Unknown = refl

  pub arithmetic_same : (t : CType) → is_arithmetic (Goes t) ≡ is_arithmetic t
  arithmetic_same t = ap (λ b. is_plain t && b) (by t.base)
    where
      by : (b : Base) → is_arithmetic_base (moved_base m b) ≡ is_arithmetic_base b
      by (Structure n) = refl
      by (Union n) = refl
      by (Enumeration n) = refl
      by Arithmetic = refl
      by Nothing = refl
      by Unknown = refl

  pub unknown_same : (t : CType) → is_unknown (Goes t) ≡ is_unknown t
  unknown_same t = ap (λ b. is_plain t && b) (by t.base)
    where
      by : (b : Base) → is_unknown_base (moved_base m b) ≡ is_unknown_base b
      by (Structure n) = refl
      by (Union n) = refl
      by (Enumeration n) = refl
      by Arithmetic = refl
      by Nothing = refl
      by Unknown = refl

  pub union_same : (b : Base) → is_union_base (moved_base m b) ≡ is_union_base b
  union_same (Structure n) = refl
  union_same (Union n) = refl
  union_same (Enumeration n) = refl
  union_same Arithmetic = refl
  union_same Nothing = refl
  union_same Unknown = refl

  pub sort_same : (s t : CType) → is_sort (Goes s) (Goes t) ≡ is_sort s t
  sort_same s t = by s.base t.base
    where
      by : (a b : Base) → is_base_sort (moved_base m a) (moved_base m b) ≡ is_base_sort a b
      by (Structure n) (Structure k) = refl
      by (Structure n) (Union k) = refl
      by (Structure n) (Enumeration k) = refl
      by (Structure n) Arithmetic = refl
      by (Structure n) Nothing = refl
      by (Structure n) Unknown = refl
      by (Union n) (Structure k) = refl
      by (Union n) (Union k) = refl
      by (Union n) (Enumeration k) = refl
      by (Union n) Arithmetic = refl
      by (Union n) Nothing = refl
      by (Union n) Unknown = refl
      by (Enumeration n) (Structure k) = refl
      by (Enumeration n) (Union k) = refl
      by (Enumeration n) (Enumeration k) = refl
      by (Enumeration n) Arithmetic = refl
      by (Enumeration n) Nothing = refl
      by (Enumeration n) Unknown = refl
      by Arithmetic b = refl
      by Nothing b = refl
      by Unknown b = refl

  -- ---- What a type gives

  lacking_moved : (t : CType) → lacking (Goes t) ≡ Goes (lacking t)
  lacking_moved t =
      ap (λ c. if c then unknown else arithmetic) (unknown_same t) ∙ type_if (is_unknown t) unknown arithmetic unknown arithmetic refl refl

  pub target_moved : (t : CType) → target_of (Goes t) ≡ Goes (target_of t)
  target_moved t = type_if (is_pointing t) (inner_of t) (lacking t) (inner_of (Goes t)) (lacking (Goes t)) refl (lacking_moved t)

  pub adjusted_moved : (t : CType) → adjusted (Goes t) ≡ Goes (adjusted t)
  adjusted_moved t =
      type_if (is_array t) (pointer (inner_of t)) (if is_function t then pointer t else t) (pointer (inner_of (Goes t)))
      (if is_function t then pointer (Goes t) else Goes t) refl
      (type_if (is_function t) (pointer t) t (pointer (Goes t)) (Goes t) refl refl)

  pub subscripted_moved : (s t : CType) → subscripted (Goes s) (Goes t) ≡ Goes (subscripted s t)
  subscripted_moved s t =
      ap (λ c. if is_pointing s || (c && not (is_pointing t)) then target_of (Goes s) else target_of (Goes t)) (unknown_same s)
      ∙ type_if (is_pointing s || (is_unknown s && not (is_pointing t))) (target_of s) (target_of t) (target_of (Goes s)) (target_of (Goes t))
      (target_moved s) (target_moved t)

  result_moved : (t : CType) → result_of (Goes t) ≡ Goes (result_of t)
  result_moved t = type_if (is_function t) (inner_of t) (lacking t) (inner_of (Goes t)) (lacking (Goes t)) refl (lacking_moved t)

  pub called_moved : (t : CType) → called (Goes t) ≡ Goes (called t)
  called_moved t =
      type_if (begins_pointer t.derivations) (result_of (inner_of t)) (result_of t) (result_of (inner_of (Goes t))) (result_of (Goes t))
      (result_moved (inner_of t)) (result_moved t)

  pointed_moved : (t : CType) → pointed_to (Goes t) ≡ Goes (pointed_to t)
  pointed_moved t = type_if (is_function t) t (target_of t) (Goes t) (target_of (Goes t)) refl (target_moved t)

  sum_moved : (minus : Bool) (s t : CType) → sum_type minus (Goes s) (Goes t) ≡ Goes (sum_type minus s t)
  sum_moved minus s t =
      let both : Bool = is_pointing s && (is_pointing t && minus) in
      let right : CType = if is_pointing t then t else lacking t in
      let moved : CType = if is_pointing t then Goes t else lacking (Goes t) in
      ap (λ c. if both then arithmetic else (if is_pointing s || (c && not (is_pointing t && not minus)) then Goes s else moved)) (unknown_same s)
      ∙ type_if both arithmetic (if tells_sum minus s t then s else right) arithmetic (if tells_sum minus s t then Goes s else moved) refl
      (type_if (tells_sum minus s t) s right (Goes s) moved refl
      (type_if (is_pointing t) t (lacking t) (Goes t) (lacking (Goes t)) refl (lacking_moved t)))

  points_same : (t : CType) → points_to_something (Goes t) ≡ points_to_something t
  points_same t = ap (λ c. is_pointing t && not c) (ap is_nothing (target_moved t) ∙ nothing_same (target_of t))

  tells_same : (t : CType) → tells_members (Goes t) ≡ tells_members t
  tells_same t = ap (λ c. c || points_to_something (Goes t)) (record_same t) ∙ ap (λ c. is_record t || c) (points_same t)

  chosen_moved : (s t : CType) → chosen (Goes s) (Goes t) ≡ Goes (chosen s t)
  chosen_moved s t =
      ap (λ c. if c || (is_unknown (Goes s) && not (tells_members (Goes t))) then Goes s else Goes t) (tells_same s)
      ∙ (ap (λ c. if tells_members s || (c && not (tells_members (Goes t))) then Goes s else Goes t) (unknown_same s)
      ∙ (ap (λ c. if tells_members s || (is_unknown s && not c) then Goes s else Goes t) (tells_same t)
      ∙ type_if (tells_members s || (is_unknown s && not (tells_members t))) s t (Goes s) (Goes t) refl refl))

  suffixed_moved : (t : CType) (f : Forest) → suffixed (Goes t) f ≡ Goes (suffixed t f)
  suffixed_moved t none = refl
  suffixed_moved t (token i rest) = suffixed_moved t rest
  suffixed_moved t (node l first under rest) =
      let more : suffixed (Goes t) rest ≡ Goes (suffixed t rest) = suffixed_moved t rest in
      type_if (is_node l Suffix) (if l.alternative == 1 then array (suffixed t rest) else function (suffixed t rest)) (suffixed t rest)
      (if l.alternative == 1 then array (suffixed (Goes t) rest) else function (suffixed (Goes t) rest)) (suffixed (Goes t) rest)
      (type_if (l.alternative == 1) (array (suffixed t rest)) (function (suffixed t rest)) (array (suffixed (Goes t) rest)) (function (suffixed (Goes t) rest))
      (ap array more) (ap function more)) more

  pub declarator_moved : (t : CType) (f : Forest) → declarator_type (Goes t) f ≡ Goes (declarator_type t f)
  declarator_moved t none = refl
  declarator_moved t (token i rest) = declarator_moved t rest
  declarator_moved t (node l first under rest) =
      let last : CType = if is_aside l then declarator_type t rest else declarator_type (suffixed t rest) under in
      let moved : CType = if is_aside l then declarator_type (Goes t) rest else declarator_type (suffixed (Goes t) rest) under in
      type_if (is_node l Pointer) (declarator_type (pointer t) rest)
      (if is_node l Suffix then suffixed t (node l first under rest) else last)
      (declarator_type (pointer (Goes t)) rest)
      (if is_node l Suffix then suffixed (Goes t) (node l first under rest) else moved)
      (declarator_moved (pointer t) rest)
      (type_if (is_node l Suffix) (suffixed t (node l first under rest)) last (suffixed (Goes t) (node l first under rest)) moved
      (suffixed_moved t (node l first under rest))
      (type_if (is_aside l) (declarator_type t rest) (declarator_type (suffixed t rest) under) (declarator_type (Goes t) rest)
      (declarator_type (suffixed (Goes t) rest) under) (declarator_moved t rest)
      (ap (λ x. declarator_type x under) (suffixed_moved t rest) ∙ declarator_moved (suffixed t rest) under)))

  pub renumbered_moved : (t : CType) (e : ℕ) → renumbered (Goes t) (m e) ≡ Goes (renumbered t e)
  renumbered_moved t e = ap (λ (b : Base). record { base = b; derivations = t.derivations }) (by t.base)
    where
      by : (b : Base) → base_renumbered (moved_base m b) (m e) ≡ moved_base m (base_renumbered b e)
      by (Structure n) = refl
      by (Union n) = refl
      by (Enumeration n) = refl
      by Arithmetic = refl
      by Nothing = refl
      by Unknown = refl

-- a type name
abbrev pub is_type_name : Production → Bool
is_type_name TypeName = true
is_type_name _ = false

-- a node of the production asks for the token in front of a child
abbrev pub asks_front : Production → ℕ → ℕ → Bool
asks_front Unary a k = a == 1
asks_front Add a k = not (k == 0)
asks_front _ a k = false

module _ (m : ℕ → ℕ) (old new : List Token) (law : AreMovedTexts m old new) where
  pub sign_moved : (t i : ℕ) (text : List ℕ) → t ≡ m i → is_sign new t text ≡ is_sign old i text
  sign_moved t i text e = ap (λ k. bytes_eq (spelling_at new k) text) e ∙ ap (λ x. bytes_eq x text) (law.spelled i)

  prefixed_moved : (t i : ℕ) (s : CType) → t ≡ m i → prefixed new t (moved_type m s) ≡ moved_type m (prefixed old i s)
  prefixed_moved t i s e =
      let plus : Bool = is_sign old i (codes "++") in
      let minus : Bool = is_sign old i (codes "--") in
      let address : Bool = is_sign old i (codes "&") in
      let star : Bool = is_sign old i (codes "*") in
      let u : CType = moved_type m s in
      let last : CType → CType = λ (x : CType). if is_sign new t (codes "*") then pointed_to x else arithmetic in
      ap (λ c. if c || is_sign new t (codes "--") then u else (if is_sign new t (codes "&") then pointer u else last u)) (sign_moved t i (codes "++") e)
      ∙ (ap (λ c. if plus || c then u else (if is_sign new t (codes "&") then pointer u else last u)) (sign_moved t i (codes "--") e)
      ∙ (ap (λ c. if plus || minus then u else (if c then pointer u else last u)) (sign_moved t i (codes "&") e)
      ∙ (ap (λ c. if plus || minus then u else (if address then pointer u else (if c then pointed_to u else arithmetic))) (sign_moved t i (codes "*") e)
      ∙ type_if m (plus || minus) s (if address then pointer s else (if star then pointed_to s else arithmetic)) u
      (if address then pointer u else (if star then pointed_to u else arithmetic)) refl
      (type_if m address (pointer s) (if star then pointed_to s else arithmetic) (pointer u) (if star then pointed_to u else arithmetic) refl
      (type_if m star (pointed_to s) arithmetic (pointed_to u) arithmetic (pointed_moved m s) refl)))))

  not_zero : (c : Bool) → c ≡ false → not c ≡ true
  not_zero true e = absurd (false≢true (sym e))
  not_zero false e = refl

  or_first : (a b c : Bool) → a ≡ true → ((a || b) || c) ≡ true
  or_first true b c e = refl
  or_first false b c e = absurd (false≢true e)

  -- ---- What a node has once a child is read

  module _ (token to : ℕ) (kept : Option ℕ) (f : Frame) (l : Label) (under over : Forest) (child heir : Frame)
      (heirs : heir.found ≡ moved_type m child.found) where
    abbrev g : Frame
    g = moved_frame m token to kept f

    child_moved : (c : Bool) → (if c then heir.found else g.found) ≡ moved_type m (if c then child.found else f.found)
    child_moved c = type_if m c child.found f.found heir.found g.found heirs refl

    abbrev Fronts : Production → Type 0
    Fronts p = asks_front p f.label.alternative f.nth ≡ true → token ≡ m f.token

    abbrev Typed : Bool → Type 0
    Typed c = c ≡ true → (t : CType) → declarator_type t over ≡ declarator_type t under

    declared_moved : (t : CType) → ((u : CType) → declarator_type u over ≡ declarator_type u under) → declarator_type (moved_type m t) over ≡ moved_type m (declarator_type t under)
    declared_moved t same = same (moved_type m t) ∙ declarator_moved m t under

    declarator_after : Typed (is_node l Declarator) → (if is_node l Declarator then declarator_type g.base over else g.found)
        ≡ moved_type m (if is_node l Declarator then declarator_type f.base under else f.found)
    declarator_after ty =
        type_when m (is_node l Declarator) (declarator_type f.base under) f.found (declarator_type g.base over) g.found
        (λ c. declared_moved f.base (ty c)) (λ c. refl)

    name_after : Typed (not (is_node l Specs)) → (if is_node l Specs then heir.found else declarator_type g.found over)
        ≡ moved_type m (if is_node l Specs then child.found else declarator_type f.found under)
    name_after ty =
        type_when m (is_node l Specs) child.found (declarator_type f.found under) heir.found (declarator_type g.found over) (λ c. heirs)
        (λ c. declared_moved f.found (ty (not_zero (is_node l Specs) c)))

    pub after_moved : (p : Production) → Fronts p → Typed (is_node l Declarator) → (is_type_name p ≡ true → Typed (not (is_node l Specs)))
        → found_after new p g l over heir ≡ moved_type m (found_after old p f l under child)
    after_moved Expr fr d ty = heirs
    after_moved Assign fr d ty = child_moved (f.nth == 0)
    after_moved Cond fr d ty =
        type_if m (f.nth == 2) child.found (if f.nth == 4 then chosen f.found child.found else f.found) heir.found
        (if f.nth == 4 then chosen g.found heir.found else g.found) heirs
        (type_if m (f.nth == 4) (chosen f.found child.found) f.found (chosen g.found heir.found) g.found
        (ap (chosen g.found) heirs ∙ chosen_moved m f.found child.found) refl)
    after_moved Add fr d ty =
        let minus : List ℕ = codes "-" in
        type_when m (f.nth == 0) child.found (sum_type (is_sign old f.token minus) f.found child.found) heir.found
        (sum_type (is_sign new token minus) g.found heir.found) (λ c. heirs)
        (λ c.
        ap (λ b. sum_type b g.found heir.found) (sign_moved token f.token minus (fr (not_zero (f.nth == 0) c)))
        ∙ (ap (sum_type (is_sign old f.token minus) g.found) heirs ∙ sum_moved m (is_sign old f.token minus) f.found child.found))
    after_moved Cast fr d ty = child_moved (is_node l TypeName || is_at l CastRest 1)
    after_moved Unary fr d ty =
        type_when m (f.label.alternative == 1) (prefixed old f.token child.found) (if f.label.alternative == 2 then arithmetic else child.found)
        (prefixed new token heir.found) (if f.label.alternative == 2 then arithmetic else heir.found)
        (λ c. ap (prefixed new token) heirs ∙ prefixed_moved token f.token child.found (fr c))
        (λ c. type_if m (f.label.alternative == 2) arithmetic child.found arithmetic heir.found refl heirs)
    after_moved CastRest fr d ty = child_moved (is_node l Post)
    after_moved SizeRest fr d ty = child_moved (is_node l TypeName)
    after_moved SizeLit fr d ty = child_moved (is_node l Post)
    after_moved Primary fr d ty = heirs
    after_moved Post fr d ty =
        type_if m (f.label.alternative == 1) (subscripted f.given child.found) f.found (subscripted g.given heir.found) g.found
        (ap (subscripted g.given) heirs ∙ subscripted_moved m f.given child.found) refl
    after_moved TypeName fr d ty = name_after (ty refl)
    after_moved Specs fr d ty = child_moved (is_node l Main)
    after_moved Main fr d ty =
        type_if m (is_at l Word 1) nothing (if is_node l StructSpec then child.found else f.found) nothing
        (if is_node l StructSpec then heir.found else g.found) refl (child_moved (is_node l StructSpec))
    after_moved StructSpec fr d ty = heirs
    after_moved ExtRest fr d ty = declarator_after d
    after_moved InitDecl fr d ty = declarator_after d
    after_moved Init fr d ty = heirs
    after_moved InitItem fr d ty = child_moved (is_node l Designator)
    after_moved _ fr d ty = refl
