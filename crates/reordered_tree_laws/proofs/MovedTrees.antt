-- What declarations see of the children of a node that is moved: the same, with the tokens at their new places.
use Rattle.std.proofs.Common.{ℕ, ◌+◌, ◌<◌, ◌≤◌, ◌≡◌, Bool, true, false, ◌&&◌, ◌||◌, if◌then◌else◌, ◌==◌, List, Option, None, Some, inl, inr, refl, sym, ap, subst, ◌∙◌, arith}
use Rattle.std.specs.Option.{option_map, option_or}
use Rattle.std.proofs.lemmas.Bool.{cases_Bool, eqb-true, eqb-false, ltb-true, ltb-false}
use Rattle.std.specs.Prelude.{nat_lt}
use Rattle.cs_base.specs.Token.{Token}
use Rattle.c99_tree.specs.Tree.{Forest, none, token, node}
use Rattle.c99_tree.specs.declared.production.Label.{Label}
use Rattle.c99_tree.specs.declared.production.Production.{Production}
use Rattle.c99_tree.specs.declared.production.Production.TheVariants.{Main, StructSpec, Pointer, Suffix, Mod, SuRest}
use Rattle.c_types.specs.declared.frames.Words.{Words}
use Rattle.c_types.specs.Types.{CType, pointer, array, function}
use Rattle.c_types.specs.Trees.{is_node, is_at, is_list, last_token, first_token, has_node, has_mod, has_at, has_untagged, is_anonymous, words_of, is_one, is_lone_main, is_bare, holds_name, has_name, name_below, suffixed, is_aside, declarator_type, first_list, is_text}
use Rattle.tree_laws.specs.TreesOfTexts.{token_count, AreFrom}
use Rattle.reordered_tree_laws.specs.Reordered.{numbered}
use Rattle.reordered_tree_laws.specs.Seen.{are_parts}
use Rattle.scope_bind.specs.Moved.{AreMovedTexts}
use Rattle.reordered_tree_laws.specs.Moving.{AreMovedTo}

-- The second children are those of the first, as far as declarations see them, with tokens at their new places; the first
-- list is asked for only where it is known.
pub record AreSeenMoved (m : ℕ → ℕ) (outer : Bool) (f g : Forest) : Type 0 where
  pub last : (x y : ℕ) → y ≡ m x → last_token g y ≡ m (last_token f x)
  pub first : (x y : ℕ) → y ≡ m x → first_token g y ≡ m (first_token f x)
  pub named : (l : Label) → name_below l g ≡ option_map m (name_below l f)
  pub words : words_of g ≡ words_of f
  pub bare : is_bare g ≡ is_bare f
  pub nodes : (p : Production) → has_node p g ≡ has_node p f
  pub text : is_text g ≡ is_text f
  pub typed : are_parts f ≡ true → (t : CType) → declarator_type t g ≡ declarator_type t f
  pub lists : outer ≡ true → first_list g ≡ option_map m (first_list f)

-- So many tokens from one place are those from another place on.
pub record AreSpans (m : ℕ → ℕ) (lo there count : ℕ) : Type 0 where
  pub over : (k : ℕ) → lo ≤ k → k < lo + count → (there ≤ m k) × (m k < there + count)
  pub back : (k : ℕ) → there ≤ m k → m k < there + count → (lo ≤ k) × (k < lo + count)

module _ (m : ℕ → ℕ) where
  option_if : (c : Bool) (a b x y : Option ℕ) → x ≡ option_map m a → y ≡ option_map m b → (if c then x else y) ≡ option_map m (if c then a else b)
  option_if true a b x y h k = h
  option_if false a b x y h k = k

  some_or : (a b x y : Option ℕ) → x ≡ option_map m a → y ≡ option_map m b → option_or x y ≡ option_map m (option_or a b)
  some_or None b x y h k = ap (λ z. option_or z y) h ∙ k
  some_or (Some a) b x y h k = ap (λ z. option_or z y) h

  -- ---- Tokens

  last_moved : (f : Forest) (there x y : ℕ) → AreMovedTo m there f → y ≡ m x → last_token (numbered there f) y ≡ m (last_token f x)
  last_moved none there x y w e = e
  last_moved (token i rest) there x y w e = last_moved rest (there + 1) i there w.1 (sym w.0)
  last_moved (node l first under rest) there x y w e =
      last_moved rest (there + token_count under) (last_token under x) (last_token (numbered there under) y) w.1 (last_moved under there x y w.0 e)

  first_moved : (f : Forest) (there x y : ℕ) → AreMovedTo m there f → y ≡ m x → first_token (numbered there f) y ≡ m (first_token f x)
  first_moved none there x y w e = e
  first_moved (token i rest) there x y w e = sym w.0
  first_moved (node l first under rest) there x y w e = first_moved rest (there + token_count under) x y w.1 e

  named_moved : (l : Label) (f : Forest) (there : ℕ) → AreMovedTo m there f → name_below l (numbered there f) ≡ option_map m (name_below l f)
  named_moved l none there w = refl
  named_moved l (token i rest) there w =
      option_if (has_name l) (Some i) (name_below l rest) (Some there) (name_below l (numbered (there + 1) rest)) (ap (λ (k : ℕ). Some k) (sym w.0))
      (named_moved l rest (there + 1) w.1)
  named_moved l (node n first under rest) there w =
      option_if (holds_name n.production) (name_below n under) (name_below l rest) (name_below n (numbered there under))
      (name_below l (numbered (there + token_count under) rest)) (named_moved n under there w.0) (named_moved l rest (there + token_count under) w.1)

  lists_moved : m 0 ≡ 0 → (f : Forest) (there : ℕ) → AreMovedTo m there f → first_list (numbered there f) ≡ option_map m (first_list f)
  lists_moved zero none there w = refl
  lists_moved zero (token i rest) there w = lists_moved zero rest (there + 1) w.1
  lists_moved zero (node l first under rest) there w =
      option_if (is_list l) (Some (last_token under 0)) (option_or (first_list under) (first_list rest)) (Some (last_token (numbered there under) 0))
      (option_or (first_list (numbered there under)) (first_list (numbered (there + token_count under) rest)))
      (ap (λ (k : ℕ). Some k) (last_moved under there 0 0 w.0 (sym zero)))
      (some_or (first_list under) (first_list rest) (first_list (numbered there under)) (first_list (numbered (there + token_count under) rest))
      (lists_moved zero under there w.0) (lists_moved zero rest (there + token_count under) w.1))

-- ---- What has no tokens in it

nodes_same : (p : Production) (f : Forest) (k : ℕ) → has_node p (numbered k f) ≡ has_node p f
nodes_same p none k = refl
nodes_same p (token i rest) k = nodes_same p rest (k + 1)
nodes_same p (node l first under rest) k = ap (λ b. is_node l p || b) (nodes_same p rest (k + token_count under))

at_same : (p : Production) (n : ℕ) (f : Forest) (k : ℕ) → has_at p n (numbered k f) ≡ has_at p n f
at_same p n none k = refl
at_same p n (token i rest) k = at_same p n rest (k + 1)
at_same p n (node l first under rest) k = ap (λ b. is_at l p n || b) (at_same p n rest (k + token_count under))

mod_same : (n : ℕ) (f : Forest) (k : ℕ) → has_mod n (numbered k f) ≡ has_mod n f
mod_same n none k = refl
mod_same n (token i rest) k = mod_same n rest (k + 1)
mod_same n (node l first under rest) k =
    ap (λ b. is_at l Mod n || ((is_node l Main && b) || has_mod n (numbered (k + token_count under) rest))) (mod_same n under k)
    ∙ ap (λ b. is_at l Mod n || ((is_node l Main && has_mod n under) || b)) (mod_same n rest (k + token_count under))

untagged_same : (f : Forest) (k : ℕ) → has_untagged (numbered k f) ≡ has_untagged f
untagged_same none k = refl
untagged_same (token i rest) k = untagged_same rest (k + 1)
untagged_same (node l first under rest) k =
    ap (λ b. (is_node l StructSpec && b) || has_untagged (numbered (k + token_count under) rest)) (at_same SuRest 2 under k)
    ∙ ap (λ b. (is_node l StructSpec && has_at SuRest 2 under) || b) (untagged_same rest (k + token_count under))

anonymous_same : (f : Forest) (k : ℕ) → is_anonymous (numbered k f) ≡ is_anonymous f
anonymous_same none k = refl
anonymous_same (token i rest) k = anonymous_same rest (k + 1)
anonymous_same (node l first under rest) k =
    ap (λ b. (is_node l Main && b) || is_anonymous (numbered (k + token_count under) rest)) (untagged_same under k)
    ∙ ap (λ b. (is_node l Main && has_untagged under) || b) (anonymous_same rest (k + token_count under))

words_same : (f : Forest) (k : ℕ) → words_of (numbered k f) ≡ words_of f
words_same f k =
    let made : Bool → Bool → Bool → Bool → Bool → Bool → Words =
    λ a b c d e x. record { has_typedef = a; has_extern = b; has_static = c; has_any = a || (b || (c || (d || e))); anonymous = x } in
    let g : Forest = numbered k f in
    ap (λ a. made a (has_mod 2 g) (has_mod 3 g) (has_mod 4 g) (has_mod 5 g) (is_anonymous g)) (mod_same 1 f k)
    ∙ (ap (λ b. made (has_mod 1 f) b (has_mod 3 g) (has_mod 4 g) (has_mod 5 g) (is_anonymous g)) (mod_same 2 f k)
    ∙ (ap (λ c. made (has_mod 1 f) (has_mod 2 f) c (has_mod 4 g) (has_mod 5 g) (is_anonymous g)) (mod_same 3 f k)
    ∙ (ap (λ d. made (has_mod 1 f) (has_mod 2 f) (has_mod 3 f) d (has_mod 5 g) (is_anonymous g)) (mod_same 4 f k)
    ∙ (ap (λ e. made (has_mod 1 f) (has_mod 2 f) (has_mod 3 f) (has_mod 4 f) e (is_anonymous g)) (mod_same 5 f k)
    ∙ ap (λ x. made (has_mod 1 f) (has_mod 2 f) (has_mod 3 f) (has_mod 4 f) (has_mod 5 f) x) (anonymous_same f k)))))

one_same : (f : Forest) (k : ℕ) → is_one (numbered k f) ≡ is_one f
one_same none k = refl
one_same (token i rest) k = refl
one_same (node l first under none) k = refl
one_same (node l first under (token i rest)) k = refl
one_same (node l first under (node n second below rest)) k = refl

lone_same : (f : Forest) (k : ℕ) → is_lone_main (numbered k f) ≡ is_lone_main f
lone_same none k = refl
lone_same (token i rest) k = refl
lone_same (node l first under none) k = one_same under k
lone_same (node l first under (token i rest)) k = refl
lone_same (node l first under (node n second below rest)) k = refl

bare_same : (f : Forest) (k : ℕ) → is_bare (numbered k f) ≡ is_bare f
bare_same none k = refl
bare_same (token i rest) k = refl
bare_same (node l first specs none) k = refl
bare_same (node l first specs (token i rest)) k = refl
bare_same (node l first specs (node n second rest none)) k = ap (λ b. (n.alternative == 1) && b) (lone_same specs k)
bare_same (node l first specs (node n second rest (token i more))) k = refl
bare_same (node l first specs (node n second rest (node q third below more))) k = refl

text_same : (f : Forest) (k : ℕ) → is_text (numbered k f) ≡ is_text f
text_same none k = refl
text_same (token i rest) k = refl
text_same (node l first under none) k = refl
text_same (node l first under (token i rest)) k = refl
text_same (node l first under (node n second below rest)) k = refl

suffixed_same : (t : CType) (f : Forest) (k : ℕ) → suffixed t (numbered k f) ≡ suffixed t f
suffixed_same t none k = refl
suffixed_same t (token i rest) k = suffixed_same t rest (k + 1)
suffixed_same t (node l first under rest) k =
    ap (λ x. if is_node l Suffix then (if l.alternative == 1 then array x else function x) else x) (suffixed_same t rest (k + token_count under))

if_same : {A : Type 0} (c : Bool) (x x' y y' : A) → x ≡ x' → y ≡ y' → (if c then x else y) ≡ (if c then x' else y')
if_same true x x' y y' f g = f
if_same false x x' y y' f g = g

pub typed_same : (t : CType) (f : Forest) (k : ℕ) → declarator_type t (numbered k f) ≡ declarator_type t f
typed_same t none k = refl
typed_same t (token i rest) k = typed_same t rest (k + 1)
typed_same t (node l first under rest) k =
    let rest' : Forest = numbered (k + token_count under) rest in
    let under' : Forest = numbered k under in
    if_same (is_node l Pointer) (declarator_type (pointer t) rest') (declarator_type (pointer t) rest)
    (if is_node l Suffix then suffixed t (node l k under' rest') else (if is_aside l then declarator_type t rest' else declarator_type (suffixed t rest') under'))
    (if is_node l Suffix then suffixed t (node l first under rest) else (if is_aside l then declarator_type t rest else declarator_type (suffixed t rest) under))
    (typed_same (pointer t) rest (k + token_count under))
    (if_same (is_node l Suffix) (suffixed t (node l k under' rest')) (suffixed t (node l first under rest))
    (if is_aside l then declarator_type t rest' else declarator_type (suffixed t rest') under')
    (if is_aside l then declarator_type t rest else declarator_type (suffixed t rest) under) (suffixed_same t (node l first under rest) k)
    (if_same (is_aside l) (declarator_type t rest') (declarator_type t rest) (declarator_type (suffixed t rest') under') (declarator_type (suffixed t rest) under)
    (typed_same t rest (k + token_count under))
    (typed_same (suffixed t rest') under k ∙ ap (λ s. declarator_type s under) (suffixed_same t rest (k + token_count under)))))

pub seen_numbered : (m : ℕ → ℕ) → m 0 ≡ 0 → (f : Forest) (there : ℕ) → AreMovedTo m there f → AreSeenMoved m true f (numbered there f)
seen_numbered m zero f there w = record {
  last = λ x y. last_moved m f there x y w;
  first = λ x y. first_moved m f there x y w;
  named = λ l. named_moved m l f there w;
  words = words_same f there;
  bare = bare_same f there;
  nodes = λ p. nodes_same p f there;
  text = text_same f there;
  typed = λ parts t. typed_same t f there;
  lists = λ outer. lists_moved m zero f there w;
}

-- ---- Places

module _ (m : ℕ → ℕ) (old new : List Token) (law : AreMovedTexts m old new) where
  over_moved : (f : Forest) (lo there k : ℕ) → AreFrom lo f → AreMovedTo m there f → lo ≤ k → k < lo + token_count f → (there ≤ m k) × (m k < there + token_count f)
  over_moved none lo there k a w low high = absurd (omega (arith, low, high))
  over_moved (token i rest) lo there k a w low high = elim (cases_Bool (k == lo)) [
    | inl e ↦
        let here : m k ≡ there = ap m (eqb-true k lo e) ∙ (ap m (sym a.0) ∙ w.0) in
        (omega (arith, here), omega (arith, here))
    | inr e ↦
        let more = over_moved rest (lo + 1) (there + 1) k a.1 w.1 (omega (arith, low, eqb-false k lo e)) (omega (arith, high)) in
        (omega (arith, more.0), omega (arith, more.1))
  ]
  over_moved (node l first under rest) lo there k a w low high = elim (cases_Bool (nat_lt k (lo + token_count under))) [
    | inl e ↦
        let inside = over_moved under lo there k a.1 w.0 low (ltb-true k (lo + token_count under) e) in
        (inside.0, omega (arith, inside.1))
    | inr e ↦
        let more = over_moved rest (lo + token_count under) (there + token_count under) k a.2 w.1 (ltb-false k (lo + token_count under) e) (omega (arith, high)) in
        (omega (arith, more.0), omega (arith, more.1))
  ]

  back_moved : (f : Forest) (lo there k : ℕ) → AreFrom lo f → AreMovedTo m there f → there ≤ m k → m k < there + token_count f → (lo ≤ k) × (k < lo + token_count f)
  back_moved none lo there k a w low high = absurd (omega (arith, low, high))
  back_moved (token i rest) lo there k a w low high = elim (cases_Bool (m k == there)) [
    | inl e ↦
        let same : k ≡ i = law.apart k i (eqb-true (m k) there e ∙ sym w.0) in
        (omega (arith, same, a.0), omega (arith, same, a.0))
    | inr e ↦
        let more = back_moved rest (lo + 1) (there + 1) k a.1 w.1 (omega (arith, low, eqb-false (m k) there e)) (omega (arith, high)) in
        (omega (arith, more.0), omega (arith, more.1))
  ]
  back_moved (node l first under rest) lo there k a w low high = elim (cases_Bool (nat_lt (m k) (there + token_count under))) [
    | inl e ↦
        let inside = back_moved under lo there k a.1 w.0 low (ltb-true (m k) (there + token_count under) e) in
        (inside.0, omega (arith, inside.1))
    | inr e ↦
        let more = back_moved rest (lo + token_count under) (there + token_count under) k a.2 w.1 (ltb-false (m k) (there + token_count under) e) (omega (arith, high)) in
        (omega (arith, more.0), omega (arith, more.1))
  ]

  pub spans_moved : (f : Forest) (lo there : ℕ) → AreFrom lo f → AreMovedTo m there f → AreSpans m lo there (token_count f)
  spans_moved f lo there a w = record { over = λ k. over_moved f lo there k a w; back = λ k. back_moved f lo there k a w }

-- the last token below some children that have one is the one before their end
last_more : (f : Forest) (lo k : ℕ) → AreFrom lo f → k + 1 ≡ lo → last_token f k + 1 ≡ lo + token_count f
last_more none lo k a e = omega (arith, e)
last_more (token i rest) lo k a e = omega (arith, last_more rest (lo + 1) i a.1 (omega (arith, a.0)))
last_more (node l first under rest) lo k a e =
    omega (arith, last_more rest (lo + token_count under) (last_token under k) a.2 (last_more under lo k a.1 e))

pub last_at : (f : Forest) (lo k : ℕ) → AreFrom lo f → 1 ≤ token_count f → last_token f k + 1 ≡ lo + token_count f
last_at none lo k a some = absurd (omega (arith, some))
last_at (token i rest) lo k a some = omega (arith, last_more rest (lo + 1) i a.1 (omega (arith, a.0)))
last_at (node l first under rest) lo k a some = elim (cases_Bool (nat_lt 0 (token_count under))) [
  | inl e ↦ omega (arith, last_more rest (lo + token_count under) (last_token under k) a.2 (last_at under lo k a.1 (ltb-true 0 (token_count under) e)))
  | inr e ↦
      let empty : token_count under ≡ 0 = omega (arith, ltb-false 0 (token_count under) e) in
      let a' : AreFrom lo rest = subst (λ (n : ℕ). AreFrom n rest) (omega (arith, empty)) a.2 in
      omega (arith, empty, last_at rest lo (last_token under k) a' (omega (arith, some, empty)))
]
