-- What the binder asks of the children of a node is the same of narrowed ones.
use Rattle.std.proofs.Common.{ℕ, ◌≡◌, Bool, true, false, ◌&&◌, ◌||◌, not, if◌then◌else◌, ◌==◌, None, Some, ◌⊎◌, inl, inr, refl, sym, ap, ◌∙◌}
use Rattle.std.specs.Option.{option_or}
use Rattle.std.proofs.lemmas.Bool.{and_parts, cases_Bool, eqb-true, not-true, false≢true}
use Rattle.cs_base.proofs.OptionLemmas.{option_or-None as or_none}
use Rattle.c99_tree.specs.Tree.{Forest, none, token, node}
use Rattle.c99_tree.specs.declared.production.Label.{Label}
use Rattle.c99_tree.specs.declared.production.Production.{Production}
use Rattle.c99_tree.specs.declared.production.Production.TheVariants.{External, Declaration, Member, Mod, Main, StructSpec, SuRest, Direct, Pdirect, Suffix, Pointer, Primary, ExtRest, DeclRest, Specs, Sassert}
use Rattle.c_types.specs.Types.{CType, pointer, array, function}
use Rattle.c_types.specs.Trees.{is_node, is_at, last_token, first_token, has_node, has_mod, has_at, has_untagged, is_anonymous, words_of, is_one, is_lone_main, is_bare, holds_name, has_name, name_below, is_list, suffixed, declarator_type, is_aside, first_list, is_text}
use Rattle.tree_laws.specs.Narrowed.{number, renumbered, is_member, is_line, spread_if, narrowed}
use Rattle.tree_laws.proofs.Standing.{within, kids, is_good, is_line_body, formed, is_mdecl, is_outer_part}
use Rattle.tree_laws.proofs.StandardSteps.{labelled}
use Rattle.tree_laws.proofs.Narrowing.{narrows}

abbrev is_eq : Production → Production → Bool
is_eq p q = is_node (labelled p 0) q

-- ---- Numbers of alternatives

-- by both standards an alternative of the production has one number
abbrev pub is_steady : Production → Bool
is_steady External = false
is_steady Declaration = false
is_steady Member = false
is_steady Mod = false
is_steady _ = true

pub steady_number : (p : Production) (n : ℕ) → is_steady p ≡ true → number p n ≡ n
steady_number External n e = absurd (false≢true e)
steady_number Declaration n e = absurd (false≢true e)
steady_number Member n e = absurd (false≢true e)
steady_number Mod n e = absurd (false≢true e)
steady_number _ n e = refl

steady_eq : (p q : Production) → is_steady q ≡ true → is_steady p ≡ false → is_eq p q ≡ false
steady_eq External External s e = absurd (false≢true s)
steady_eq External _ s e = refl
steady_eq Declaration Declaration s e = absurd (false≢true s)
steady_eq Declaration _ s e = refl
steady_eq Member Member s e = absurd (false≢true s)
steady_eq Member _ s e = refl
steady_eq Mod Mod s e = absurd (false≢true s)
steady_eq Mod _ s e = refl
steady_eq _ q s e = absurd (false≢true (sym e))

-- of other productions the alternatives are as they were
at_one : (p q : Production) (n k : ℕ) → is_steady q ≡ true → (is_eq p q && (number p n == k)) ≡ (is_eq p q && (n == k))
at_one p q n k s = elim (cases_Bool (is_steady p)) [
  | inl e ↦ ap (λ m. is_eq p q && (m == k)) (steady_number p n e)
  | inr e ↦ rw (steady_eq p q s e) refl
]

pub at-same : (l : Label) (q : Production) (k : ℕ) → is_steady q ≡ true → is_at (renumbered l) q k ≡ is_at l q k
at-same l q k s = at_one l.production q l.alternative k s

-- what is asked where the production is no member is asked of no line
member_eq : (p q : Production) → is_member q ≡ false → is_member p ≡ true → is_eq p q ≡ false
member_eq Member Member e h = absurd (false≢true (sym e))
member_eq Member _ e h = refl
member_eq _ q e h = absurd (false≢true h)

no_line_or : (l : Label) (q : Production) → is_member q ≡ false → (is_line l ≡ false) ⊎ (is_node l q ≡ false)
no_line_or l q e = elim (cases_Bool (is_member l.production)) [
  | inl h ↦ inr (member_eq l.production q e h)
  | inr h ↦ inl (rw h refl)
]

pub node_no_line : (l : Label) (q : Production) → is_member q ≡ false → is_node l q ≡ true → is_line l ≡ false
node_no_line l q e h = elim (no_line_or l q e) [
  | inl g ↦ g
  | inr g ↦ absurd (false≢true (sym g ∙ h))
]

-- below a node that is asked for by its production
pub below_node : {A : Type 0} (l : Label) (q : Production) (f : Forest → A) (under : Forest) (other : A) → is_member q ≡ false → f (narrowed under) ≡ f under
    → (if is_node l q then f (spread_if (is_line l) (narrowed under)) else other) ≡ (if is_node l q then f under else other)
below_node l q f under other e same = elim (no_line_or l q e) [
  | inl h ↦ rw h (ap (λ x. if is_node l q then x else other) same)
  | inr h ↦ rw h refl
]

-- ---- Tokens

pub first_token-same : (f : Forest) (k : ℕ) → first_token (narrowed f) k ≡ first_token f k
first_token-same none k = refl
first_token-same (token i rest) k = refl
first_token-same (node l first under rest) k = first_token-same rest k

abbrev LastSame : Forest → Forest → Type 0
LastSame g f = (k : ℕ) → last_token g k ≡ last_token f k

pub last_token-same : (f : Forest) → formed true f ≡ true → (k : ℕ) → last_token (narrowed f) k ≡ last_token f k
last_token-same =
    narrows LastSame (λ k. refl) (λ i rest e k. e i)
    (λ l first under rest known e r k. ap (last_token (narrowed rest)) (e k) ∙ r (last_token under k))
    (λ first start second n j specs below rest known e b r k.
    ap (λ x. last_token (narrowed rest) (last_token (narrowed below) x)) (e k)
    ∙ (ap (last_token (narrowed rest)) (b (last_token specs k)) ∙ r (last_token below (last_token specs k))))

-- ---- Specifiers

pub has_node-same : (p : Production) (f : Forest) → has_node p (narrowed f) ≡ has_node p f
has_node-same p none = refl
has_node-same p (token i rest) = has_node-same p rest
has_node-same p (node l first under rest) = ap (λ b. is_node l p || b) (has_node-same p rest)

pub has_at-same : (p : Production) (n : ℕ) → is_steady p ≡ true → (f : Forest) → has_at p n (narrowed f) ≡ has_at p n f
has_at-same p n s none = refl
has_at-same p n s (token i rest) = has_at-same p n s rest
has_at-same p n s (node l first under rest) =
    ap (λ b. b || has_at p n (narrowed rest)) (at-same l p n s) ∙ ap (λ b. is_at l p n || b) (has_at-same p n s rest)

mod_at : (p : Production) (a n : ℕ) → (7 == n) ≡ false → (8 == n) ≡ false → (is_eq p Mod && (number p a == n)) ≡ (is_eq p Mod && (a == n))
mod_at Mod a n e h = elim (cases_Bool (a == 8)) [
  | inl g ↦ rw (eqb-true a 8 g) (e ∙ sym h)
  | inr g ↦ rw g refl
]
mod_at External a n e h = refl
mod_at Declaration a n e h = refl
mod_at Member a n e h = refl
mod_at _ a n e h = refl

-- guarded by the production
guarded : (l : Label) (q : Production) (f : Forest → Bool) (under : Forest) → is_member q ≡ false → f (narrowed under) ≡ f under
    → (is_node l q && f (spread_if (is_line l) (narrowed under))) ≡ (is_node l q && f under)
guarded l q f under e same = elim (no_line_or l q e) [
  | inl h ↦ rw h (ap (λ x. is_node l q && x) same)
  | inr h ↦ rw h refl
]

has_mod-same : (n : ℕ) → (7 == n) ≡ false → (8 == n) ≡ false → (f : Forest) → has_mod n (narrowed f) ≡ has_mod n f
has_mod-same n e h none = refl
has_mod-same n e h (token i rest) = has_mod-same n e h rest
has_mod-same n e h (node l first under rest) =
    ap (λ b. b || ((is_node l Main && has_mod n (spread_if (is_line l) (narrowed under))) || has_mod n (narrowed rest))) (mod_at l.production l.alternative n e h)
    ∙ (ap (λ b. is_at l Mod n || (b || has_mod n (narrowed rest))) (guarded l Main (has_mod n) under refl (has_mod-same n e h under))
    ∙ ap (λ b. is_at l Mod n || ((is_node l Main && has_mod n under) || b)) (has_mod-same n e h rest))

has_untagged-same : (f : Forest) → has_untagged (narrowed f) ≡ has_untagged f
has_untagged-same none = refl
has_untagged-same (token i rest) = has_untagged-same rest
has_untagged-same (node l first under rest) =
    ap (λ b. b || has_untagged (narrowed rest)) (guarded l StructSpec (has_at SuRest 2) under refl (has_at-same SuRest 2 refl under))
    ∙ ap (λ b. (is_node l StructSpec && has_at SuRest 2 under) || b) (has_untagged-same rest)

is_anonymous-same : (f : Forest) → is_anonymous (narrowed f) ≡ is_anonymous f
is_anonymous-same none = refl
is_anonymous-same (token i rest) = is_anonymous-same rest
is_anonymous-same (node l first under rest) =
    ap (λ b. b || is_anonymous (narrowed rest)) (guarded l Main has_untagged under refl (has_untagged-same under))
    ∙ ap (λ b. (is_node l Main && has_untagged under) || b) (is_anonymous-same rest)

pub words_of-same : (f : Forest) → words_of (narrowed f) ≡ words_of f
words_of-same f =
    rw (has_mod-same 1 refl refl f, has_mod-same 2 refl refl f, has_mod-same 3 refl refl f, has_mod-same 4 refl refl f, has_mod-same 5 refl refl f, is_anonymous-same f) refl

-- ---- Declarators

holder_no_member : (p : Production) → holds_name p ≡ true → is_member p ≡ false
holder_no_member Member e = absurd (false≢true e)
holder_no_member _ e = refl

has_name-same : (l : Label) → has_name (renumbered l) ≡ has_name l
has_name-same l = ap (λ b. b || is_at (renumbered l) Pdirect 1) (at-same l Direct 1 refl) ∙ ap (λ b. is_at l Direct 1 || b) (at-same l Pdirect 1 refl)

pub name_below-same : (l : Label) (f : Forest) → name_below (renumbered l) (narrowed f) ≡ name_below l f
name_below-same l none = refl
name_below-same l (token i rest) =
    ap (λ b. if b then Some i else name_below (renumbered l) (narrowed rest)) (has_name-same l)
    ∙ ap (λ r. if has_name l then Some i else r) (name_below-same l rest)
name_below-same l (node m first under rest) =
    ap (λ r. if holds_name m.production then name_below (renumbered m) (spread_if (is_line m) (narrowed under)) else r) (name_below-same l rest)
    ∙ chosen (holds_name m.production) (λ d. inner (holder_no_member m.production d) ∙ name_below-same m under)
  where
    inner : is_member m.production ≡ false → name_below (renumbered m) (spread_if (is_line m) (narrowed under)) ≡ name_below (renumbered m) (narrowed under)
    inner e = rw e refl

    chosen : (b : Bool) → (b ≡ true → name_below (renumbered m) (spread_if (is_line m) (narrowed under)) ≡ name_below m under)
        → (if b then name_below (renumbered m) (spread_if (is_line m) (narrowed under)) else name_below l rest) ≡ (if b then name_below m under else name_below l rest)
    chosen true h = h refl
    chosen false h = refl

suffix_at : (p : Production) (n : ℕ) (a b c : CType) → (if is_eq p Suffix then (if number p n == 1 then a else b) else c) ≡ (if is_eq p Suffix then (if n == 1 then a else b) else c)
suffix_at External n a b c = refl
suffix_at Declaration n a b c = refl
suffix_at Member n a b c = refl
suffix_at Mod n a b c = refl
suffix_at _ n a b c = refl

pub suffixed-same : (t : CType) (f : Forest) → suffixed t (narrowed f) ≡ suffixed t f
suffixed-same t none = refl
suffixed-same t (token i rest) = suffixed-same t rest
suffixed-same t (node l first under rest) =
    suffix_at l.production l.alternative (array (suffixed t (narrowed rest))) (function (suffixed t (narrowed rest))) (suffixed t (narrowed rest))
    ∙ ap (λ x. if is_node l Suffix then (if l.alternative == 1 then array x else function x) else x) (suffixed-same t rest)

-- members behind specifiers are no suffixes
suffixed_members : (t : CType) (f : Forest) → kids is_mdecl f ≡ true → suffixed t f ≡ t
suffixed_members t none e = refl
suffixed_members t (token i rest) e = suffixed_members t rest e
suffixed_members t (node l first under rest) e =
    let parts = and_parts (is_mdecl l.production) (kids is_mdecl rest) e in
    rw (no_suffix l.production parts.0) (suffixed_members t rest parts.1)
  where
    no_suffix : (p : Production) → is_mdecl p ≡ true → is_eq p Suffix ≡ false
    no_suffix Suffix h = absurd (false≢true h)
    no_suffix _ h = refl

abbrev TypeSame : Forest → Forest → Type 0
TypeSame g f = (t : CType) → declarator_type t g ≡ declarator_type t f

node_type : (l : Label) (under rest : Forest) → TypeSame (narrowed under) under → TypeSame (narrowed rest) rest → (t : CType)
    → (if is_node l Pointer then declarator_type (pointer t) (narrowed rest)
    else (if is_node l Suffix then suffixed t (node (renumbered l) 0 (narrowed under) (narrowed rest))
    else (if is_aside l then declarator_type t (narrowed rest) else declarator_type (suffixed t (narrowed rest)) (narrowed under))))
    ≡ (if is_node l Pointer then declarator_type (pointer t) rest
    else (if is_node l Suffix then suffixed t (node l 0 under rest) else (if is_aside l then declarator_type t rest else declarator_type (suffixed t rest) under)))
node_type l under rest e r t =
    let behind : CType = suffixed t (narrowed rest) in
    let last : CType = if is_aside l then declarator_type t (narrowed rest) else declarator_type behind (narrowed under) in
    ap (λ x. if is_node l Pointer then x else (if is_node l Suffix then suffixed t (node (renumbered l) 0 (narrowed under) (narrowed rest)) else last)) (r (pointer t))
    ∙ (ap (λ x. if is_node l Pointer then declarator_type (pointer t) rest else (if is_node l Suffix then x else last)) (suffixed-node l under rest t)
    ∙ ap (λ x. if is_node l Pointer then declarator_type (pointer t) rest else (if is_node l Suffix then suffixed t (node l 0 under rest) else x))
    (ap (λ x. if is_aside l then x else declarator_type behind (narrowed under)) (r t)
    ∙ ap (λ x. if is_aside l then declarator_type t rest else x) (e behind ∙ ap (λ x. declarator_type x under) (suffixed-same t rest))))
  where
    suffixed-node : (l : Label) (under rest : Forest) (t : CType) → suffixed t (node (renumbered l) 0 (narrowed under) (narrowed rest)) ≡ suffixed t (node l 0 under rest)
    suffixed-node l under rest t =
        suffix_at l.production l.alternative (array (suffixed t (narrowed rest))) (function (suffixed t (narrowed rest))) (suffixed t (narrowed rest))
        ∙ ap (λ x. if is_node l Suffix then (if l.alternative == 1 then array x else function x) else x) (suffixed-same t rest)

pub declarator_type-same : (f : Forest) → formed true f ≡ true → (t : CType) → declarator_type t (narrowed f) ≡ declarator_type t f
declarator_type-same =
    narrows TypeSame (λ t. refl) (λ i rest e t. e t)
    (λ l first under rest known e r t. node_type l under rest e r t)
    (λ first start second n j specs below rest known e b r t.
    let x : CType = suffixed t (narrowed rest) in
    ap (λ y. declarator_type y (narrowed specs)) (suffixed-same x below ∙ suffixed_members x below known.below_are)
    ∙ (e x ∙ ap (λ y. declarator_type y specs) (suffixed-same t rest)))

abbrev ListSame : Forest → Forest → Type 0
ListSame g f = first_list g ≡ first_list f

pub first_list-same : (f : Forest) → formed true f ≡ true → first_list (narrowed f) ≡ first_list f
first_list-same =
    narrows ListSame refl (λ i rest e. e)
    (λ l first under rest known e r.
    ap (λ b. if b then Some (last_token (narrowed under) 0) else option_or (first_list (narrowed under)) (first_list (narrowed rest))) (at-same l Suffix 2 refl)
    ∙ (ap (λ k. if is_list l then Some k else option_or (first_list (narrowed under)) (first_list (narrowed rest))) (last_token-same under known.sound 0)
    ∙ (ap (λ x. if is_list l then Some (last_token under 0) else option_or x (first_list (narrowed rest))) e
    ∙ ap (λ x. if is_list l then Some (last_token under 0) else option_or (first_list under) x) r)))
    (λ first start second n j specs below rest known e b r.
    ap (λ x. option_or (option_or x (first_list (narrowed below))) (first_list (narrowed rest))) e
    ∙ (ap (λ x. option_or (option_or (first_list specs) x) (first_list (narrowed rest))) (b ∙ sym (or_none (first_list below)))
    ∙ ap (λ x. option_or (option_or (first_list specs) (option_or (first_list below) None)) x) r))

pub is_text-same : (f : Forest) → is_text (narrowed f) ≡ is_text f
is_text-same none = refl
is_text-same (token i rest) = refl
is_text-same (node l first under none) = at-same l Primary 4 refl
is_text-same (node l first under (token i rest)) = refl
is_text-same (node l first under (node m second below rest)) = refl

-- ---- Specifiers alone

is_one-same : (f : Forest) → is_one (narrowed f) ≡ is_one f
is_one-same none = refl
is_one-same (token i rest) = refl
is_one-same (node l first under none) = refl
is_one-same (node l first under (token i rest)) = refl
is_one-same (node l first under (node m second below rest)) = refl

lone_main-same : (f : Forest) → kids (λ q. not (is_member q)) f ≡ true → is_lone_main (narrowed f) ≡ is_lone_main f
lone_main-same none e = refl
lone_main-same (token i rest) e = refl
lone_main-same (node l first under none) e =
    rw (not-true (is_member l.production) ((and_parts (not (is_member l.production)) true e).0)) (is_one-same under)
lone_main-same (node l first under (token i rest)) e = refl
lone_main-same (node l first under (node m second below rest)) e = refl

outer_within : (p q : Production) → is_outer_part p ≡ true → within p q ≡ true → not (is_member q) ≡ true
outer_within ExtRest q e h = h
outer_within DeclRest q e h = h
outer_within Sassert q e h = h
outer_within Specs q e h = h
outer_within _ q e h = absurd (false≢true e)

outer_steady : (p : Production) → is_outer_part p ≡ true → is_steady p ≡ true
outer_steady ExtRest e = refl
outer_steady DeclRest e = refl
outer_steady Sassert e = refl
outer_steady Specs e = refl
outer_steady _ e = absurd (false≢true e)

outer_apart : (p : Production) → is_outer_part p ≡ true → is_member p ≡ false
outer_apart Member e = absurd (false≢true e)
outer_apart _ e = refl

kids_in : (p : Production) (f : Forest) → is_outer_part p ≡ true → kids (within p) f ≡ true → kids (λ q. not (is_member q)) f ≡ true
kids_in p none e h = refl
kids_in p (token i rest) e h = kids_in p rest e h
kids_in p (node l first under rest) e h =
    let parts = and_parts (within p l.production) (kids (within p) rest) h in
    rw (outer_within p l.production e parts.0, kids_in p rest e parts.1) refl

pub is_bare-same : (f : Forest) → kids is_outer_part f ≡ true → formed true f ≡ true → is_bare (narrowed f) ≡ is_bare f
is_bare-same none k h = refl
is_bare-same (token i rest) k h = refl
is_bare-same (node l first specs none) k h = refl
is_bare-same (node l first specs (token i rest)) k h = refl
is_bare-same (node l first specs (node m second below none)) k h =
    let a = and_parts (is_outer_part l.production) (is_outer_part m.production && true) k in
    let b = and_parts (is_outer_part m.production) true a.1 in
    let c = and_parts (is_good true l specs) _ h in
    let d = and_parts (not (is_line l) || is_line_body specs) _ c.0 in
    let e = and_parts (kids (within l.production) specs) _ d.1 in
    rw (outer_apart l.production a.0, steady_number m.production m.alternative (outer_steady m.production b.0))
    (ap (λ x. (m.alternative == 1) && x) (lone_main-same specs (kids_in l.production specs a.0 e.0)))
is_bare-same (node l first specs (node m second below (token i rest))) k h = refl
is_bare-same (node l first specs (node m second below (node o third last rest))) k h = refl
