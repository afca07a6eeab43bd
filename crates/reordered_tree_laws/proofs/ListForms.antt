-- The forms of lists and of their items, as far as the walk rests on them: a separator and an item leave nothing in the frame
-- around them, and tokens of a part are those from one number on.
use Rattle.std.proofs.Common.{ℕ, ◌+◌, ◌≤◌, ◌<◌, ◌≡◌, Bool, true, false, ◌&&◌, ◌||◌, not, cond, if◌then◌else◌, ◌==◌, List, [], ◌∷◌, ◌++◌, Option, refl, sym, ap, ◌∙◌, arith}
use Rattle.std.specs.Prelude.{◌%◌, filter, nat_lt}
use Rattle.std.specs.List.{All, list_all}
use Rattle.std.specs.Option.{option_map_or}
use Rattle.std.proofs.lemmas.Bool.{false≢true, and_parts, and_from, ltb-true, ltb-false, lt-ltb, le-ltb}
use Rattle.std.proofs.lemmas.List.Elements.{All-nil, All-cons, All-head, All-tail}
use Rattle.cs_base.specs.Token.{Token}
use Rattle.cs_base.proofs.BoolLemmas.{no_case as refuted}
use Rattle.c99_tree.specs.Tree.{Forest, none, token, node, Node, node_of}
use Rattle.c99_tree.specs.declared.production.Label.{Label}
use Rattle.c99_tree.specs.declared.production.Production.{Production}
use Rattle.c99_tree.specs.declared.production.Production.TheVariants.{Args, Params, Param, FunBody, SuRest, EnRest, Members, MemRest, Enumerators, Enumerator, Declarator, Pdecl, Suffix, Block, Statement, Sub}
use Rattle.c99_tree.specs.contracts.production.ProductionPartialEq.TheImpl.{ghosts}
use Rattle.c_types.specs.Types.{CType}
use Rattle.c_types.specs.Trees.{is_node, is_list, name_below, words_of, first_list}
use Rattle.c_types.specs.declared.frames.Words.{Words}
use Rattle.c_types.specs.declared.frames.Position.{Position}
use Rattle.name_chains.specs.Frames.{State, state}
use Rattle.name_chains.specs.Entering.{scope_in, entered}
use Rattle.name_chains.specs.Initializers.{position_after}
use Rattle.scope_bind.specs.Named.{Declaration, Frame, Role, Scope}
use Rattle.scope_bind.specs.Roles.{role_if, role_of}
use Rattle.scope_bind.specs.Expressions.{found_after}
use Rattle.scope_bind.specs.Walk.{passed_as, passed, frame_after, walked}
use Rattle.tree_laws.specs.TreesOfTexts.{token_count, AreFrom}
use Rattle.reordered_tree_laws.specs.Beside.{is_free_node, is_apart}
use Rattle.reordered_tree_laws.specs.Adding.{is_untagged, is_tagged, has_no_list, within_of, is_adding_token, is_adding_node, is_adding}
use Rattle.reordered_tree_laws.specs.Reordered.{nodes_in}
use Rattle.reordered_tree_laws.specs.Premises.{is_items, is_scope, is_item_production, declared_name, has_typedef_word, is_quiet_child, is_quiet, is_item}
use Rattle.reordered_tree_laws.specs.Spread.{tokens_pass}
use Rattle.reordered_tree_laws.specs.Siblings.{is_between, in_items, tags_follow}
use Rattle.reordered_tree_laws.proofs.Bags.{item_declarator, item_specs}

-- ---- Numbers between two

pub between_yes : (lo hi k : ℕ) → lo ≤ k → k < hi → is_between lo hi k ≡ true
between_yes lo hi k low high = and_from (not (nat_lt k lo)) (nat_lt k hi) (ap not (le-ltb k lo low)) (lt-ltb k hi high)

pub between_from : (lo hi k : ℕ) → is_between lo hi k ≡ true → lo ≤ k
between_from lo hi k e = ltb-false k lo (not_false (nat_lt k lo) ((and_parts (not (nat_lt k lo)) (nat_lt k hi) e).0))
  where
    not_false : (b : Bool) → not b ≡ true → b ≡ false
    not_false true e = sym e
    not_false false e = refl

pub between_before : (lo hi k : ℕ) → is_between lo hi k ≡ true → k < hi
between_before lo hi k e = ltb-true k hi ((and_parts (not (nat_lt k lo)) (nat_lt k hi) e).1)

-- what is in no wider range is in no narrower one
pub between_less : (lo hi lo' hi' k : ℕ) → lo ≤ lo' → hi' ≤ hi → is_between lo hi k ≡ false → is_between lo' hi' k ≡ false
between_less lo hi lo' hi' k low high e =
    refuted (is_between lo' hi' k)
    (λ h. false≢true (sym e ∙ between_yes lo hi k (omega (arith, low, between_from lo' hi' k h)) (omega (arith, high, between_before lo' hi' k h))))

pub between_out : (lo hi k : ℕ) → hi ≤ k → is_between lo hi k ≡ false
between_out lo hi k high = refuted (is_between lo hi k) (λ h. omega (arith, high, between_before lo hi k h))

pub between_under : (lo hi k : ℕ) → k < lo → is_between lo hi k ≡ false
between_under lo hi k low = refuted (is_between lo hi k) (λ h. omega (arith, low, between_from lo hi k h))

-- a token in front of some items stands in none of them
pub items_behind : (u : Forest) (lo k : ℕ) → k < lo → in_items lo u k ≡ false
items_behind none lo k low = refl
items_behind (token i rest) lo k low = items_behind rest (lo + 1) k (omega (arith, low))
items_behind (node m first under rest) lo k low =
    no_or (is_between lo (lo + token_count under) k) (in_items (lo + token_count under) rest k)
    (between_under lo (lo + token_count under) k low) (items_behind rest (lo + token_count under) k (omega (arith, low)))
  where
    no_or : (a b : Bool) → a ≡ false → b ≡ false → (a || b) ≡ false
    no_or true b e h = e
    no_or false b e h = h

pub tokens_beyond : (f : Forest) (at lo hi : ℕ) → AreFrom at f → hi ≤ at → tokens_pass (λ i. not (is_between lo hi i)) f ≡ true
tokens_beyond none at lo hi w high = refl
tokens_beyond (token i rest) at lo hi w high =
    and_from (not (is_between lo hi i)) (tokens_pass (λ i. not (is_between lo hi i)) rest) (ap not (between_out lo hi i (omega (arith, w.0, high))))
    (tokens_beyond rest (at + 1) lo hi w.1 (omega (arith, high)))
tokens_beyond (node l first under rest) at lo hi w high =
    let pass : Forest → Bool = tokens_pass (λ i. not (is_between lo hi i)) in
    and_from (not (is_between lo hi first)) (pass under && pass rest) (ap not (between_out lo hi first (omega (arith, w.0, high))))
    (and_from (pass under) (pass rest) (tokens_beyond under at lo hi w.1 high) (tokens_beyond rest (at + token_count under) lo hi w.2 (omega (arith, high))))

-- ---- Lists

module _ {X : Type 0} where
  pub all_front : (P : X → Type 0) (xs ys : List X) → All P (xs ++ ys) → All P xs
  all_front P [] ys h = All-nil P
  all_front P (x ∷ xs) ys h = All-cons P x xs (All-head P x (xs ++ ys) h) (all_front P xs ys (All-tail P x (xs ++ ys) h))

  pub all_back : (P : X → Type 0) (xs ys : List X) → All P (xs ++ ys) → All P ys
  all_back P [] ys h = h
  all_back P (x ∷ xs) ys h = all_back P xs ys (All-tail P x (xs ++ ys) h)

  pub all_three : (P Q R S : X → Type 0) → ((x : X) → P x → Q x → R x → S x) → (xs : List X) → All P xs → All Q xs → All R xs → All S xs
  all_three P Q R S f [] p q r = All-nil S
  all_three P Q R S f (x ∷ xs) p q r =
      All-cons S x xs (f x (All-head P x xs p) (All-head Q x xs q) (All-head R x xs r))
      (all_three P Q R S f xs (All-tail P x xs p) (All-tail Q x xs q) (All-tail R x xs r))

  pub filter_none : (q : X → Bool) (xs : List X) → All (λ x. q x ≡ false) xs → filter q xs ≡ []
  filter_none q [] h = refl
  filter_none q (x ∷ xs) h =
      ap (λ c. cond c (x ∷ filter q xs) (filter q xs)) (All-head (λ x. q x ≡ false) x xs h) ∙ filter_none q xs (All-tail (λ x. q x ≡ false) x xs h)

  pub filter_all : (q : X → Bool) (xs : List X) → All (λ x. q x ≡ true) xs → filter q xs ≡ xs
  filter_all q [] h = refl
  filter_all q (x ∷ xs) h =
      ap (λ c. cond c (x ∷ filter q xs) (filter q xs)) (All-head (λ x. q x ≡ true) x xs h)
      ∙ ap (λ (ys : List X). x ∷ ys) (filter_all q xs (All-tail (λ x. q x ≡ true) x xs h))

  -- of which none fails, all pass
  pub all_pass : (q : X → Bool) (xs : List X) → filter (λ x. not (q x)) xs ≡ [] → All (λ x. q x ≡ true) xs
  all_pass q [] e = All-nil (λ x. q x ≡ true)
  all_pass q (x ∷ xs) e = step (q x) refl e (all_pass q xs)
    where
      step : (c : Bool) → q x ≡ c → cond (not c) (x ∷ filter (λ y. not (q y)) xs) (filter (λ y. not (q y)) xs) ≡ []
          → (filter (λ y. not (q y)) xs ≡ [] → All (λ y. q y ≡ true) xs) → All (λ y. q y ≡ true) (x ∷ xs)
      step true here w rest = All-cons (λ y. q y ≡ true) x xs here (rest w)
      step false here w rest = absurd cc

-- ---- Items

module _ (toks : List Token) where
  item_scope : (p : Production) (l : Label) (under : Forest) (scope : Scope) → is_item_production p ≡ true → scope_in p l under scope ≡ scope
  item_scope Block l under scope e = absurd (false≢true e)
  item_scope FunBody l under scope e = absurd (false≢true e)
  item_scope Suffix l under scope e = absurd (false≢true e)
  item_scope Sub l under scope e = absurd (false≢true e)
  item_scope Statement l under scope e = absurd (false≢true e)
  item_scope _ l under scope e = refl

  item_free : (foreign : ℕ → Bool) (ds : List Declaration) (p q : Production) (l : Label) (first : ℕ) (under : Forest) (scope : Scope) → is_item_production p ≡ true
      → is_free_node foreign toks ds p q l first under scope ≡ true
  item_free foreign ds Declarator q l first under scope e = absurd (false≢true e)
  item_free foreign ds Pdecl q l first under scope e = absurd (false≢true e)
  item_free foreign ds Enumerator q l first under scope e = absurd (false≢true e)
  item_free foreign ds FunBody q l first under scope e = absurd (false≢true e)
  item_free foreign ds _ q l first under scope e = refl

  pub item_apart : (foreign : ℕ → Bool) (ds : List Declaration) (l : Label) (k : ℕ) (scope : Scope) (m : Label) (first : ℕ) (under : Forest)
      → is_item_production m.production ≡ true → foreign first ≡ false → is_apart foreign toks ds m 0 scope under ≡ true
      → is_apart foreign toks ds l k scope (node m first under none) ≡ true
  item_apart foreign ds l k scope m first under e own apart =
      let free : Bool = is_free_node foreign toks ds m.production l.production m first under scope in
      let inside : Bool = is_apart foreign toks ds m 0 (scope_in m.production m under scope) under in
      and_from (not (foreign first)) (free && (inside && true)) (ap not own)
      (and_from free (inside && true) (item_free foreign ds m.production l.production m first under scope e)
      (and_from inside true (ap (λ x. is_apart foreign toks ds m 0 x under) (item_scope m.production m under scope e) ∙ apart) refl))

item_adds : (p : Production) (around l : Label) (within : Bool) (under : Forest) → is_item_production p ≡ true → is_adding_node (λ i. true) p around within l under ≡ true
item_adds Declarator around l within under e = absurd (false≢true e)
item_adds Pdecl around l within under e = absurd (false≢true e)
item_adds MemRest around l within under e = absurd (false≢true e)
item_adds Members around l within under e = absurd (false≢true e)
item_adds Enumerators around l within under e = absurd (false≢true e)
item_adds FunBody around l within under e = absurd (false≢true e)
item_adds _ around l within under e = refl

item_within : (p : Production) (within : Bool) → is_item_production p ≡ true → within_of p within ≡ within
item_within Members within e = absurd (false≢true e)
item_within _ within e = refl

item_no_list : (p : Production) (a : ℕ) (under : Forest) → is_item_production p ≡ true → has_no_list (record { production = p; alternative = a }) under ≡ true
item_no_list SuRest a under e = absurd (false≢true e)
item_no_list EnRest a under e = absurd (false≢true e)
item_no_list _ a under e = refl

item_sign : (p : Production) → is_item_production p ≡ true → (ghosts.eq p SuRest || ghosts.eq p EnRest) ≡ false
item_sign SuRest e = absurd (false≢true e)
item_sign EnRest e = absurd (false≢true e)
item_sign _ e = refl

item_child : (p : Production) → is_item_production p ≡ true
    → ((not (ghosts.eq p Enumerator) ≡ true) × (not (is_scope p) ≡ true)) × (ghosts.eq p Pdecl ≡ false)
item_child Enumerator e = absurd (false≢true e)
item_child Block e = absurd (false≢true e)
item_child FunBody e = absurd (false≢true e)
item_child Statement e = absurd (false≢true e)
item_child Sub e = absurd (false≢true e)
item_child Pdecl e = absurd (false≢true e)
item_child _ e = ((refl, refl), refl)

-- what a list asks of its items, told of an item as the only child
pub record IsListed (l m : Label) (first : ℕ) (under : Forest) (lasting : ℕ → Bool) : Type 0 where
  pub production : is_item_production m.production ≡ true
  pub adds : is_adding (λ i. true) false l (node m first under none) ≡ true
  pub quiet : is_quiet lasting l (node m first under none) ≡ true
  pub follow : tags_follow false under ≡ true → tags_follow false (node m first under none) ≡ true

-- the name of an item that lasts is its declared one
abbrev pub its_name : Node → ℕ → Bool
its_name n i = option_map_or (λ j. j == i) (declared_name n) false

item_quiet : (lasting : ℕ → Bool) (l m : Label) (under : Forest) → is_item_production m.production ≡ true → is_quiet_child lasting l m under ≡ true
item_quiet lasting l m under e =
    let c = item_child m.production e in
    and_from (not (is_node m Enumerator)) (not (is_scope m.production) && (not (is_node l Param && is_node m Pdecl) || option_map_or lasting (name_below m under) true)) c.0.0
    (and_from (not (is_scope m.production)) (not (is_node l Param && is_node m Pdecl) || option_map_or lasting (name_below m under) true) c.0.1
    (by (is_node l Param) (is_node m Pdecl) (option_map_or lasting (name_below m under) true) c.1))
  where
    by : (a b c : Bool) → b ≡ false → (not (a && b) || c) ≡ true
    by true true c e = absurd (false≢true (sym e))
    by true false c e = refl
    by false b c e = refl

pub item_listed : (l m : Label) (first : ℕ) (under : Forest) → is_item (node_of m first under) ≡ true → IsListed l m first under (its_name (node_of m first under))
item_listed l m first under e =
    let n : Node = node_of m first under in
    let lasting : ℕ → Bool = its_name n in
    let named : Bool = option_map_or (λ i. not (has_typedef_word under)) (declared_name n) true in
    let adds : Bool = is_adding (λ i. true) false m under in
    let p = and_parts (is_item_production m.production && named) (adds && is_quiet lasting m under) e in
    let item : is_item_production m.production ≡ true = (and_parts (is_item_production m.production) named p.0).0 in
    let q = and_parts adds (is_quiet lasting m under) p.1 in
    let here : Bool = is_adding_node (λ i. true) m.production l false m under in
    let below : Bool = is_adding (λ i. true) (within_of m.production false) m under in
    let sign : Bool = is_node m SuRest || is_node m EnRest in
    record {
      production = item;
      adds = and_from here (has_no_list m under && (below && true)) (item_adds m.production l m false under item)
          (and_from (has_no_list m under) (below && true) (item_no_list m.production m.alternative under item)
          (and_from below true (ap (λ w. is_adding (λ i. true) w m under) (item_within m.production false item) ∙ q.0) refl));
      quiet = and_from (is_quiet_child lasting l m under) ((is_list m || is_quiet lasting m under) && true) (item_quiet lasting l m under item)
          (and_from (is_list m || is_quiet lasting m under) true (right_or (is_list m) (is_quiet lasting m under) q.1) refl);
      follow = λ h. and_from (not sign) (tags_follow false under && true) (ap not (item_sign m.production item)) (and_from (tags_follow false under) true h refl);
    }
  where
    right_or : (a b : Bool) → b ≡ true → (a || b) ≡ true
    right_or true b e = refl
    right_or false b e = e

-- ---- Lists

module _ (toks : List Token) where
  abbrev ItemsLabel : Production → ℕ → Type 0
  ItemsLabel p a = (ghosts.eq p Args || (ghosts.eq p Params && not (a == 1))) ≡ true

  items_untagged : (p : Production) (a : ℕ) → ItemsLabel p a → is_untagged (record { production = p; alternative = a }) ≡ false
  items_untagged Args a e = refl
  items_untagged Params a e = refl
  items_untagged _ a e = absurd (false≢true e)

  items_tagged : (p : Production) (a : ℕ) → ItemsLabel p a → is_tagged (record { production = p; alternative = a }) ≡ false
  items_tagged Args a e = refl
  items_tagged Params a e = refl
  items_tagged _ a e = absurd (false≢true e)

  items_token : (p : Production) (a : ℕ) → ItemsLabel p a → is_adding_token (λ i. true) p ≡ true
  items_token Args a e = refl
  items_token Params a e = refl
  items_token _ a e = absurd (false≢true e)

  abbrev plain : Role
  plain = role_if false (role_of Args 0 0)

  items_role : (p : Production) (a k : ℕ) → ItemsLabel p a → role_of p a k ≡ plain
  items_role Args a k e = refl
  items_role Params a k e = by (a == 1) e
    where
      by : (c : Bool) → (false || (true && not c)) ≡ true → role_if (c && (k % 2 == 0)) (role_of Params 1 0) ≡ plain
      by true e = absurd (false≢true e)
      by false e = refl
  items_role _ a k e = absurd (false≢true e)

  items_found : (p : Production) (a : ℕ) (fr : Frame) (l : Label) (under : Forest) (child : Frame) → ItemsLabel p a → found_after toks p fr l under child ≡ fr.found
  items_found Args a fr l under child e = refl
  items_found Params a fr l under child e = refl
  items_found _ a fr l under child e = absurd (false≢true e)

  items_position : (p : Production) (a : ℕ) (fr : Frame) (l : Label) (under : Forest) (child : Frame) → ItemsLabel p a → position_after p fr l under child ≡ fr.position
  items_position Args a fr l under child e = refl
  items_position Params a fr l under child e = refl
  items_position _ a fr l under child e = absurd (false≢true e)

  pub items_plain : (l : Label) → is_items l ≡ true → (is_untagged l ≡ false) × (is_tagged l ≡ false)
  items_plain l e = (items_untagged l.production l.alternative e, items_tagged l.production l.alternative e)

  -- a separator says nothing
  pub separator_passed : (i : ℕ) (s : State) → is_items s.frame.label ≡ true
      → passed toks i s ≡ state s.facts (record s.frame { nth = s.frame.nth + 1; token = i })
  separator_passed i s e = ap (λ (r : Role). passed_as toks r i s) (items_role s.frame.label.production s.frame.label.alternative s.frame.nth e)

  abbrev made : Frame → CType → Words → Option ℕ → CType → Position → Frame
  made f base words kept found position = record f { nth = f.nth + 1; base = base; words = words; kept = kept; found = found; position = position }

  item_left : (f : Frame) (l : Label) (under : Forest) (child : Frame) → is_items f.label ≡ true → is_item_production l.production ≡ true
      → frame_after toks f l under child ≡ record f { nth = f.nth + 1 }
  item_left f l under child e item =
      let p : Production = f.label.production in
      let found : CType = found_after toks p f l under child in
      let position : Position = position_after p f l under child in
      let kept : Option ℕ = if is_node l Declarator then first_list under else f.kept in
      ap (λ (b : Bool). made f (if b then child.found else f.base) (if b then words_of under else f.words) kept found position) (item_specs l.production item)
      ∙ (ap (λ (b : Bool). made f f.base f.words (if b then first_list under else f.kept) found position) (item_declarator l.production item)
      ∙ (ap (λ (t : CType). made f f.base f.words f.kept t position) (items_found p f.label.alternative f l under child e)
      ∙ ap (λ (x : Position). made f f.base f.words f.kept f.found x) (items_position p f.label.alternative f l under child e)))

  -- an item leaves nothing in the frame around it
  pub item_walked : (m : Label) (first : ℕ) (under : Forest) (s : State) → is_items s.frame.label ≡ true → is_item_production m.production ≡ true
      → (walked toks (node m first under none) s).frame ≡ record s.frame { nth = s.frame.nth + 1 }
  unfolding walked
  item_walked m first under s e item = item_left s.frame m under (walked toks under (entered toks m first under s)).frame e item

  -- the items of a list only add
  pub list_adds : (u : Forest) (l : Label) → is_items l ≡ true → list_all is_item (nodes_in u) ≡ true → is_adding (λ i. true) false l u ≡ true
  list_adds none l e items = refl
  list_adds (token i rest) l e items =
      and_from (is_adding_token (λ i. true) l.production) (is_adding (λ i. true) false l rest) (items_token l.production l.alternative e) (list_adds rest l e items)
  list_adds (node m first under rest) l e items =
      let p = and_parts (is_item (node_of m first under)) (list_all is_item (nodes_in rest)) items in
      let here : Bool = is_adding_node (λ i. true) m.production l false m under in
      let below : Bool = is_adding (λ i. true) (within_of m.production false) m under in
      let more : Bool = is_adding (λ i. true) false l rest in
      let x = and_parts here (has_no_list m under && (below && true)) ((item_listed l m first under p.0).adds) in
      let y = and_parts (has_no_list m under) (below && true) x.1 in
      let z = and_parts below true y.1 in
      and_from here (has_no_list m under && (below && more)) x.0
      (and_from (has_no_list m under) (below && more) y.0 (and_from below more z.0 (list_adds rest l e p.1)))
