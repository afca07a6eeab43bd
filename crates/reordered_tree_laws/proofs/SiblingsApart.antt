-- An item asks for none of what the items in front of it declare.
use Rattle.std.proofs.Common.{ℕ, ◌+◌, ◌≤◌, ◌≡◌, Bool, true, false, ◌&&◌, ◌||◌, not, if◌then◌else◌, ◌==◌, List, [], ◌∷◌, ◌++◌, Option, None, Some, ◌⊎◌, inl, inr, refl, sym, ap, subst, ◌∙◌, arith}
use Rattle.std.specs.Prelude.{◌%◌, nat_lt}
use Rattle.std.specs.List.{All, list_all, list_any}
use Rattle.std.specs.Option.{option_map_or}
use Rattle.std.proofs.lemmas.Bool.{false≢true, and_parts, and_from, or_parts, eqb-true, ltb-true}
use Rattle.std.proofs.lemmas.List.Elements.{All-nil, All-cons, All-head, All-tail, All-weaker, All-append}
use Rattle.std.proofs.lemmas.List.Folds.{list_any_none, list_any-append}
use Rattle.cs_base.specs.Token.{Token}
use Rattle.cs_base.proofs.BoolLemmas.{not_true as not_false, or_other as or_false, or_met, no_case as refuted}
use Rattle.c99_tree.specs.Tree.{Forest, none, token, node, Node}
use Rattle.c99_tree.specs.declared.production.Label.{Label}
use Rattle.c99_tree.specs.declared.production.Production.{Production}
use Rattle.c99_tree.specs.declared.production.Production.TheVariants.{ExtRest, InitDecl, FunBody, Main, Params, Primary, SuRest, EnRest, Enumerator, Declarator, Param, Pdecl, Pdirect, Suffix}
use Rattle.c99_tree.specs.contracts.production.ProductionPartialEq.TheImpl.{ghosts}
use Rattle.c_types.specs.declared.declarations.Space.TheVariants.{Ordinary, Tags}
use Rattle.c_types.specs.Trees.{is_node, is_at, is_list, name_below, last_token}
use Rattle.c_types.specs.Lists.{odd_tokens, even_tokens, name_in, bare_at, bare_in}
use Rattle.c_types.specs.Declarations.{alike, is_space, is_named, is_live}
use Rattle.c_types.proofs.TokenLemmas.{alike_back}
use Rattle.name_chains.specs.Entering.{inner, scope_in}
use Rattle.scope_bind.specs.Named.{Space, Declaration, Scope, ordinary, tags}
use Rattle.scope_bind.proofs.ScopeLemmas.{deeper}
use Rattle.tree_laws.specs.TreesOfTexts.{token_count, AreFrom}
use Rattle.reordered_tree_laws.specs.Adding.{within_of, has_no_list, is_adding_token, is_adding_declarator, is_adding_node, is_adding}
use Rattle.reordered_tree_laws.specs.Ranges.{has_range}
use Rattle.reordered_tree_laws.specs.Beside.{is_free_use, is_free_tag, is_free_name, is_free_token, is_free_declarator, is_free_parameter, is_free_node, is_apart}
use Rattle.reordered_tree_laws.specs.Premises.{declared_name, is_item_production, is_scope, is_quiet_child, is_quiet, has_typedef_word, used_in, asked_in}
use Rattle.reordered_tree_laws.specs.Lasting.{IsLast}
use Rattle.reordered_tree_laws.specs.Spread.{tokens_pass}
use Rattle.reordered_tree_laws.specs.Siblings.{IsAside, SiblingsAreApart}
use Rattle.reordered_tree_laws.proofs.OnlyAdding as adding
use Rattle.reordered_tree_laws.proofs.Spread.{name_passes}

-- ---- Spellings, ranges and scopes

ordinary_range : (s : Space) → is_space s ordinary ≡ true → has_range s ≡ true
ordinary_range Ordinary e = refl
ordinary_range _ e = absurd (false≢true e)

tag_range : (s : Space) → is_space s tags ≡ true → has_range s ≡ true
tag_range Tags e = refl
tag_range _ e = absurd (false≢true e)

no_both : (s : Space) → is_space s ordinary ≡ true → is_space s tags ≡ true → ⊥
no_both Ordinary e h = false≢true h
no_both _ e h = false≢true e

dead : (d : Declaration) (k at : ℕ) → at ≤ k → d.to ≤ at → is_live k d ≡ true → ⊥
dead d k at low ended e =
    let p = and_parts (not (nat_lt k d.from)) (nat_lt k d.to) e in
    omega (arith, low, ended, ltb-true k d.to p.1)

pub list_deeper : (p : Production) (l : Label) (under : Forest) (scope : Scope) → is_list l ≡ true → (ghosts.eq p Suffix && (l.alternative == 2)) ≡ true
    → (scope_in p l under scope).depth ≡ scope.depth + 1
list_deeper Suffix l under scope e h = ap (λ (c : Bool). (if c then inner scope (last_token under 0) else scope).depth) e
list_deeper _ l under scope e h = absurd (false≢true h)

-- the last token is none in front
pub last_low : (f : Forest) (lo k bound : ℕ) → AreFrom lo f → bound ≤ lo → bound ≤ k → bound ≤ last_token f k
last_low none lo k bound w low h = h
last_low (token i rest) lo k bound w low h = last_low rest (lo + 1) i bound w.1 (omega (arith, low)) (omega (arith, low, w.0))
last_low (node l first under rest) lo k bound w low h =
    last_low rest (lo + token_count under) (last_token under k) bound w.2 (omega (arith, low)) (last_low under lo k bound w.1 low h)

if_free : (c x : Bool) → (c ≡ true → x ≡ true) → (if c then x else true) ≡ true
if_free true x h = h refl
if_free false x h = refl

-- ---- Lists of used names

module _ (q : ℕ → Bool) (i : ℕ) (xs : List ℕ) where
  used_rest : (c : Bool) → list_any q (if c then i ∷ xs else xs) ≡ false → list_any q xs ≡ false
  used_rest true e = (or_parts (q i) (list_any q xs) e).1
  used_rest false e = e

  used_here : (c : Bool) → c ≡ true → list_any q (if c then i ∷ xs else xs) ≡ false → q i ≡ false
  used_here true h e = (or_parts (q i) (list_any q xs) e).0
  used_here false h e = absurd (false≢true h)

-- ---- Bare names are tokens of their part

odd_low : (f : Forest) (k lo bound : ℕ) → AreFrom lo f → bound ≤ lo → All (λ (i : ℕ). bound ≤ i) (odd_tokens k f)
odd_low none k lo bound w low = All-nil (λ (i : ℕ). bound ≤ i)
odd_low (token i rest) k lo bound w low = by (k % 2 == 1) (odd_low rest (k + 1) (lo + 1) bound w.1 (omega (arith, low)))
  where
    by : (c : Bool) → All (λ (j : ℕ). bound ≤ j) (odd_tokens (k + 1) rest)
        → All (λ (j : ℕ). bound ≤ j) (if c then i ∷ odd_tokens (k + 1) rest else odd_tokens (k + 1) rest)
    by true h = All-cons (λ (j : ℕ). bound ≤ j) i (odd_tokens (k + 1) rest) (omega (arith, w.0, low)) h
    by false h = h
odd_low (node l first under rest) k lo bound w low = odd_low rest (k + 1) (lo + token_count under) bound w.2 (omega (arith, low))

name_low : (f : Forest) (lo bound : ℕ) → AreFrom lo f → bound ≤ lo → All (λ (i : ℕ). bound ≤ i) (name_in f)
name_low none lo bound w low = All-nil (λ (i : ℕ). bound ≤ i)
name_low (token p none) lo bound w low = All-nil (λ (i : ℕ). bound ≤ i)
name_low (token p (token j rest)) lo bound w low = All-nil (λ (i : ℕ). bound ≤ i)
name_low (token p (node l first none more)) lo bound w low = All-nil (λ (i : ℕ). bound ≤ i)
name_low (token p (node l first (token j rest) more)) lo bound w low = All-nil (λ (i : ℕ). bound ≤ i)
name_low (token p (node l first (node m begin none rest) more)) lo bound w low = All-nil (λ (i : ℕ). bound ≤ i)
name_low (token p (node l first (node m begin (node x y z v) rest) more)) lo bound w low = All-nil (λ (i : ℕ). bound ≤ i)
name_low (token p (node l first (node m begin (token i list) rest) more)) lo bound w low = by (is_at m Pdirect 1)
  where
    by : (c : Bool) → All (λ (j : ℕ). bound ≤ j) (if c then i ∷ [] else [])
    by true = All-cons (λ (j : ℕ). bound ≤ j) i [] (omega (arith, w.1.1.1.0, low)) (All-nil (λ (j : ℕ). bound ≤ j))
    by false = All-nil (λ (j : ℕ). bound ≤ j)
name_low (node l first under rest) lo bound w low = All-nil (λ (i : ℕ). bound ≤ i)

bare_at_low : (l : Label) (f : Forest) (lo bound : ℕ) → AreFrom lo f → bound ≤ lo → All (λ (i : ℕ). bound ≤ i) (bare_at l f)
bare_at_low l f lo bound w low = by (is_at l Params 1) (is_at l Pdirect 2)
  where
    by : (c d : Bool) → All (λ (i : ℕ). bound ≤ i) (if c then even_tokens f else (if d then name_in f else []))
    by true d = odd_low f 1 lo bound w low
    by false true = name_low f lo bound w low
    by false false = All-nil (λ (i : ℕ). bound ≤ i)

bare_low : (f : Forest) (lo bound : ℕ) → AreFrom lo f → bound ≤ lo → All (λ (i : ℕ). bound ≤ i) (bare_in f)
bare_low none lo bound w low = All-nil (λ (i : ℕ). bound ≤ i)
bare_low (token i rest) lo bound w low = bare_low rest (lo + 1) bound w.1 (omega (arith, low))
bare_low (node l first under rest) lo bound w low =
    All-append (λ (i : ℕ). bound ≤ i) (bare_at l under ++ bare_in under) (bare_in rest)
    (All-append (λ (i : ℕ). bound ≤ i) (bare_at l under) (bare_in under) (bare_at_low l under lo bound w.1 low) (bare_low under lo bound w.1 low))
    (bare_low rest (lo + token_count under) bound w.2 (omega (arith, low)))

module _ (toks : List Token) (foreign named lasting : ℕ → Bool) (around at : ℕ) (ds : List Declaration) (aside : All (IsAside named around at) ds) where
  abbrev Aside : Declaration → Type 0
  Aside d = IsAside named around at d

  abbrev own : ℕ → Bool
  own i = not (foreign i)

  abbrev every : ℕ → Bool
  every i = true

  -- no name of another item is spelled as the token
  abbrev Differs : ℕ → Type 0
  Differs i = (j : ℕ) → named j ≡ true → alike toks j i ≡ false

  all_unasked : (q : Declaration → Bool) → ((d : Declaration) → Aside d → q d ≡ true → ⊥) → not (list_any q ds) ≡ true
  all_unasked q never = ap not (list_any_none q ds (All-weaker Aside (λ d. q d ≡ false) (λ d h. refuted (q d) (never d h)) ds aside))

  -- ---- What is asked of declarations

  use_by : (i : ℕ) (d : Declaration) → at ≤ i → Differs i → alike toks i d.name_at ≡ true → is_live i d ≡ true → (d.to ≤ at) ⊎ IsLast named around d → ⊥
  use_by i d low differ same live (inl ended) = dead d i at low ended live
  use_by i d low differ same live (inr last) = false≢true (sym (differ d.name_at last.name) ∙ alike_back toks i d.name_at same)

  use_never : (i : ℕ) → at ≤ i → Differs i → (d : Declaration) → Aside d → (is_named toks ordinary i d && is_live i d) ≡ true → ⊥
  use_never i low differ d h e =
      let p = and_parts (is_named toks ordinary i d) (is_live i d) e in
      let q = and_parts (is_space d.space ordinary) (alike toks i d.name_at) p.0 in
      use_by i d low differ q.1 p.1 (h (ordinary_range d.space q.0))

  use_free : (i : ℕ) → at ≤ i → Differs i → is_free_use foreign toks ds i ≡ true
  use_free i low differ = all_unasked (λ d. is_named toks ordinary i d && is_live i d) (use_never i low differ)

  tag_by : (i : ℕ) (d : Declaration) → at ≤ i → is_space d.space tags ≡ true → is_live i d ≡ true → (d.to ≤ at) ⊎ IsLast named around d → ⊥
  tag_by i d low tag live (inl ended) = dead d i at low ended live
  tag_by i d low tag live (inr last) = no_both d.space last.space tag

  tag_never : (i : ℕ) → at ≤ i → (d : Declaration) → Aside d → (is_named toks tags i d && is_live i d) ≡ true → ⊥
  tag_never i low d h e =
      let p = and_parts (is_named toks tags i d) (is_live i d) e in
      let q = and_parts (is_space d.space tags) (alike toks i d.name_at) p.0 in
      tag_by i d low q.0 p.1 (h (tag_range d.space q.0))

  tag_free : (i : ℕ) → at ≤ i → is_free_tag foreign toks ds i ≡ true
  tag_free i low = all_unasked (λ d. is_named toks tags i d && is_live i d) (tag_never i low)

  name_by : (scope : Scope) (i last : ℕ) (d : Declaration) → at ≤ last → (scope.depth ≡ around → Differs i) → alike toks i d.name_at ≡ true → is_live last d ≡ true
      → (d.depth == scope.depth) ≡ true → (d.to ≤ at) ⊎ IsLast named around d → ⊥
  name_by scope i last d low differ same live here (inl ended) = dead d last at low ended live
  name_by scope i last d low differ same live here (inr x) =
      false≢true (sym (differ (sym (eqb-true d.depth scope.depth here) ∙ x.depth) d.name_at x.name) ∙ alike_back toks i d.name_at same)

  name_never : (scope : Scope) (i last : ℕ) → at ≤ last → (scope.depth ≡ around → Differs i) → (d : Declaration) → Aside d
      → (is_named toks ordinary i d && (is_live last d && (d.depth == scope.depth))) ≡ true → ⊥
  name_never scope i last low differ d h e =
      let p = and_parts (is_named toks ordinary i d) (is_live last d && (d.depth == scope.depth)) e in
      let q = and_parts (is_space d.space ordinary) (alike toks i d.name_at) p.0 in
      let r = and_parts (is_live last d) (d.depth == scope.depth) p.1 in
      name_by scope i last d low differ q.1 r.0 r.1 (h (ordinary_range d.space q.0))

  name_free : (scope : Scope) (i last : ℕ) → own i ≡ true → at ≤ last → (scope.depth ≡ around → Differs i) → is_free_name foreign toks ds scope i last ≡ true
  name_free scope i last mine low differ =
      and_from (own i) (not (list_any (λ d. is_named toks ordinary i d && (is_live last d && (d.depth == scope.depth))) ds)) mine
      (all_unasked (λ d. is_named toks ordinary i d && (is_live last d && (d.depth == scope.depth))) (name_never scope i last low differ))

  -- ---- A token

  left_or : (b c : Bool) → b ≡ true → (b || c) ≡ true
  left_or true c e = refl
  left_or false c e = absurd (false≢true e)

  token_free : (p : Production) (a k : ℕ) (scope : Scope) (i : ℕ) → own i ≡ true → at ≤ i → (scope.depth ≡ around → not (ghosts.eq p Params) ≡ true)
      → ((ghosts.eq p Primary && (a == 1)) || ((ghosts.eq p Main && (a == 4)) && (k == 0)) ≡ true → Differs i)
      → is_free_token foreign toks ds p a k scope i ≡ true
  token_free Primary a k scope i mine low quiet used =
      if_free (a == 1) (is_free_use foreign toks ds i) (λ h. use_free i low (used (left_or (a == 1) false h)))
  token_free Main a k scope i mine low quiet used = if_free ((a == 4) && (k == 0)) (is_free_use foreign toks ds i) (λ h. use_free i low (used h))
  token_free SuRest a k scope i mine low quiet used = if_free ((a == 1) && (k == 0)) (is_free_tag foreign toks ds i) (λ h. tag_free i low)
  token_free EnRest a k scope i mine low quiet used = if_free ((a == 1) && (k == 0)) (is_free_tag foreign toks ds i) (λ h. tag_free i low)
  token_free Params a k scope i mine low quiet used =
      if_free ((a == 1) && (k % 2 == 0)) (is_free_name foreign toks ds scope i i) (λ h. name_free scope i i mine low (λ e. absurd (false≢true (quiet e))))
  token_free _ a k scope i mine low quiet used = refl

  -- ---- A node

  declarator_free : (p : Production) (within : Bool) (l : Label) (under : Forest) → is_adding_declarator every p within l under ≡ true → tokens_pass own under ≡ true
      → is_free_declarator foreign toks ds p l under ≡ true
  declarator_free ExtRest within l under e h = e
  declarator_free InitDecl within l under e h = e
  declarator_free _ within l under e h = name_passes own l under h

  abbrev NameIs : Option ℕ → Forest → Scope → Type 0
  NameIs name under scope = (i : ℕ) → name ≡ Some i → (own i ≡ true) × (at ≤ last_token under i) × (scope.depth ≡ around → Differs i)

  named_free : (name : Option ℕ) (under : Forest) (scope : Scope) → NameIs name under scope
      → option_map_or (λ i. is_free_name foreign toks ds scope i (last_token under i)) name true ≡ true
  named_free None under scope h = refl
  named_free (Some i) under scope h = let x = h i refl in name_free scope i (last_token under i) x.0 x.1 x.2

  parameter_free : (p : Production) (l : Label) (under : Forest) (scope : Scope) → (ghosts.eq p Param ≡ true → NameIs (name_below l under) under scope)
      → is_free_parameter foreign toks ds p l under scope ≡ true
  parameter_free Param l under scope h = named_free (name_below l under) under scope (h refl)
  parameter_free _ l under scope h = refl

  node_free : (p : Production) (around_it : Label) (within : Bool) (l : Label) (first : ℕ) (under : Forest) (scope : Scope)
      → is_adding_node every p around_it within l under ≡ true → own first ≡ true → at ≤ last_token under first → tokens_pass own under ≡ true
      → (scope.depth ≡ around → not (ghosts.eq p Enumerator) ≡ true)
      → (ghosts.eq p Pdecl ≡ true → ghosts.eq around_it.production Param ≡ true → NameIs (name_below l under) under scope)
      → is_free_node foreign toks ds p around_it.production l first under scope ≡ true
  node_free Declarator around_it within l first under scope e mine low h quiet name = declarator_free around_it.production within l under e h
  node_free Pdecl around_it within l first under scope e mine low h quiet name = parameter_free around_it.production l under scope (name refl)
  node_free Enumerator around_it within l first under scope e mine low h quiet name =
      name_free scope first (last_token under first) mine low (λ x. absurd (false≢true (quiet x)))
  node_free FunBody around_it within l first under scope e mine low h quiet name = e
  node_free _ around_it within l first under scope e mine low h quiet name = refl

  -- ---- The walk

  abbrev Unused : Label → ℕ → Forest → Type 0
  Unused l k f = (j : ℕ) → named j ≡ true → list_any (alike toks j) (used_in l k f) ≡ false

  own_name : (name : Option ℕ) (i : ℕ) → name ≡ Some i → option_map_or own name true ≡ true → own i ≡ true
  own_name name i e h = subst (λ (r : Option ℕ). option_map_or own r true ≡ true) e h

  lasting_name : (name : Option ℕ) (i : ℕ) → name ≡ Some i → option_map_or lasting name true ≡ true → lasting i ≡ true
  lasting_name name i e h = subst (λ (r : Option ℕ). option_map_or lasting r true ≡ true) e h

  not_and : (a b : Bool) → a ≡ true → b ≡ true → (a && b) ≡ true
  not_and true b e f = f
  not_and false b e f = absurd (false≢true e)

  module _ (lasts : (i : ℕ) → lasting i ≡ true → Differs i) where
    apart_walk : (f : Forest) (within : Bool) (lo : ℕ) (l : Label) (k : ℕ) (scope : Scope) → AreFrom lo f → at ≤ lo → around ≤ scope.depth
        → is_adding every within l f ≡ true → tokens_pass own f ≡ true → (scope.depth ≡ around → is_quiet lasting l f ≡ true) → Unused l k f
        → is_apart foreign toks ds l k scope f ≡ true
    apart_walk none within lo l k scope w low deep e h quiet used = refl
    apart_walk (token i rest) within lo l k scope w low deep e h quiet used =
        let p = and_parts (is_adding_token every l.production) (is_adding every within l rest) e in
        let q = and_parts (own i) (tokens_pass own rest) h in
        let free : Bool = is_free_token foreign toks ds l.production l.alternative k scope i in
        let more : Bool = is_apart foreign toks ds l (k + 1) scope rest in
        let later : List ℕ = used_in l (k + 1) rest in
        let quiet' : scope.depth ≡ around → (not (is_node l Params) ≡ true) × (is_quiet lasting l rest ≡ true) =
        λ x. and_parts (not (is_node l Params)) (is_quiet lasting l rest) (quiet x) in
        and_from (own i) (free && more) q.0
        (and_from free more
        (token_free l.production l.alternative k scope i q.0 (omega (arith, low, w.0)) (λ x. (quiet' x).0)
        (λ x j y. used_here (alike toks j) i later (is_at l Primary 1 || (is_at l Main 4 && (k == 0))) x (used j y)))
        (apart_walk rest within (lo + 1) l (k + 1) scope w.1 (omega (arith, low)) deep p.1 q.1 (λ x. (quiet' x).1)
        (λ j y. used_rest (alike toks j) i later (is_at l Primary 1 || (is_at l Main 4 && (k == 0))) (used j y))))
    apart_walk (node m first under rest) within lo l k scope w low deep e h quiet used =
        let here : Bool = is_adding_node every m.production l within m under in
        let below : Bool = is_adding every (within_of m.production within) m under in
        let more : Bool = is_adding every within l rest in
        let p = and_parts here (has_no_list m under && (below && more)) e in
        let q = and_parts (has_no_list m under) (below && more) p.1 in
        let r = and_parts below more q.1 in
        let t = and_parts (own first) (tokens_pass own under && tokens_pass own rest) h in
        let u = and_parts (tokens_pass own under) (tokens_pass own rest) t.1 in
        let scope' : Scope = scope_in m.production m under scope in
        let free : Bool = is_free_node foreign toks ds m.production l.production m first under scope in
        let within' : Bool = is_apart foreign toks ds m 0 scope' under in
        let later : Bool = is_apart foreign toks ds l (k + 1) scope rest in
        let named_now : Bool = not (is_node l Param && is_node m Pdecl) || option_map_or lasting (name_below m under) true in
        let child : scope.depth ≡ around → is_quiet_child lasting l m under ≡ true =
        λ x. (and_parts (is_quiet_child lasting l m under) ((is_list m || is_quiet lasting m under) && is_quiet lasting l rest) (quiet x)).0 in
        let others : scope.depth ≡ around → ((is_list m || is_quiet lasting m under) && is_quiet lasting l rest) ≡ true =
        λ x. (and_parts (is_quiet_child lasting l m under) ((is_list m || is_quiet lasting m under) && is_quiet lasting l rest) (quiet x)).1 in
        let deep' : scope.depth ≤ scope'.depth = deeper m.production m under scope in
        let quiet' : scope'.depth ≡ around → is_quiet lasting m under ≡ true =
        λ x. or_false (is_list m) (is_quiet lasting m under)
        ((and_parts (is_list m || is_quiet lasting m under) (is_quiet lasting l rest) (others (omega (arith, deep, deep', x)))).0)
        (refuted (is_list m) (λ is. omega (arith, x, deep, list_deeper m.production m under scope is is))) in
        let named_it : (is_node m Pdecl) ≡ true → is_node l Param ≡ true → NameIs (name_below m under) under scope =
        λ a b i same. (
          own_name (name_below m under) i same (name_passes own m under u.0),
          last_low under lo i at w.1 low (omega (arith, low, (adding.name_in m under lo i lo (lo + token_count under) w.1 (omega arith) (omega arith) same).0)),
          λ x. lasts i (lasting_name (name_below m under) i same
              (or_met (is_node l Param && is_node m Pdecl) (option_map_or lasting (name_below m under) true)
              ((and_parts (not (is_scope m.production)) named_now ((and_parts (not (is_node m Enumerator)) (not (is_scope m.production) && named_now) (child x)).1)).1)
              (not_and (is_node l Param) (is_node m Pdecl) b a))),
        ) in
        let unused : (j : ℕ) → named j ≡ true
        → (list_any (alike toks j) (used_in m 0 under) ≡ false) × (list_any (alike toks j) (used_in l (k + 1) rest) ≡ false) =
        λ j y. or_parts (list_any (alike toks j) (used_in m 0 under)) (list_any (alike toks j) (used_in l (k + 1) rest))
        (sym (list_any-append (alike toks j) (used_in m 0 under) (used_in l (k + 1) rest)) ∙ used j y) in
        and_from (own first) (free && (within' && later)) t.0
        (and_from free (within' && later)
        (node_free m.production l within m first under scope p.0 t.0
        (last_low under lo first at w.1 low (omega (arith, low, w.0))) u.0
        (λ x. (and_parts (not (is_node m Enumerator)) (not (is_scope m.production) && named_now) (child x)).0) named_it)
        (and_from within' later
        (apart_walk under (within_of m.production within) lo m 0 scope' w.1 low (omega (arith, deep, deep')) r.0 u.0 quiet' (λ j y. (unused j y).0))
        (apart_walk rest within (lo + token_count under) l (k + 1) scope w.2 (omega (arith, low)) deep r.1 u.1
        (λ x. (and_parts (is_list m || is_quiet lasting m under) (is_quiet lasting l rest) (others x)).1) (λ j y. (unused j y).1))))

  -- ---- Bare names

  bare_free : (bs : List ℕ) → All (λ (i : ℕ). at ≤ i) bs → ((j : ℕ) → named j ≡ true → list_any (alike toks j) bs ≡ false)
      → list_all (is_free_use foreign toks ds) bs ≡ true
  bare_free [] low used = refl
  bare_free (b ∷ bs) low used =
      let parts : (j : ℕ) → named j ≡ true → (alike toks j b ≡ false) × (list_any (alike toks j) bs ≡ false) =
      λ j y. or_parts (alike toks j b) (list_any (alike toks j) bs) (used j y) in
      and_from (is_free_use foreign toks ds b) (list_all (is_free_use foreign toks ds) bs)
      (use_free b (All-head (λ (i : ℕ). at ≤ i) b bs low) (λ j y. (parts j y).0))
      (bare_free bs (All-tail (λ (i : ℕ). at ≤ i) b bs low) (λ j y. (parts j y).1))

-- the name of an item that lasts is its declared one
abbrev its_name : Node → ℕ → Bool
its_name n i = option_map_or (λ j. j == i) (declared_name n) false

name_unasked : (toks : List Token) (n : Node) (i j : ℕ) → its_name n i ≡ true → not (option_map_or (alike toks j) (declared_name n) false) ≡ true → alike toks j i ≡ false
name_unasked toks n i j e h = by (declared_name n) e h
  where
    by : (r : Option ℕ) → option_map_or (λ j. j == i) r false ≡ true → not (option_map_or (alike toks j) r false) ≡ true → alike toks j i ≡ false
    by None e h = absurd (false≢true e)
    by (Some x) e h = subst (λ (y : ℕ). alike toks j y ≡ false) (eqb-true x i e) (not_false (alike toks j x) h)

pub siblings_are_apart : SiblingsAreApart
siblings_are_apart toks foreign named n at scope ds w item mine unasked aside =
    let lasting : ℕ → Bool = its_name n in
    let production : Bool = is_item_production n.label.production && option_map_or (λ i. not (has_typedef_word n.under)) (declared_name n) true in
    let adds : Bool = is_adding (λ i. true) false n.label n.under in
    let forms = and_parts production (adds && is_quiet lasting n.label n.under) item in
    let parts = and_parts adds (is_quiet lasting n.label n.under) forms.1 in
    let bare : List ℕ = bare_at n.label n.under ++ bare_in n.under in
    let both : (j : ℕ) → named j ≡ true → (not (list_any (alike toks j) (asked_in n)) ≡ true) × (not (option_map_or (alike toks j) (declared_name n) false) ≡ true) =
    λ j y. and_parts (not (list_any (alike toks j) (asked_in n))) (not (option_map_or (alike toks j) (declared_name n) false)) (unasked j y) in
    let asked : (j : ℕ) → named j ≡ true → (list_any (alike toks j) (used_in n.label 0 n.under) ≡ false) × (list_any (alike toks j) bare ≡ false) =
    λ j y. or_parts (list_any (alike toks j) (used_in n.label 0 n.under)) (list_any (alike toks j) bare)
    (sym (list_any-append (alike toks j) (used_in n.label 0 n.under) bare) ∙ not_false (list_any (alike toks j) (asked_in n)) ((both j y).0)) in (
      apart_walk toks foreign named lasting scope.depth at ds aside (λ i x j y. name_unasked toks n i j x ((both j y).1))
          n.under false at n.label 0 scope w (omega arith) (omega arith) parts.0 mine (λ x. parts.1) (λ j y. (asked j y).0),
      bare_free toks foreign named lasting scope.depth at ds aside bare
          (All-append (λ (i : ℕ). at ≤ i) (bare_at n.label n.under) (bare_in n.under) (bare_at_low n.label n.under at at w (omega arith)) (bare_low n.under at at w (omega arith)))
          (λ j y. (asked j y).1),
    )
