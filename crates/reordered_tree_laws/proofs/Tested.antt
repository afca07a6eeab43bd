-- The tokens of a part at which it is tested what is visible, and what is true of each of them.
use Rattle.std.proofs.Common.{ℕ, ◌+◌, ◌<◌, ◌≤◌, ◌≡◌, Bool, true, false, ◌&&◌, ◌||◌, if◌then◌else◌, ◌==◌, ◌%◌, List, [], ◌∷◌, ◌++◌, sym, ap, subst, ◌∙◌, arith}
use Rattle.std.specs.List.{list_any}
use Rattle.std.proofs.lemmas.Bool.{false≢true, and_parts, or_parts, ltb-true, eqb-true, eq-eqb}
use Rattle.std.proofs.lemmas.List.Folds.{list_any-append}
use Rattle.c99_grammar.specs.declared.dialects.Edition.{Edition}
use Rattle.cs_base.specs.Token.{Token}
use Rattle.c99_tree.specs.Tree.{Forest, none, token, node, Node}
use Rattle.c99_tree.specs.declared.production.Label.{Label}
use Rattle.c99_tree.specs.declared.production.Production.{Production}
use Rattle.c99_tree.specs.declared.production.Production.TheVariants.{Main, Params, Primary, Pdirect}
use Rattle.c99_tree.specs.contracts.production.ProductionPartialEq.TheImpl.{ghosts}
use Rattle.c99_grammar.specs.Standard.{iso}
use Rattle.c99_read.specs.State.{base_at, is_identifier}
use Rattle.c_types.specs.Trees.{is_at}
use Rattle.c_types.specs.Lists.{odd_tokens, even_tokens, name_in, bare_at, bare_in}
use Rattle.tree_laws.specs.TreesOfTexts.{token_count, AreFrom}
use Rattle.reordered_tree_laws.specs.Premises.{used_in, asked_in}
use Rattle.reordered_tree_laws.specs.BareNames.{is_opened, HasBareName, HaveBareNames}

-- a token that stands so among the children of a node is tested
abbrev pub is_tested : Production → ℕ → ℕ → Bool
is_tested Main a k = (a == 4) && (k == 0)
is_tested Primary a k = a == 1
is_tested Params a k = (a == 1) && (k % 2 == 0)
is_tested _ a k = false

module _ (s : Edition) (toks : List Token) where
  -- this is true of each tested token
  abbrev pub Tested : (ℕ → Type 0) → Label → ℕ → Forest → Type 0
  Tested P l k none = Unit {0}
  Tested P l k (token i rest) = (is_tested l.production l.alternative k ≡ true → P i) × Tested P l (k + 1) rest
  Tested P l k (node x first under rest) =
      (is_at x Pdirect 2 ≡ true → is_identifier (base_at (iso s) toks (first + 1)) ≡ true → P (first + 1)) × Tested P x 0 under × Tested P l (k + 1) rest

  -- .. of a node
  abbrev pub TestedNode : (ℕ → Type 0) → Node → Type 0
  TestedNode P n =
      (is_at n.label Pdirect 2 ≡ true → is_identifier (base_at (iso s) toks (n.first + 1)) ≡ true → P (n.first + 1)) × Tested P n.label 0 n.under

  module _ (P Q : ℕ → Type 0) (f : (i : ℕ) → P i → Q i) where
    pub tested_imp : (l : Label) (k : ℕ) (g : Forest) → Tested P l k g → Tested Q l k g
    tested_imp l k none t = tt
    tested_imp l k (token i rest) t = (λ e. f i (t.0 e), tested_imp l (k + 1) rest t.1)
    tested_imp l k (node x first under rest) t = (λ e h. f (first + 1) (t.0 e h), tested_imp x 0 under t.1, tested_imp l (k + 1) rest t.2)

    pub node_imp : (n : Node) → TestedNode P n → TestedNode Q n
    node_imp n t = (λ e h. f (n.first + 1) (t.0 e h), tested_imp n.label 0 n.under t.1)

  module _ (P Q R : ℕ → Type 0) (f : (i : ℕ) → P i → Q i → R i) where
    pub tested_both : (l : Label) (k : ℕ) (g : Forest) → Tested P l k g → Tested Q l k g → Tested R l k g
    tested_both l k none t u = tt
    tested_both l k (token i rest) t u = (λ e. f i (t.0 e) (u.0 e), tested_both l (k + 1) rest t.1 u.1)
    tested_both l k (node x first under rest) t u =
        (λ e h. f (first + 1) (t.0 e h) (u.0 e h), tested_both x 0 under t.1 u.1, tested_both l (k + 1) rest t.2 u.2)

    pub node_both : (n : Node) → TestedNode P n → TestedNode Q n → TestedNode R n
    node_both n t u = (λ e h. f (n.first + 1) (t.0 e h) (u.0 e h), tested_both n.label 0 n.under t.1 u.1)

  -- ---- Where they stand

  abbrev pub IsIn : ℕ → ℕ → ℕ → Type 0
  IsIn lo hi i = (lo ≤ i) × (i < hi)

  pub opened_count : (f : Forest) → is_opened f ≡ true → 2 ≤ token_count f
  opened_count none e = absurd (false≢true e)
  opened_count (token i rest) e = omega (arith, ltb-true 0 (token_count rest) e)
  opened_count (node l first under rest) e = absurd (false≢true e)

  pub tested_within : (f : Forest) (lo : ℕ) (l : Label) (k : ℕ) → AreFrom lo f → HaveBareNames s toks f → Tested (IsIn lo (lo + token_count f)) l k f
  tested_within none lo l k a h = tt
  tested_within (token i rest) lo l k a h = (
    λ e. (omega (arith, a.0), omega (arith, a.0)),
    tested_imp (IsIn (lo + 1) (lo + 1 + token_count rest)) (IsIn lo (lo + (token_count rest + 1))) (λ j w. (omega (arith, w.0), omega (arith, w.1))) l (k + 1) rest
        (tested_within rest (lo + 1) l (k + 1) a.1 h),
  )
  tested_within (node x first under rest) lo l k a h = (
    λ e w. (let two = opened_count under (h.0 e).opened in (omega (arith, a.0), omega (arith, a.0, two))),
    tested_imp (IsIn lo (lo + token_count under)) (IsIn lo (lo + (token_count under + token_count rest))) (λ j w. (w.0, omega (arith, w.1))) x 0 under
        (tested_within under lo x 0 a.1 h.1),
    tested_imp (IsIn (lo + token_count under) (lo + token_count under + token_count rest)) (IsIn lo (lo + (token_count under + token_count rest)))
        (λ j w. (omega (arith, w.0), omega (arith, w.1))) l (k + 1) rest (tested_within rest (lo + token_count under) l (k + 1) a.2 h.2),
  )

  -- ---- What an item asks for

  module _ (f : ℕ → Bool) where
    abbrev IsNot : ℕ → Type 0
    IsNot i = f i ≡ false

    none_in : (xs ys : List ℕ) → list_any f (xs ++ ys) ≡ false → (list_any f xs ≡ false) × (list_any f ys ≡ false)
    none_in xs ys e = or_parts (list_any f xs) (list_any f ys) (sym (list_any-append f xs ys) ∙ e)

    one_in : (i : ℕ) → list_any f (i ∷ []) ≡ false → f i ≡ false
    one_in i e = (or_parts (f i) false e).0

    -- what is said of a token by the three lists: used ones, and those of the node by itself that are bare
    used_step : (c : Bool) (i : ℕ) (xs : List ℕ) → list_any f (if c then i ∷ xs else xs) ≡ false → (c ≡ true → f i ≡ false) × (list_any f xs ≡ false)
    used_step true i xs e = let p = or_parts (f i) (list_any f xs) e in (λ h. p.0, p.1)
    used_step false i xs e = (λ h. absurd (false≢true h), e)

    if_at : (c : Bool) (xs ys : List ℕ) → c ≡ true → list_any f (if c then xs else ys) ≡ false → list_any f xs ≡ false
    if_at true xs ys h e = e
    if_at false xs ys h e = absurd (false≢true h)

    odd_step : (k i : ℕ) (xs : List ℕ) → list_any f (if (k + 1) % 2 == 1 then i ∷ xs else xs) ≡ false → ((k % 2 == 0) ≡ true → f i ≡ false) × (list_any f xs ≡ false)
    odd_step k i xs e =
        let p = used_step ((k + 1) % 2 == 1) i xs e in
        (λ h. p.0 (let even : k % 2 ≡ 0 = eqb-true (k % 2) 0 h in eq-eqb ((k + 1) % 2) 1 (omega (arith, even))), p.1)

    asks : (p : Production) (a k i : ℕ) → is_tested p a k ≡ true → (((ghosts.eq p Primary && (a == 1)) || ((ghosts.eq p Main && (a == 4)) && (k == 0))) ≡ true → f i ≡ false)
        → ((ghosts.eq p Params && (a == 1)) ≡ true → (k % 2 == 0) ≡ true → f i ≡ false) → f i ≡ false
    asks Main a k i e u v = u e
    asks Primary a k i e u v = u (ap (λ b. b || false) e)
    asks Params a k i e u v = let p = and_parts (a == 1) (k % 2 == 0) e in v p.0 p.1
    asks _ a k i e u v = absurd (false≢true e)

    -- a declarator in parentheses is no identifier list
    bare_pair : (p : Production) (a : ℕ) (xs ys : List ℕ) → (ghosts.eq p Pdirect && (a == 2)) ≡ true
        → list_any f (if ghosts.eq p Params && (a == 1) then xs else (if ghosts.eq p Pdirect && (a == 2) then ys else [])) ≡ false → list_any f ys ≡ false
    bare_pair Pdirect a xs ys h e = if_at (a == 2) ys [] h e
    bare_pair _ a xs ys h e = absurd (false≢true h)

    the_bare : (first : ℕ) (x : Label) (under : Forest) → (is_at x Pdirect 2 ≡ true → HasBareName s toks first under) → list_any f (bare_at x under) ≡ false
        → is_at x Pdirect 2 ≡ true → is_identifier (base_at (iso s) toks (first + 1)) ≡ true → f (first + 1) ≡ false
    the_bare first x under has e h w =
        one_in (first + 1) (subst (λ (xs : List ℕ). list_any f xs ≡ false) ((has h).named w)
        (bare_pair x.production x.alternative (even_tokens under) (name_in under) h e))

    asked_tests : (g : Forest) (l : Label) (k : ℕ) → HaveBareNames s toks g → list_any f (used_in l k g) ≡ false
        → (is_at l Params 1 ≡ true → list_any f (odd_tokens (k + 1) g) ≡ false) → list_any f (bare_in g) ≡ false → Tested IsNot l k g
    asked_tests none l k h u o b = tt
    asked_tests (token i rest) l k h u o b =
        let p = used_step (is_at l Primary 1 || (is_at l Main 4 && (k == 0))) i (used_in l (k + 1) rest) u in (
          λ e. asks l.production l.alternative k i e p.0 (λ v w. (odd_step k i (odd_tokens (k + 1 + 1) rest) (o v)).0 w),
          asked_tests rest l (k + 1) h p.1 (λ v. (odd_step k i (odd_tokens (k + 1 + 1) rest) (o v)).1) b,
        )
    asked_tests (node x first under rest) l k h u o b =
        let p = none_in (used_in x 0 under) (used_in l (k + 1) rest) u in
        let q = none_in (bare_at x under ++ bare_in under) (bare_in rest) b in
        let r = none_in (bare_at x under) (bare_in under) q.0 in (
          the_bare first x under h.0 r.0,
          asked_tests under x 0 h.1 p.0 (λ v. if_at (is_at x Params 1) (odd_tokens 1 under) (if is_at x Pdirect 2 then name_in under else []) v r.0) r.1,
          asked_tests rest l (k + 1) h.2 p.1 (λ v. o v) q.1,
        )

    -- an item asks for no token that is so
    pub asked_node : (n : Node) → (is_at n.label Pdirect 2 ≡ true → HasBareName s toks n.first n.under) → HaveBareNames s toks n.under → list_any f (asked_in n) ≡ false
        → TestedNode IsNot n
    asked_node n has h e =
        let p = none_in (used_in n.label 0 n.under) (bare_at n.label n.under ++ bare_in n.under) e in
        let q = none_in (bare_at n.label n.under) (bare_in n.under) p.1 in (
          the_bare n.first n.label n.under has q.0,
          asked_tests n.under n.label 0 h p.0 (λ v. if_at (is_at n.label Params 1) (odd_tokens 1 n.under) (if is_at n.label Pdirect 2 then name_in n.under else []) v q.0) q.1,
        )
