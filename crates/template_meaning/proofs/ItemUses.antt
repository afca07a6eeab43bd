-- The tokens of an item that ask for an ordinary identifier: each is a use of one, a bare name, or `__func__`.
use Rattle.std.proofs.Common.{ℕ, ◌+◌, ◌<◌, ◌≤◌, ◌≡◌, Bool, true, false, ◌&&◌, ◌||◌, not, if◌then◌else◌, List, [], ◌∷◌, ◌++◌, ◌⊎◌, inl, inr, refl, sym, ap, subst, ◌∙◌, arith}
use Rattle.std.specs.Prelude.{◌==◌, ◌%◌, codes}
use Rattle.std.specs.List.{list_any}
use Rattle.std.specs.Str.{bytes_eq}
use Rattle.std.proofs.lemmas.Bool.{false≢true, and_parts, and_from, eq-eqb, eqb-true, ne_eqb}
use Rattle.c99_grammar.specs.declared.dialects.Edition.{Edition}
use Rattle.cs_base.specs.Token.{Token}
use Rattle.cs_base.proofs.ListLemmas.{any_at}
use Rattle.cs_base.proofs.BoolLemmas.{or_first, or_right as or_second}
use Rattle.c99_tree.specs.Tree.{Forest, none, token, node, node_of}
use Rattle.c99_tree.specs.declared.production.Label.{Label}
use Rattle.c99_tree.specs.declared.production.Production.{Production}
use Rattle.c99_tree.specs.declared.production.Production.TheVariants.{Main, Primary, Params, Pdirect}
use Rattle.c99_tree.specs.contracts.production.ProductionPartialEq.TheImpl.{ghosts}
use Rattle.c99_grammar.specs.declared.classes.Class.TheVariants.{Identifier}
use Rattle.c99_grammar.specs.Items.{tok, plain}
use Rattle.c99_grammar.specs.Standard.{iso}
use Rattle.c_types.specs.declared.entity.EntityKind.{EntityKind}
use Rattle.c_types.specs.declared.entity.EntityKind.TheVariants as entity
use Rattle.c_types.specs.Declarations.{spelling_at}
use Rattle.c_types.specs.Lists.{odd_tokens, even_tokens, name_in, bare_at, bare_in}
use Rattle.c_types.specs.Trees.{is_at}
use Rattle.scope_bind.specs.declared.bound.Name.{Name}
use Rattle.tree_laws.specs.TreesOfTexts.{token_count, AreFrom}
use Rattle.tree_laws.proofs.Lookups.{In}
use Rattle.tree_laws.proofs.TokenEnds.{any_of as in_any}
use Rattle.tree_laws.specs.Told.{UsesAt, NodeTold}
use Rattle.tree_laws.specs.Told as told
use Rattle.reordered_tree_laws.specs.Premises.{is_item_production, used_in, asked_in}
use Rattle.template_rules.specs.ScopeOffences.{is_function_word, is_ordinary, uses_ordinary, is_used_at, is_use}
use Rattle.template_meaning.specs.Children.{a_token, children, IsOfAlternative}
use Rattle.template_meaning.proofs.Forms.{token_child, no_child, alternative_is}
use Rattle.template_meaning.proofs.ItemForms.{IsClean, IsPart, inside_of, listing_of, part_behind, part_under, part_rest}
use Rattle.template_meaning.proofs.Parens.{in_split}

-- ---- Uses

ordinary_same : (k : EntityKind) → told.is_ordinary k ≡ true → is_ordinary k ≡ true
ordinary_same entity.Tag e = absurd (false≢true e)
ordinary_same entity.Member e = absurd (false≢true e)
ordinary_same entity.Label e = absurd (false≢true e)
ordinary_same _ e = refl

-- ---- Where tokens stand

abbrev pub IsWithin : ℕ → ℕ → ℕ → Type 0
IsWithin lo hi i = (lo ≤ i) × (i < hi)

used_step : (c : Bool) (i j : ℕ) (more : List ℕ) (Q : ℕ → Type 0) → In i (if c then j ∷ more else more) → (c ≡ true → Q j) → (In i more → Q i) → Q i
used_step true i j more Q (inl same) here go = subst Q same (here refl)
used_step true i j more Q (inr w) here go = go w
used_step false i j more Q w here go = go w

used_range : (f : Forest) (l : Label) (k a i lo hi : ℕ) → AreFrom a f → lo ≤ a → a + token_count f ≤ hi → In i (used_in l k f) → IsWithin lo hi i
used_range none l k a i lo hi w low high v = absurd v
used_range (token j rest) l k a i lo hi w low high v =
    used_step (is_at l Primary 1 || (is_at l Main 4 && (k == 0))) i j (used_in l (k + 1) rest) (IsWithin lo hi) v (λ e. (omega (arith, w.0, low), omega (arith, w.0, high)))
    (used_range rest l (k + 1) (a + 1) i lo hi w.1 (omega (arith, low)) (omega (arith, high)))
used_range (node m first under rest) l k a i lo hi w low high v = elim (in_split i (used_in m 0 under) (used_in l (k + 1) rest) v) [
  | inl b ↦ used_range under m 0 a i lo hi w.1 low (omega (arith, high)) b
  | inr b ↦ used_range rest l (k + 1) (a + token_count under) i lo hi w.2 (omega (arith, low)) (omega (arith, high)) b
]

odd_range : (f : Forest) (k a i lo hi : ℕ) → AreFrom a f → lo ≤ a → a + token_count f ≤ hi → In i (odd_tokens k f) → IsWithin lo hi i
odd_range none k a i lo hi w low high v = absurd v
odd_range (token j rest) k a i lo hi w low high v =
    used_step (k % 2 == 1) i j (odd_tokens (k + 1) rest) (IsWithin lo hi) v (λ e. (omega (arith, w.0, low), omega (arith, w.0, high)))
    (odd_range rest (k + 1) (a + 1) i lo hi w.1 (omega (arith, low)) (omega (arith, high)))
odd_range (node m first under rest) k a i lo hi w low high v = odd_range rest (k + 1) (a + token_count under) i lo hi w.2 (omega (arith, low)) (omega (arith, high)) v

name_range : (f : Forest) (a i lo hi : ℕ) → AreFrom a f → lo ≤ a → a + token_count f ≤ hi → In i (name_in f) → IsWithin lo hi i
name_range (token p (node l first (node m begin (token j list) rest) more)) a i lo hi w low high v =
    used_step (is_at m Pdirect 1) i j [] (IsWithin lo hi) v (λ e. let at = w.1.1.1.0 in (omega (arith, at, low), omega (arith, at, high))) (λ n. absurd n)
name_range _ a i lo hi w low high v = absurd v

if_range : (c d : Bool) (i : ℕ) (xs ys : List ℕ) (Q : ℕ → Type 0) → In i (if c then xs else (if d then ys else [])) → (In i xs → Q i) → (In i ys → Q i) → Q i
if_range true d i xs ys Q v g h = g v
if_range false true i xs ys Q v g h = h v
if_range false false i xs ys Q v g h = absurd v

bare_range : (f : Forest) (a i lo hi : ℕ) → AreFrom a f → lo ≤ a → a + token_count f ≤ hi → In i (bare_in f) → IsWithin lo hi i
bare_range none a i lo hi w low high v = absurd v
bare_range (token j rest) a i lo hi w low high v = bare_range rest (a + 1) i lo hi w.1 (omega (arith, low)) (omega (arith, high)) v
bare_range (node m first under rest) a i lo hi w low high v = elim (in_split i (bare_at m under ++ bare_in under) (bare_in rest) v) [
  | inl b ↦ elim (in_split i (bare_at m under) (bare_in under) b) [
    | inl c ↦ if_range (is_at m Params 1) (is_at m Pdirect 2) i (even_tokens under) (name_in under) (IsWithin lo hi) c
        (odd_range under 1 a i lo hi w.1 low (omega (arith, high))) (name_range under a i lo hi w.1 low (omega (arith, high)))
    | inr c ↦ bare_range under a i lo hi w.1 low (omega (arith, high)) c
  ]
  | inr b ↦ bare_range rest (a + token_count under) i lo hi w.2 (omega (arith, low)) (omega (arith, high)) b
]

item_bare : (q : Production) (n : ℕ) (under : Forest) → is_item_production q ≡ true → bare_at (record { production = q; alternative = n }) under ≡ []
item_bare Params n under e = absurd (false≢true e)
item_bare Pdirect n under e = absurd (false≢true e)
item_bare _ n under e = refl

module _ (toks : List Token) (names : List Name) (bare : List ℕ) (s : Edition) (lo hi : ℕ) (clean : (t : ℕ) → lo ≤ t → t < hi → IsClean toks names t) where
  -- a use, a bare name, or `__func__`
  abbrev pub IsAsked : ℕ → Type 0
  IsAsked i = (is_use names bare i ≡ true) ⊎ (is_function_word toks i ≡ true)

  use_asked : (i : ℕ) → UsesAt names i → IsAsked i
  use_asked i u =
      let is : uses_ordinary u.name ≡ true = and_from (not u.name.declares) (is_ordinary u.name.kind) (ap not u.uses) (ordinary_same u.name.kind u.kind) in
      inl (or_first (list_any (is_used_at i) names) _
      (any_at (is_used_at i) names (let k = u.is in k.0) u.name (let k = u.is in k.1) (and_from (u.name.index == i) (uses_ordinary u.name) (eq-eqb u.name.index i u.index) is)))

  bare_asked : (i : ℕ) → In i bare → IsAsked i
  bare_asked i w = inl (or_second (list_any (is_used_at i) names) _ (in_any (λ m. m == i) bare i w (eq-eqb i i refl)))

  -- the tokens of a node that are used are so
  abbrev OwnOk : Label → ℕ → Forest → Type 0
  OwnOk l k none = Unit {0}
  OwnOk l k (token i rest) = ((is_at l Primary 1 || (is_at l Main 4 && (k == 0))) ≡ true → IsAsked i) × OwnOk l (k + 1) rest
  OwnOk l k (node m first under rest) = OwnOk l (k + 1) rest

  none_used : (l : Label) (k : ℕ) (f : Forest) → ((j : ℕ) → k ≤ j → (is_at l Primary 1 || (is_at l Main 4 && (j == 0))) ≡ false) → OwnOk l k f
  none_used l k none h = tt
  none_used l k (token i rest) h = (λ e. absurd (false≢true (sym (h k (omega arith)) ∙ e)), none_used l (k + 1) rest (λ j less. h j (omega (arith, less))))
  none_used l k (node m first under rest) h = none_used l (k + 1) rest (λ j less. h j (omega (arith, less)))

  lone_child : (m : Label) (under : Forest) → IsOfAlternative (iso s) m under → m.production ≡ Primary → (m.alternative == 1) ≡ true → (i : ℕ) × (under ≡ token i none)
  lone_child m under x named one_ =
      let here : children under ≡ a_token ∷ [] = alternative_is (iso s) m under x Primary 0 (plain (tok Identifier)) named (omega (arith, eqb-true m.alternative 1 one_)) refl in
      let first = token_child under [] here in
      (first.0, first.2 ∙ ap (λ (f : Forest). token first.0 f) (no_child first.1 first.3))

  two_false : (q : Production) (n j : ℕ) → ghosts.eq q Primary ≡ false → ghosts.eq q Main ≡ false → ((ghosts.eq q Primary && (n == 1)) || ((ghosts.eq q Main && (n == 4)) && (j == 0))) ≡ false
  two_false q n j e f = ap (λ c. (c && (n == 1)) || ((ghosts.eq q Main && (n == 4)) && (j == 0))) e ∙ ap (λ c. (c && (n == 4)) && (j == 0)) f

  primary_own : (inside : Bool) (m : Label) (under : Forest) → m.production ≡ Primary → IsOfAlternative (iso s) m under → told.PrimaryTold names toks inside m under → OwnOk m 0 under
  primary_own inside m under named x d = by (m.alternative == 1) refl
    where
      asked : (i : ℕ) → ((inside && bytes_eq (spelling_at toks i) (codes "__func__")) ≡ true) ⊎ UsesAt names i → IsAsked i
      asked i (inl e) = inr (and_parts inside _ e).1
      asked i (inr u) = use_asked i u

      one_token : (i : ℕ) → (m.alternative == 1) ≡ true → told.PrimaryTold names toks inside m (token i none) → OwnOk m 0 (token i none)
      one_token i one_ g = (λ e. asked i (g one_), tt)

      by : (c : Bool) → (m.alternative == 1) ≡ c → OwnOk m 0 under
      by true e =
          let child = lone_child m under x named e in
          subst (OwnOk m 0) (sym child.1) (one_token child.0 e (subst (told.PrimaryTold names toks inside m) child.1 d))
      by false e =
          none_used m 0 under (λ j less.
          ap (λ q. (ghosts.eq q Primary && (m.alternative == 1)) || ((ghosts.eq q Main && (m.alternative == 4)) && (j == 0))) named ∙ ap (λ c. c || false) e)

  main_own : (m : Label) (under : Forest) → m.production ≡ Main → told.TypeNameTold names m under → OwnOk m 0 under
  main_own m none named d = tt
  main_own m (node l first below rest) named d = none_used m 1 rest (λ j less. later m named j less)
    where
      later : (m : Label) → m.production ≡ Main → (j : ℕ) → 1 ≤ j → (is_at m Primary 1 || (is_at m Main 4 && (j == 0))) ≡ false
      later m named j less =
          ap (λ q. (ghosts.eq q Primary && (m.alternative == 1)) || ((ghosts.eq q Main && (m.alternative == 4)) && (j == 0))) named
          ∙ (ap (λ c. (m.alternative == 4) && c) (ne_eqb j 0 (λ e. omega (arith, e, less))) ∙ none_of (m.alternative == 4))
        where
          none_of : (c : Bool) → (c && false) ≡ false
          none_of true = refl
          none_of false = refl
  main_own m (token i rest) named d = (
    λ e. use_asked i (d (first_is (m.alternative == 4) (sym (ap (λ q. (ghosts.eq q Primary && (m.alternative == 1)) || ((ghosts.eq q Main && (m.alternative == 4)) && (0 == 0))) named) ∙ e))),
    none_used m 1 rest (λ j less. later m named j less),
  )
    where
      first_is : (c : Bool) → (c && true) ≡ true → c ≡ true
      first_is true e = refl
      first_is false e = e

      later : (m : Label) → m.production ≡ Main → (j : ℕ) → 1 ≤ j → (is_at m Primary 1 || (is_at m Main 4 && (j == 0))) ≡ false
      later m named j less =
          ap (λ q. (ghosts.eq q Primary && (m.alternative == 1)) || ((ghosts.eq q Main && (m.alternative == 4)) && (j == 0))) named
          ∙ (ap (λ c. (m.alternative == 4) && c) (ne_eqb j 0 (λ e. omega (arith, e, less))) ∙ none_of (m.alternative == 4))
        where
          none_of : (c : Bool) → (c && false) ≡ false
          none_of true = refl
          none_of false = refl

  own_ok : (q : Production) (inside : Bool) (l m : Label) (first : ℕ) (under : Forest) → m.production ≡ q → IsOfAlternative (iso s) m under → NodeTold names toks q inside l m first under
      → OwnOk m 0 under
  own_ok Primary inside l m first under e x d = primary_own inside m under e x d
  own_ok Main inside l m first under e x d = main_own m under e d
  own_ok q inside l m first under e x d =
      none_used m 0 under (λ j less. ap (λ r. (ghosts.eq r Primary && (m.alternative == 1)) || ((ghosts.eq r Main && (m.alternative == 4)) && (j == 0))) e ∙ two_false q m.alternative j refl refl)

  used_asked : (f : Forest) (body listing : Bool) (l : Label) (a k : ℕ) → IsPart toks names s lo hi clean body listing l a f → OwnOk l k f → (i : ℕ) → In i (used_in l k f) → IsAsked i
  used_asked none body listing l a k p own i v = absurd v
  used_asked (token j rest) body listing l a k p own i v =
      used_step (is_at l Primary 1 || (is_at l Main 4 && (k == 0))) i j (used_in l (k + 1) rest) IsAsked v own.0
      (used_asked rest body listing l (a + 1) (k + 1) (part_behind toks names s lo hi clean body listing l a j rest p) own.1 i)
  used_asked (node m first under rest) body listing l a k p own i v =
      let x = p.each in
      let d = p.told in
      elim (in_split i (used_in m 0 under) (used_in l (k + 1) rest) v) [
        | inl b ↦ used_asked under (inside_of toks names s lo hi clean body m) (listing_of toks names s lo hi clean listing l m) m a 0
            (part_under toks names s lo hi clean body listing l m a first under rest p) (own_ok m.production _ l m first under refl x.0 d.0) i b
        | inr b ↦ used_asked rest body listing l (a + token_count under) (k + 1) (part_rest toks names s lo hi clean body listing l m a first under rest p) own i b
      ]

  -- what an item asks for
  pub item_asks : (body listing : Bool) (l m : Label) (a first : ℕ) (under rest : Forest) → IsPart toks names s lo hi clean body listing l a (node m first under rest) → is_item_production m.production ≡ true
      → ((i : ℕ) → In i (bare_in under) → In i bare) → (i : ℕ) → In i (asked_in (node_of m first under)) → IsWithin a (a + token_count under) i × IsAsked i
  item_asks body listing l m a first under rest p e into i v =
      let x = p.each in
      let d = p.told in
      let w = p.tokens in
      elim (in_split i (used_in m 0 under) (bare_at m under ++ bare_in under) v) [
        | inl b ↦ (
          used_range under m 0 a i a (a + token_count under) w.1 (omega arith) (omega arith) b,
          used_asked under (inside_of toks names s lo hi clean body m) (listing_of toks names s lo hi clean listing l m) m a 0
              (part_under toks names s lo hi clean body listing l m a first under rest p) (own_ok m.production _ l m first under refl x.0 d.0) i b,
        )
        | inr b ↦
            let c : In i (bare_in under) = subst (λ xs. In i (xs ++ bare_in under)) (item_bare m.production m.alternative under e) b in
            (bare_range under a i a (a + token_count under) w.1 (omega arith) (omega arith) c, bare_asked i (into i c))
      ]
