-- What is known where a part of a unit begins names only tokens in front of it.
use Rattle.std.proofs.Common.{ℕ, ◌+◌, ◌<◌, ◌≤◌, ◌≡◌, Bool, true, false, ◌&&◌, ◌||◌, not, if◌then◌else◌, ◌==◌, List, Option, Some, inl, inr, refl, sym, ap, subst, arith}
use Rattle.std.specs.Prelude.{nat_lt}
use Rattle.std.specs.List.{All}
use Rattle.std.proofs.lemmas.Bool.{false≢true, cases_Bool, ltb-true, ltb-false, lt-ltb, and_parts}
use Rattle.std.proofs.lemmas.List.Elements.{All-weaker}
use Rattle.cs_base.specs.Token.{Token}
use Rattle.c99_tree.specs.Tree.{Forest, none, token, node}
use Rattle.c99_tree.specs.declared.production.Label.{Label}
use Rattle.c99_tree.specs.declared.production.Production.{Production}
use Rattle.c99_tree.specs.declared.production.Production.TheVariants.{Enumerator, MemRest}
use Rattle.c99_tree.specs.contracts.production.ProductionPartialEq.TheImpl.{ghosts}
use Rattle.c_types.specs.Trees.{is_at, name_below}
use Rattle.name_chains.specs.Frames.{State}
use Rattle.name_chains.specs.Entering.{entered}
use Rattle.name_chains.specs.Members.{with_anonymous}
use Rattle.c_types.specs.Declarations.{Facts}
use Rattle.scope_bind.specs.Named.{Declaration, Body, Frame}
use Rattle.scope_bind.specs.Walk.{passed, facts_after, left, walked}
use Rattle.tree_laws.specs.TreesOfTexts.{token_count, AreFrom, begins_with_token, has_form}
use Rattle.tree_laws.proofs.TokenEnds.{begins_some}
use Rattle.reordered_tree_laws.specs.Going.{from_on, IsLow}
use Rattle.reordered_tree_laws.proofs.NodesPass.{are_well}
use Rattle.reordered_tree_laws.specs.Owned.{IsOwnName, IsOwnState}
use Rattle.reordered_tree_laws.proofs.OnlyAdding.{name_in}
use Rattle.reordered_tree_laws.proofs.Owned.{passed_own, entered_own, left_own}

-- ---- Fewer tokens

module _ (p q : ℕ → Bool) (less : (k : ℕ) → p k ≡ false → q k ≡ false) where
  own_name_less : (d : Declaration) → IsOwnName p d → IsOwnName q d
  own_name_less d h = record { ctype = less _ h.ctype; entity = less d.entity h.entity; name = less d.name_at h.name; space = less _ h.space }

  pub own_less : (s : State) → IsOwnState p s → IsOwnState q s
  own_less s k = record {
    declared = All-weaker (IsOwnName p) (IsOwnName q) own_name_less s.facts.declared k.declared;
    frame = record {
      base = less _ k.frame.base;
      given = less _ k.frame.given;
      found = less _ k.frame.found;
      token = less s.frame.token k.frame.token;
      owner = less s.frame.owner k.frame.owner;
    };
  }

and_off : (a b c : Bool) → (b ≡ false → c ≡ false) → (a && b) ≡ false → (a && c) ≡ false
and_off true b c f e = f e
and_off false b c f e = refl

pub further_on : (lo hi k : ℕ) → lo ≤ hi → from_on lo k ≡ false → from_on hi k ≡ false
further_on lo hi k le e = and_off (nat_lt 0 k) (not (nat_lt k lo)) (not (nat_lt k hi)) (λ w. more (nat_lt k lo) w (λ v. lt-ltb k hi (omega (arith, ltb-true k lo v, le)))) e
  where
    more : (c : Bool) → not c ≡ false → (c ≡ true → nat_lt k hi ≡ true) → not (nat_lt k hi) ≡ false
    more true w f = ap not (f refl)
    more false w f = absurd (false≢true (sym w))

pub low_further : (lo hi : ℕ) (s : State) → lo ≤ hi → IsLow lo s → IsLow hi s
low_further lo hi s le k = own_less (from_on lo) (from_on hi) (λ x e. further_on lo hi x le e) s k

pub below_on : (lo k : ℕ) → k < lo → from_on lo k ≡ false
below_on lo k less = by (nat_lt 0 k) (lt-ltb k lo less)
  where
    by : (c : Bool) → nat_lt k lo ≡ true → (c && not (nat_lt k lo)) ≡ false
    by true e = ap not e
    by false e = refl

zero_on : (lo : ℕ) → from_on lo 0 ≡ false
zero_on lo = refl

-- ---- Steps

module _ (toks : List Token) where
  pub low_passed : (lo : ℕ) (s : State) → IsLow lo s → IsLow (lo + 1) (passed toks lo s)
  low_passed lo s k =
      passed_own toks (from_on (lo + 1)) (zero_on (lo + 1)) lo s (below_on (lo + 1) lo (omega arith)) (low_further lo (lo + 1) s (omega arith) k)

  pub low_entered : (lo : ℕ) (l : Label) (under : Forest) (s : State) → IsLow lo s → IsLow lo (entered toks l lo under s)
  low_entered lo l under s k = entered_own toks (from_on lo) (zero_on lo) l lo under s k

  -- where no token stands below, it does not matter which would be the first one
  first_free : (p : Production) (fr : Frame) (l : Label) (lo : ℕ) (under : Forest) (body : Option Body) (f : Facts) → has_form p under ≡ true
      → (not (ghosts.eq p MemRest && (l.alternative == 1)) || begins_with_token under) ≡ true → (begins_with_token under ≡ true → ⊥)
      → facts_after toks p lo fr l under body f ≡ facts_after toks p 0 fr l under body f
  first_free Enumerator fr l lo under body f form member empty = absurd (empty form)
  first_free MemRest fr l lo under body f form member empty = by (l.alternative == 1) member
    where
      by : (c : Bool) → (not (true && c) || begins_with_token under) ≡ true → (if c then with_anonymous toks fr lo f else f) ≡ (if c then with_anonymous toks fr 0 f else f)
      by true e = absurd (empty e)
      by false e = refl
  first_free _ fr l lo under body f form member empty = refl

  pub low_left : (lo : ℕ) (l : Label) (under : Forest) (s s' : State) → AreFrom lo under → has_form l.production under ≡ true
      → (not (is_at l MemRest 1) || begins_with_token under) ≡ true → IsLow lo s → IsLow (lo + token_count under) s'
      → IsLow (lo + token_count under) (left toks l lo under s s')
  low_left lo l under s s' a form member k k' =
      let hi : ℕ = lo + token_count under in
      let own : IsLow hi s = low_further lo hi s (omega arith) k in
      let names : (i : ℕ) → name_below l under ≡ Some i → from_on hi i ≡ false =
      λ i e. below_on hi i ((name_in l under lo i lo hi a (omega arith) (omega arith) e).1) in
      elim (cases_Bool (nat_lt 0 (token_count under))) [
        | inl some ↦ left_own toks (from_on hi) (zero_on hi) l lo under s s' (below_on hi lo (omega (arith, ltb-true 0 (token_count under) some))) names own k'
        | inr empty ↦
            let void : begins_with_token under ≡ true → ⊥ = λ e. omega (arith, begins_some under e, ltb-false 0 (token_count under) empty) in
            let at : IsLow hi (left toks l 0 under s s') = left_own toks (from_on hi) (zero_on hi) l 0 under s s' (zero_on hi) names own k' in
            record {
              declared = subst (λ (f : Facts). All (IsOwnName (from_on hi)) f.declared)
                  (sym (first_free l.production s.frame l lo under s'.frame.body s'.facts form member void)) at.declared;
              frame = at.frame;
            }
      ]

  pub low_walk : (f : Forest) (lo : ℕ) (s : State) → AreFrom lo f → are_well f ≡ true → IsLow lo s → IsLow (lo + token_count f) (walked toks f s)
  unfolding walked
  low_walk none lo s a well k = low_further lo (lo + 0) s (omega arith) k
  low_walk (token i rest) lo s a well k =
      let there : IsLow (lo + 1) (passed toks i s) = subst (λ (j : ℕ). IsLow (lo + 1) (passed toks j s)) (sym a.0) (low_passed lo s k) in
      low_further (lo + 1 + token_count rest) (lo + (token_count rest + 1)) (walked toks rest (passed toks i s)) (omega arith)
      (low_walk rest (lo + 1) (passed toks i s) a.1 well there)
  low_walk (node l first under rest) lo s a well k =
      let n : ℕ = token_count under in
      let member : Bool = not (is_at l MemRest 1) || begins_with_token under in
      let p = and_parts (has_form l.production under && member) (are_well under && are_well rest) well in
      let q = and_parts (has_form l.production under) member p.0 in
      let r = and_parts (are_well under) (are_well rest) p.1 in
      let s1 : State = entered toks l lo under s in
      let s2 : State = left toks l lo under s (walked toks under s1) in
      let inside : IsLow (lo + n) (walked toks under s1) = low_walk under lo s1 a.1 r.0 (low_entered lo l under s k) in
      let behind : IsLow (lo + n + token_count rest) (walked toks rest s2) =
      low_walk rest (lo + n) s2 a.2 r.1 (low_left lo l under s (walked toks under s1) a.1 q.0 q.1 k inside) in
      subst (λ (x : ℕ). IsLow (lo + (n + token_count rest)) (walked toks rest (left toks l x under s (walked toks under (entered toks l x under s))))) (sym a.0)
      (low_further (lo + n + token_count rest) (lo + (n + token_count rest)) (walked toks rest s2) (omega arith) behind)
