-- The list whose names a body begins with is no part of an argument of a call with a new order.
use Rattle.std.proofs.Common.{ℕ, ◌≡◌, Bool, true, false, ◌&&◌, ◌||◌, not, if◌then◌else◌, List, [], ◌∷◌, ◌++◌, Option, None, Some, ◌⊎◌, inl, inr, refl, sym, ap, ◌∙◌}
use Rattle.std.specs.Option.{option_map_or, option_or}
use Rattle.std.proofs.lemmas.Bool.{false≢true, and_parts}
use Rattle.std.proofs.lemmas.Option.{same_Some}
use Rattle.cs_base.proofs.BoolLemmas.{not_true}
use Rattle.c99_grammar.specs.declared.dialects.Edition.{Edition}
use Rattle.c99_tree.specs.Tree.{Forest, none, token, node}
use Rattle.c99_tree.specs.declared.production.Label.{Label}
use Rattle.c99_tree.specs.declared.production.Production.{Production}
use Rattle.c99_tree.specs.declared.production.Production.TheVariants.{TranslationUnit, External, ExtRest, ExtTail, FunBody}
use Rattle.c99_tree.specs.contracts.production.ProductionPartialEq.TheImpl.{ghosts}
use Rattle.c99_grammar.specs.Standard.{iso}
use Rattle.c_types.specs.Trees.{is_node, is_list, has_node, last_token, first_list}
use Rattle.tree_laws.proofs.Lookups.{In}
use Rattle.reordered_tree_laws.specs.Premises.{has_outer_list}
use Rattle.reordered_tree_laws.specs.Reordered.{is_among}
use Rattle.template_rules.specs.ScopeOffences.{begins_body, body_list, body_lists_in}
use Rattle.template_meaning.specs.Children.{a_node, children, EachNode, IsOfAlternative}
use Rattle.template_meaning.specs.Forms.{BodyListIsOuter, HasOuterList}
use Rattle.template_meaning.proofs.FitTable.{is_body, not_these, all_nodes}
use Rattle.template_meaning.proofs.FitWalk.{body_same, RestIs, rest_shape, tail_shape}
use Rattle.template_meaning.proofs.ItemTable.{is_top, is_upper, no_tops}
use Rattle.template_meaning.proofs.Parens.{in_first, in_last}

-- ---- The first list

none_step : (c : Bool) (k : ℕ) (o r : Option ℕ) (inner behind : Bool) → (if c then Some k else option_or o r) ≡ None → (r ≡ None → behind ≡ true)
    → (if c then true else option_map_or (λ k. inner) o behind) ≡ true
none_step true k o r inner behind e go = refl
none_step false k None r inner behind e go = go e
none_step false k (Some j) r inner behind e go = absurd (cc)

some_step : (c : Bool) (k found : ℕ) (o r : Option ℕ) (inner behind : Bool) → (if c then Some k else option_or o r) ≡ Some found → (c ≡ false → o ≡ Some found → inner ≡ true)
    → (r ≡ Some found → behind ≡ true) → (if c then true else option_map_or (λ k. inner) o behind) ≡ true
some_step true k found o r inner behind e here go = refl
some_step false k found None r inner behind e here go = go e
some_step false k found (Some j) r inner behind e here go = here refl e

module _ (lists : ℕ → Bool) where
  -- where there is none
  none_outer : (f : Forest) (listed : Bool) → first_list f ≡ None → has_outer_list lists listed f ≡ true
  none_outer none listed e = refl
  none_outer (token i rest) listed e = none_outer rest listed e
  none_outer (node l first under rest) listed e =
      none_step (is_list l) (last_token under 0) (first_list under) (first_list rest) (not listed && has_outer_list lists (is_among lists l under) under) (has_outer_list lists listed rest) e
      (none_outer rest listed)

  -- it does not end in an argument list with a new order
  abbrev pub IsFree : ℕ → Label → Forest → Type 0
  IsFree found l under = is_list l ≡ false → is_among lists l under ≡ true → first_list under ≡ Some found → ⊥

  some_outer : (f : Forest) (found : ℕ) → first_list f ≡ Some found → EachNode (IsFree found) f → has_outer_list lists false f ≡ true
  some_outer none found e free = refl
  some_outer (token i rest) found e free = some_outer rest found e free
  some_outer (node l first under rest) found e free =
      some_step (is_list l) (last_token under 0) found (first_list under) (first_list rest) (has_outer_list lists (is_among lists l under) under) (has_outer_list lists false rest) e
      (λ no_list at. by (is_among lists l under) refl no_list at (some_outer under found at free.1))
      (λ at. some_outer rest found at free.2)
    where
      by : (c : Bool) → is_among lists l under ≡ c → is_list l ≡ false → first_list under ≡ Some found → has_outer_list lists false under ≡ true → has_outer_list lists c under ≡ true
      by true e no_list at h = absurd (free.0 no_list e at)
      by false e no_list at h = h

  outer : (f : Forest) (o : Option ℕ) → first_list f ≡ o → ((found : ℕ) → o ≡ Some found → EachNode (IsFree found) f) → has_outer_list lists false f ≡ true
  outer f None e free = none_outer f false e
  outer f (Some found) e free = some_outer f found e (free found refl)

-- ---- External declarations

ext_named : (q : Production) → ghosts.eq q ExtRest ≡ true → q ≡ ExtRest
ext_named ExtRest e = refl
ext_named _ e = absurd (false≢true e)

ext_top : (q : Production) → is_top q ≡ false → ghosts.eq q ExtRest ≡ false
ext_top TranslationUnit e = refl
ext_top External e = refl
ext_top ExtRest e = absurd (false≢true (sym e))
ext_top _ e = refl

top_upper : (q : Production) → is_top q ≡ false → is_upper q ≡ false
top_upper TranslationUnit e = e
top_upper External e = e
top_upper ExtRest e = refl
top_upper _ e = refl

in_option : (k : ℕ) (o : Option ℕ) → o ≡ Some k → In k (option_map_or (λ j. j ∷ []) o [])
in_option k None e = absurd (cc)
in_option k (Some j) e = inl (same_Some j k e)

in_if : (c : Bool) (k : ℕ) (xs : List ℕ) → c ≡ true → In k xs → In k (if c then xs else [])
in_if true k xs e w = w
in_if false k xs e w = absurd (false≢true e)

one_begins : (f : Forest) → children f ≡ a_node FunBody ∷ [] → begins_body f ≡ true
one_begins none e = absurd (cc)
one_begins (token i rest) e = absurd (cc)
one_begins (node l first under rest) e = let is : l.production ≡ FunBody = cc in ap (λ q. ghosts.eq q FunBody) is

or_parts_of : (a b : Bool) → (a || b) ≡ true → (a ≡ true) ⊎ (b ≡ true)
or_parts_of true b e = inl refl
or_parts_of false b e = inr e

module _ (s : Edition) (lists : ℕ → Bool) where
  has_all : (f : Forest) → has_node FunBody f ≡ true → all_nodes (not_these is_body) (children f) ≡ false
  has_all none e = absurd (false≢true e)
  has_all (token i rest) e = has_all rest e
  has_all (node l first under rest) e = by (is_body l.production) (sym (body_same l.production)) (or_parts_of (is_node l FunBody) (has_node FunBody rest) e) (has_all rest)
    where
      by : (c : Bool) → is_body l.production ≡ is_node l FunBody → (is_node l FunBody ≡ true) ⊎ (has_node FunBody rest ≡ true)
          → (has_node FunBody rest ≡ true → all_nodes (not_these is_body) (children rest) ≡ false) → (not (is_body l.production) && all_nodes (not_these is_body) (children rest)) ≡ false
      by c same (inl h) go = ap (λ d. not d && all_nodes (not_these is_body) (children rest)) (same ∙ h)
      by c same (inr h) go = ap (λ d. not (is_body l.production) && d) (go h) ∙ none_of (not (is_body l.production))
        where
          none_of : (d : Bool) → (d && false) ≡ false
          none_of true = refl
          none_of false = refl

  -- of a declarator and a body
  here_outer : (l : Label) (under : Forest) → IsOfAlternative (iso s) l under → EachNode (IsOfAlternative (iso s)) under → l.production ≡ ExtRest
      → ((found : ℕ) → In found (body_list under) → EachNode (IsFree lists found) under) → BodyListIsOuter lists under
  here_outer l none x each named free = tt
  here_outer l (token i rest) x each named free = tt
  here_outer l (node d first declarator none) x each named free = tt
  here_outer l (node d first declarator (token i rest)) x each named free = tt
  here_outer l (node d first declarator (node m second tail rest)) x each named free = λ has.
      let shape = rest_shape s lists l (node d first declarator (node m second tail rest)) x named in
      let tail_is : m.production ≡ ExtTail = by shape in
      let bodied : begins_body tail ≡ true = one_begins tail (tail_shape s lists m tail each.2.0 tail_is (has_all tail has)) in
      outer lists declarator (first_list declarator) refl
      (λ found e. (free found (in_if (begins_body tail) found (option_map_or (λ k. k ∷ []) (first_list declarator) []) bodied (in_option found (first_list declarator) e))).1)
    where
      by : RestIs s lists (children (node d first declarator (node m second tail rest))) → m.production ≡ ExtTail
      by (inl e) = absurd (cc)
      by (inr e) = cc

  -- no such declaration below
  no_more : (f : Forest) → EachNode (IsOfAlternative (iso s)) f → all_nodes (not_these is_top) (children f) ≡ true → EachNode (HasOuterList lists) f
  no_more none each h = tt
  no_more (token i rest) each h = no_more rest each h
  no_more (node l first under rest) each h =
      let parts = and_parts (not (is_top l.production)) (all_nodes (not_these is_top) (children rest)) h in
      let no_top = not_true (is_top l.production) parts.0 in (
        λ e. absurd (false≢true (sym (ext_top l.production no_top) ∙ e)),
        no_more under each.1 (no_tops s l under each.0 (top_upper l.production no_top)),
        no_more rest each.2 parts.1,
      )

  pub outer_each : (f : Forest) → EachNode (IsOfAlternative (iso s)) f → ((found : ℕ) → In found (body_lists_in f) → EachNode (IsFree lists found) f) → EachNode (HasOuterList lists) f
  outer_each none each free = tt
  outer_each (token i rest) each free = outer_each rest each free
  outer_each (node l first under rest) each free =
      by (is_node l ExtRest) refl free (λ g. outer_each under each.1 g) (outer_each rest each.2)
    where
      by : (c : Bool) → is_node l ExtRest ≡ c
          → ((found : ℕ) → In found ((if c then body_list under else body_lists_in under) ++ body_lists_in rest) → EachNode (IsFree lists found) (node l first under rest))
          → (((found : ℕ) → In found (body_lists_in under) → EachNode (IsFree lists found) under) → EachNode (HasOuterList lists) under)
          → (((found : ℕ) → In found (body_lists_in rest) → EachNode (IsFree lists found) rest) → EachNode (HasOuterList lists) rest)
          → EachNode (HasOuterList lists) (node l first under rest)
      by true e free below behind =
          let named = ext_named l.production e in (
            λ _. here_outer l under each.0 each.1 named (λ found w. (free found (in_first found (body_list under) (body_lists_in rest) w)).1),
            no_more under each.1 (no_tops s l under each.0 (ap is_upper named)),
            behind (λ found w. (free found (in_last found (body_list under) (body_lists_in rest) w)).2),
          )
      by false e free below behind = (
        λ h. absurd (false≢true (sym e ∙ h)),
        below (λ found w. (free found (in_first found (body_lists_in under) (body_lists_in rest) w)).1),
        behind (λ found w. (free found (in_last found (body_lists_in under) (body_lists_in rest) w)).2),
      )
