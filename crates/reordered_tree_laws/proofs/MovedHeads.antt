-- What stands first in a tree whose lists are in a new order: the first token, and the first list of a declarator that is no
-- part of an item.
use Rattle.std.proofs.Common.{ℕ, zero, suc, ◌+◌, ◌-◌, ◌≤◌, ◌≡◌, Bool, true, false, ◌&&◌, ◌||◌, not, if◌then◌else◌, ◌==◌, List, [], ◌∷◌, length, get_or, Option, None, Some, inl, inr, refl, sym, ap, subst, ◌∙◌, arith, append-nil}
use Rattle.std.specs.Prelude.{nat_lt, IsPermutation}
use Rattle.std.specs.Option.{option_or, option_map_or}
use Rattle.std.proofs.lemmas.Bool.{false≢true, cases_Bool, ltb-true, ltb-false, and_parts, and_from}
use Rattle.std.proofs.lemmas.List.Sorted.{length_permutation}
use Rattle.cs_base.proofs.BoolLemmas.{not_true as not_false, not_false as not_true, or_met as or_not}
use Rattle.c99_tree.specs.Tree.{Forest, none, token, node, Node}
use Rattle.c99_tree.specs.declared.production.Label.{Label}
use Rattle.c99_tree.specs.declared.production.Production.{Production}
use Rattle.c99_tree.specs.declared.production.Production.TheVariants.{Declarator, Args, Params}
use Rattle.c99_tree.specs.contracts.production.ProductionPartialEq.TheImpl.{ghosts}
use Rattle.c_types.specs.Trees.{is_node, is_list, last_token, first_list}
use Rattle.name_chains.specs.Entering.{scope_in}
use Rattle.scope_bind.specs.Named.{Scope}
use Rattle.tree_laws.specs.TreesOfTexts.{token_count, AreFrom, begins_with_token}
use Rattle.list_cuts.specs.Cuts.{Cut, done, arranged, IsOrder, AreOf}
use Rattle.list_cuts.proofs.CutLemmas.{arranged_permutes}
use Rattle.reordered_tree_laws.specs.Reordered.{nodes_in, refilled, no_node, picked_nodes, shuffled, is_among, permuted, leaves}
use Rattle.reordered_tree_laws.specs.Cuts.{cut_then, list_then}
use Rattle.reordered_tree_laws.specs.Premises.{is_items, is_spaced, is_bracketed, has_outer_list, is_fit_child, is_fit}
use Rattle.reordered_tree_laws.specs.Moving.{AreMovedTo}
use Rattle.reordered_tree_laws.proofs.Arranged.{length-leaves, leaves-cut, rest_all, cut_all}
use Rattle.reordered_tree_laws.proofs.Seen.{orders_not_seen}
use Rattle.reordered_tree_laws.proofs.MovedWalk.{fit_shape}

-- ---- No list at all

abbrev no_lists : Forest → Bool
no_lists none = true
no_lists (token i rest) = no_lists rest
no_lists (node l first under rest) = not (is_list l) && (no_lists under && no_lists rest)

abbrev free_node : Node → Bool
free_node n = not (is_list n.label) && no_lists n.under

abbrev all_free : List Node → Bool
all_free [] = true
all_free (n ∷ ns) = free_node n && all_free ns

none_or : (a b : Option ℕ) → option_or a b ≡ None → (a ≡ None) × (b ≡ None)
none_or None b e = (refl, e)
none_or (Some x) b e = absurd cc

no_list_if : (c : Bool) (k : ℕ) (r : Option ℕ) → (if c then Some k else r) ≡ None → (c ≡ false) × (r ≡ None)
no_list_if true k r e = absurd cc
no_list_if false k r e = (refl, e)

none_free : (f : Forest) → first_list f ≡ None → no_lists f ≡ true
none_free none e = refl
none_free (token i rest) e = none_free rest e
none_free (node l first under rest) e =
    let p = no_list_if (is_list l) (last_token under 0) (option_or (first_list under) (first_list rest)) e in
    let q = none_or (first_list under) (first_list rest) p.1 in
    and_from (not (is_list l)) (no_lists under && no_lists rest) (not_true (is_list l) p.0)
    (and_from (no_lists under) (no_lists rest) (none_free under q.0) (none_free rest q.1))

free_none : (f : Forest) → no_lists f ≡ true → first_list f ≡ None
free_none none e = refl
free_none (token i rest) e = free_none rest e
free_none (node l first under rest) e =
    let p = and_parts (not (is_list l)) (no_lists under && no_lists rest) e in
    let q = and_parts (no_lists under) (no_lists rest) p.1 in
    ap (λ c. if c then Some (last_token under 0) else option_or (first_list under) (first_list rest)) (not_false (is_list l) p.0)
    ∙ (ap (λ r. option_or r (first_list rest)) (free_none under q.0) ∙ free_none rest q.1)

nodes_free : (f : Forest) → no_lists f ≡ true → all_free (nodes_in f) ≡ true
nodes_free none e = refl
nodes_free (token i rest) e = nodes_free rest e
nodes_free (node l first under rest) e =
    let p = and_parts (not (is_list l)) (no_lists under && no_lists rest) e in
    let q = and_parts (no_lists under) (no_lists rest) p.1 in
    and_from (not (is_list l) && no_lists under) (all_free (nodes_in rest)) (and_from (not (is_list l)) (no_lists under) p.0 q.0) (nodes_free rest q.1)

got_free : (ns : List Node) (k : ℕ) → all_free ns ≡ true → free_node (get_or ns k no_node) ≡ true
got_free [] k e = refl
got_free (n ∷ ns) zero e = (and_parts (free_node n) (all_free ns) e).0
got_free (n ∷ ns) (suc k) e = got_free ns k ((and_parts (free_node n) (all_free ns) e).1)

picked_free : (order : List ℕ) (ns : List Node) → all_free ns ≡ true → all_free (picked_nodes order ns) ≡ true
picked_free [] ns e = refl
picked_free (k ∷ order) ns e =
    and_from (free_node (get_or ns (k - 1) no_node)) (all_free (picked_nodes order ns)) (got_free ns (k - 1) e) (picked_free order ns e)

refilled_free : (ns : List Node) (f : Forest) → all_free ns ≡ true → no_lists f ≡ true → no_lists (refilled ns f) ≡ true
refilled_free ns none e h = refl
refilled_free ns (token i rest) e h = refilled_free ns rest e h
refilled_free [] (node l first under rest) e h = h
refilled_free (n ∷ ns) (node l first under rest) e h =
    let p = and_parts (not (is_list l)) (no_lists under && no_lists rest) h in
    let q = and_parts (no_lists under) (no_lists rest) p.1 in
    let r = and_parts (free_node n) (all_free ns) e in
    let s = and_parts (not (is_list n.label)) (no_lists n.under) r.0 in
    and_from (not (is_list n.label)) (no_lists n.under && no_lists (refilled ns rest)) s.0
    (and_from (no_lists n.under) (no_lists (refilled ns rest)) s.1 (refilled_free ns rest r.1 q.1))

module _ (order : List ℕ) (lists : ℕ → Bool) where
  either_free : (c : Bool) (f g : Forest) → no_lists f ≡ true → no_lists g ≡ true → no_lists (if c then f else g) ≡ true
  either_free true f g h k = h
  either_free false f g h k = k

  permuted_free : (b : Bool) (f : Forest) → no_lists f ≡ true → no_lists (permuted order lists b f) ≡ true
  permuted_free b none e = refl
  permuted_free b (token i rest) e = permuted_free b rest e
  permuted_free b (node l first under rest) e =
      let p = and_parts (not (is_list l)) (no_lists under && no_lists rest) e in
      let q = and_parts (no_lists under) (no_lists rest) p.1 in
      let g : Forest = permuted order lists false under in
      let free : no_lists g ≡ true = permuted_free false under q.0 in
      let new : Forest = if b then shuffled order g else permuted order lists (is_among lists l under) under in
      and_from (not (is_list l)) (no_lists new && no_lists (permuted order lists b rest)) p.0
      (and_from (no_lists new) (no_lists (permuted order lists b rest))
      (either_free b (shuffled order g) (permuted order lists (is_among lists l under) under)
      (refilled_free (picked_nodes order (nodes_in g)) g (picked_free order (nodes_in g) (nodes_free g free)) free)
      (permuted_free (is_among lists l under) under q.0))
      (permuted_free b rest q.1))

  none_stays : (b : Bool) (f : Forest) → first_list f ≡ None → first_list (permuted order lists b f) ≡ None
  none_stays b f e = free_none (permuted order lists b f) (permuted_free b f (none_free f e))

  -- ---- The first list

  last_bracketed : (f : Forest) (k : ℕ) → is_bracketed f ≡ true → last_token (permuted order lists true f) k ≡ last_token f k
  last_bracketed none k e = absurd (false≢true e)
  last_bracketed (node l first under rest) k e = absurd (false≢true e)
  last_bracketed (token i none) k e = absurd (false≢true e)
  last_bracketed (token i (token j none)) k e = refl
  last_bracketed (token i (token j (token n rest))) k e = absurd (false≢true e)
  last_bracketed (token i (token j (node l first under rest))) k e = absurd (false≢true e)
  last_bracketed (token i (node l first under none)) k e = absurd (false≢true e)
  last_bracketed (token i (node l first under (node n second below rest))) k e = absurd (false≢true e)
  last_bracketed (token i (node l first under (token j (token n rest)))) k e = absurd (false≢true e)
  last_bracketed (token i (node l first under (token j (node n second below rest)))) k e = absurd (false≢true e)
  last_bracketed (token i (node l first under (token j none))) k e = refl

  last_either : (b : Bool) (f : Forest) → (b ≡ true → is_bracketed f ≡ true) → last_token (permuted order lists b f) 0 ≡ last_token f 0
  last_either true f e = last_bracketed f 0 (e refl)
  last_either false f e = (orders_not_seen order lists f).last 0

  no_items_list : (p : Production) (a : ℕ) → (ghosts.eq p Args || (ghosts.eq p Params && not (a == 1))) ≡ true → is_list (record { production = p; alternative = a }) ≡ false
  no_items_list Args a e = refl
  no_items_list Params a e = refl
  no_items_list _ a e = absurd (false≢true e)

  inner_none : (c : Bool) (r : Option ℕ) (x : Bool) → c ≡ false
      → (if c then true else option_map_or (λ (k : ℕ). not true && x) r true) ≡ true → r ≡ None
  inner_none true r x w e = absurd (false≢true (sym w))
  inner_none false None x w e = refl
  inner_none false (Some k) x w e = absurd (false≢true e)

  -- no list stands in a list whose first one is outside
  bracketed_none : (f : Forest) → is_bracketed f ≡ true → has_outer_list lists true f ≡ true → first_list f ≡ None
  bracketed_none none e h = absurd (false≢true e)
  bracketed_none (node l first under rest) e h = absurd (false≢true e)
  bracketed_none (token i none) e h = absurd (false≢true e)
  bracketed_none (token i (token j none)) e h = refl
  bracketed_none (token i (token j (token n rest))) e h = absurd (false≢true e)
  bracketed_none (token i (token j (node l first under rest))) e h = absurd (false≢true e)
  bracketed_none (token i (node l first under none)) e h = absurd (false≢true e)
  bracketed_none (token i (node l first under (node n second below rest))) e h = absurd (false≢true e)
  bracketed_none (token i (node l first under (token j (token n rest)))) e h = absurd (false≢true e)
  bracketed_none (token i (node l first under (token j (node n second below rest)))) e h = absurd (false≢true e)
  bracketed_none (token i (node l first under (token j none))) e h =
      let items : is_list l ≡ false = no_items_list l.production l.alternative ((and_parts (is_items l) (is_spaced false under) e).0) in
      let none_in : first_list under ≡ None = inner_none (is_list l) (first_list under) (has_outer_list lists (is_among lists l under) under) items h in
      ap (λ c. if c then Some (last_token under 0) else option_or (first_list under) None) items ∙ ap (λ r. option_or r None) none_in

  outer_case : (c : Bool) (r : Option ℕ) (x y : Bool) → (if c then true else option_map_or (λ (k : ℕ). not false && x) r y) ≡ true → c ≡ false
      → (r ≡ None → y ≡ true) × ((r ≡ None → ⊥) → x ≡ true)
  outer_case true r x y e w = absurd (false≢true (sym w))
  outer_case false None x y e w = (λ q. e, λ q. absurd (q refl))
  outer_case false (Some k) x y e w = (λ q. absurd cc, λ q. e)

  first_if : (c : Bool) (a b : ℕ) (x y : Option ℕ) → (c ≡ true → a ≡ b) → (c ≡ false → x ≡ y) → (if c then Some a else x) ≡ (if c then Some b else y)
  first_if true a b x y f g = ap (λ (k : ℕ). Some k) (f refl)
  first_if false a b x y f g = g refl

  either_list : (a b x y : Option ℕ) → (b ≡ None → (a ≡ None) × (x ≡ y)) → ((b ≡ None → ⊥) → a ≡ b) → option_or a x ≡ option_or b y
  either_list a None x y f g = let p = f refl in ap (λ r. option_or r x) p.0 ∙ p.1
  either_list a (Some k) x y f g = let e = g (λ q. absurd cc) in ap (λ r. option_or r x) e

  pub heads_stay : (f : Forest) (l : Label) (own : Bool) (k : ℕ) (scope : Scope) (keeps : Bool) → is_fit lists l own k scope keeps f ≡ true
      → has_outer_list lists false f ≡ true → first_list (permuted order lists false f) ≡ first_list f
  heads_stay none l own k scope keeps e h = refl
  heads_stay (token i rest) l own k scope keeps e h = heads_stay rest l (not (is_items l)) (k + 1) scope keeps e h
  heads_stay (node m first under rest) l own k scope keeps e h =
      let b : Bool = is_among lists m under in
      let any : Bool = if is_node m Declarator then has_outer_list lists false under else keeps in
      let child : Bool = is_fit_child lists l own k scope keeps m under in
      let below : Bool = is_fit lists m false 0 (scope_in m.production m under scope) keeps under in
      let more : Bool = is_fit lists l own (k + 1) scope any rest in
      let p = and_parts child (below && more) e in
      let q = and_parts below more p.1 in
      let shape : (not b || is_bracketed under) ≡ true = fit_shape lists l own k scope keeps m under p.0 in
      let g : Forest = permuted order lists b under in
      let more_same : has_outer_list lists false rest ≡ true → first_list (permuted order lists false rest) ≡ first_list rest =
      heads_stay rest l own (k + 1) scope any q.1 in
      let under_same : has_outer_list lists false under ≡ true → first_list (permuted order lists false under) ≡ first_list under =
      heads_stay under m false 0 (scope_in m.production m under scope) keeps q.0 in
      first_if (is_list m) (last_token g 0) (last_token under 0) (option_or (first_list g) (first_list (permuted order lists false rest)))
      (option_or (first_list under) (first_list rest)) (λ c. last_either b under (λ w. or_not b (is_bracketed under) shape w))
      (λ c.
      let w = outer_case (is_list m) (first_list under) (has_outer_list lists b under) (has_outer_list lists false rest) h c in
      either_list (first_list g) (first_list under) (first_list (permuted order lists false rest)) (first_list rest)
      (λ empty. (none_stays b under empty, more_same (w.0 empty)))
      (λ some. by b (λ v. or_not b (is_bracketed under) shape v) (w.1 some) some under_same))
    where
      by : (c : Bool) → (c ≡ true → is_bracketed under ≡ true) → has_outer_list lists c under ≡ true → (first_list under ≡ None → ⊥)
          → (has_outer_list lists false under ≡ true → first_list (permuted order lists false under) ≡ first_list under)
          → first_list (permuted order lists c under) ≡ first_list under
      by true shape x some same = absurd (some (bracketed_none under (shape refl) x))
      by false shape x some same = same x

  -- ---- Cuts

  list_front : (f : Forest) (c d : Cut) → AreOf (length order) (list_then lists f c) → AreOf (length order) d → AreOf (length order) (list_then lists f d)
  list_front none c d all h = h
  list_front (token i rest) c d all h = list_front rest c d all h
  list_front (node l first under rest) c d all h = (all.0, all.1, h)

  pub cut_front : (b : Bool) (f : Forest) (c d : Cut) → AreOf (length order) (cut_then lists b f c) → AreOf (length order) d → AreOf (length order) (cut_then lists b f d)
  cut_front true none c d all h = h
  cut_front false none c d all h = h
  cut_front true (token i rest) c d all h = cut_front true rest c d all h
  cut_front false (token i rest) c d all h = cut_front false rest c d all h
  cut_front true (node l first under rest) c d all h =
      list_front under (cut_then lists true rest c) (cut_then lists true rest d) all
      (cut_front true rest c d (rest_all order lists under (cut_then lists true rest c) all) h)
  cut_front false (node l first under rest) c d all h =
      cut_front (is_among lists l under) under (cut_then lists false rest c) (cut_then lists false rest d) all
      (cut_front false rest c d (cut_all order lists (is_among lists l under) under (cut_then lists false rest c) all) h)

  -- ---- The first token

  module _ (is : IsOrder (length order) order) where
    pub leaves_permute : (b : Bool) (f : Forest) → AreOf (length order) (cut_then lists b f done) → IsPermutation (leaves f) (leaves (permuted order lists b f))
    unfolding arranged
    leaves_permute b f each =
        let c : Cut = cut_then lists b f done in
        let same : arranged order c (leaves f) ≡ leaves (permuted order lists b f) =
        ap (λ (xs : List ℕ). arranged order c xs) (sym (append-nil (leaves f))) ∙ (leaves-cut order lists b f done [] each ∙ append-nil (leaves (permuted order lists b f))) in
        subst (λ (xs : List ℕ). IsPermutation (leaves f) xs) same (arranged_permutes (length order) order c (leaves f) is each)

    pub count_permuted : (b : Bool) (f : Forest) → AreOf (length order) (cut_then lists b f done) → token_count (permuted order lists b f) ≡ token_count f
    count_permuted b f each =
        sym (length-leaves (permuted order lists b f)) ∙ (length_permutation (leaves f) (leaves (permuted order lists b f)) (leaves_permute b f each) ∙ length-leaves f)

    begins_there : (m : ℕ → ℕ) (f : Forest) (lo there : ℕ) → AreFrom lo f → AreMovedTo m there (permuted order lists true f) → begins_with_token f ≡ true → m lo ≡ there
    begins_there m none lo there a w e = absurd (false≢true e)
    begins_there m (token i rest) lo there a w e = ap m (sym a.0) ∙ w.0
    begins_there m (node l first under rest) lo there a w e = absurd (false≢true e)

    bracketed_begins : (f : Forest) → is_bracketed f ≡ true → begins_with_token f ≡ true
    bracketed_begins none e = absurd (false≢true e)
    bracketed_begins (token i rest) e = refl
    bracketed_begins (node l first under rest) e = absurd (false≢true e)

    first_there : (m : ℕ → ℕ) (b : Bool) (under : Forest) (lo there : ℕ) → AreFrom lo under → AreMovedTo m there (permuted order lists b under)
        → AreOf (length order) (cut_then lists b under done) → (b ≡ true → is_bracketed under ≡ true)
        → (AreMovedTo m there (permuted order lists false under) → AreOf (length order) (cut_then lists false under done) → m lo ≡ there) → m lo ≡ there
    first_there m true under lo there a w each shape next = begins_there m under lo there a w (bracketed_begins under (shape refl))
    first_there m false under lo there a w each shape next = next w each

    pub lowest_stays : (m : ℕ → ℕ) (f : Forest) (lo there : ℕ) (l : Label) (own : Bool) (k : ℕ) (scope : Scope) (keeps : Bool) → AreFrom lo f
        → AreMovedTo m there (permuted order lists false f) → is_fit lists l own k scope keeps f ≡ true → AreOf (length order) (cut_then lists false f done)
        → 1 ≤ token_count f → m lo ≡ there
    lowest_stays m none lo there l own k scope keeps a w e each some = absurd (omega (arith, some))
    lowest_stays m (token i rest) lo there l own k scope keeps a w e each some = ap m (sym a.0) ∙ w.0
    lowest_stays m (node x first under rest) lo there l own k scope keeps a w e each some =
        let b : Bool = is_among lists x under in
        let any : Bool = if is_node x Declarator then has_outer_list lists false under else keeps in
        let child : Bool = is_fit_child lists l own k scope keeps x under in
        let below : Bool = is_fit lists x false 0 (scope_in x.production x under scope) keeps under in
        let more : Bool = is_fit lists l own (k + 1) scope any rest in
        let p = and_parts child (below && more) e in
        let q = and_parts below more p.1 in
        let shape : (not b || is_bracketed under) ≡ true = fit_shape lists l own k scope keeps x under p.0 in
        let here : AreOf (length order) (cut_then lists b under done) = cut_front b under (cut_then lists false rest done) done each tt in
        let later : AreOf (length order) (cut_then lists false rest done) = cut_all order lists b under (cut_then lists false rest done) each in
        elim (cases_Bool (nat_lt 0 (token_count under))) [
          | inl full ↦
              first_there m b under lo there a.1 w.0 here (λ v. or_not b (is_bracketed under) shape v)
              (λ u v.
              lowest_stays m under lo there x false 0 (scope_in x.production x under scope) keeps a.1 u q.0 v (ltb-true 0 (token_count under) full))
          | inr empty ↦
              let void : token_count under ≡ 0 = omega (arith, ltb-false 0 (token_count under) empty) in
              let count : token_count (permuted order lists b under) ≡ 0 = count_permuted b under here ∙ void in
              let low : lo + token_count under ≡ lo = omega (arith, void) in
              let high : there + token_count (permuted order lists b under) ≡ there = omega (arith, count) in
              lowest_stays m rest lo there l own (k + 1) scope any (subst (λ (n : ℕ). AreFrom n rest) low a.2)
              (subst (λ (n : ℕ). AreMovedTo m n (permuted order lists false rest)) high w.1) q.1 later (omega (arith, some, void))
        ]
