-- A unit whose lists are in a new order binds alike, where each list does.
use Rattle.std.proofs.Common.{ℕ, zero, suc, ◌+◌, ◌<◌, ◌≤◌, ◌≡◌, Bool, true, false, ◌&&◌, ◌||◌, not, if◌then◌else◌, ◌==◌, List, [], length, inl, inr, refl, sym, ap, subst, ◌∙◌, arith, append-nil}
use Rattle.std.specs.Prelude.{nat_lt}
use Rattle.std.specs.Option.{option_map}
use Rattle.std.proofs.lemmas.Bool.{false≢true, cases_Bool, ltb-true, ltb-false, and_parts}
use Rattle.std.proofs.lemmas.List.Sorted.{sum_by-IsPermutation}
use Rattle.cs_base.specs.Token.{Token}
use Rattle.cs_base.proofs.BoolLemmas.{or_met as or_not}
use Rattle.c99_tree.specs.Tree.{Forest, none, token, node}
use Rattle.c99_tree.specs.declared.production.Label.{Label}
use Rattle.c99_tree.specs.declared.production.Production.{Production}
use Rattle.c99_tree.specs.declared.production.Production.TheVariants.{MemRest, Enumerator, Declarator, Pdecl, Args, Params, Post, Suffix}
use Rattle.c99_tree.specs.contracts.production.ProductionPartialEq.TheImpl.{ghosts}
use Rattle.c_types.specs.Trees.{is_node, first_token, first_list}
use Rattle.c_types.specs.Parameters.{ends_in_token}
use Rattle.name_chains.specs.Frames.{State, state}
use Rattle.name_chains.specs.Entering.{entered}
use Rattle.scope_bind.specs.Named.{Frame}
use Rattle.scope_bind.specs.Walk.{left}
use Rattle.tree_laws.specs.TreesOfTexts.{token_count, AreFrom, begins_with_token, has_form}
use Rattle.tree_laws.proofs.TokenEnds.{begins_some, last_none as no_last}
use Rattle.list_cuts.specs.Cuts.{done, numbers, IsOrder, AreOf}
use Rattle.reordered_tree_laws.specs.Reordered.{shuffled, is_parenthesised, is_among, permuted, leaves, numbered}
use Rattle.reordered_tree_laws.specs.Cuts.{cut_then}
use Rattle.reordered_tree_laws.specs.Seen.{AreSeenAlike}
use Rattle.reordered_tree_laws.specs.Premises.{is_items, is_spaced, is_bracketed, has_outer_list}
use Rattle.scope_bind.specs.Moved.{AreMovedTexts}
use Rattle.reordered_tree_laws.specs.Moving.{StatesGo, AreMovedTo}
use Rattle.reordered_tree_laws.proofs.Seen.{orders_not_seen}
use Rattle.reordered_tree_laws.proofs.MovedTrees.{AreSeenMoved, AreSpans, seen_numbered, typed_same, last_at}
use Rattle.scope_bind.proofs.MovedSpaces.{same_number}
use Rattle.reordered_tree_laws.proofs.MovedEntering.{ArePlaced, entered_moves}
use Rattle.reordered_tree_laws.proofs.MovedLeaving.{DeclaresAt, left_moves}
use Rattle.reordered_tree_laws.proofs.MovedHeads.{leaves_permute, count_permuted}
use Rattle.reordered_tree_laws.proofs.MovedPlaces.{bit, hit, hits, hits-sum, hits-append, hits-once, hits-before, hits-behind, leaves-numbers}
use Rattle.reordered_tree_laws.proofs.MovedWalk.{count_numbered, from_numbered, name_some, IsFitNode, frames_further}

-- ---- Children of a node that are in another order

-- all that is asked of the children of a node at their old and their new places
pub record AreReordered (m : ℕ → ℕ) (outer : Bool) (lo there : ℕ) (under over : Forest) : Type 0 where
  pub seen : AreSeenMoved m outer under over
  pub placed : ArePlaced m lo there (token_count under) under over
  pub begins : begins_with_token under ≡ true → m lo ≡ there

module _ (m : ℕ → ℕ) (old new : List Token) (law : AreMovedTexts m old new) (order : List ℕ) (lists : ℕ → Bool) (is : IsOrder (length order) order) where
  -- ---- Places

  split_hits : (x a b from : ℕ) → hits x (numbers from (a + b)) ≡ hits x (numbers from a) + hits x (numbers (from + a) b)
  unfolding numbers
  split_hits x zero b from =
      let more : 0 + b ≡ b = omega arith in
      let there : from ≡ from + 0 = omega arith in
      let last : hits x (numbers (from + 0) b) ≡ 0 + hits x (numbers (from + 0) b) = omega arith in
      ap (λ (n : ℕ). hits x (numbers from n)) more ∙ (ap (λ (n : ℕ). hits x (numbers n b)) there ∙ last)
  split_hits x (suc a) b from =
      let same : suc a + b ≡ suc (a + b) = omega arith in
      let next : hits x (numbers (from + 1 + a) b) ≡ hits x (numbers (from + suc a) b) = ap (λ (n : ℕ). hits x (numbers n b)) (omega arith) in
      ap (λ (n : ℕ). hits x (numbers from n)) same ∙ omega (arith, split_hits x a b (from + 1), next)

  -- a token below is one of those to whose places they are moved
  moved_hits : (g : Forest) (there k : ℕ) → AreMovedTo m there g → hits k (leaves g) ≡ hits (m k) (numbers there (token_count g))
  unfolding numbers
  moved_hits none there k w = refl
  moved_hits (token i rest) there k w =
      let one : token_count rest + 1 ≡ suc (token_count rest) = omega arith in
      let here : hit k i ≡ hit (m k) there = ap bit (sym (same_number m old new law i k)) ∙ ap (λ (x : ℕ). hit (m k) x) w.0 in
      ap (λ (x : ℕ). x + hits k (leaves rest)) here
      ∙ (ap (λ (x : ℕ). hit (m k) there + x) (moved_hits rest (there + 1) k w.1) ∙ ap (λ (n : ℕ). hits (m k) (numbers there n)) (sym one))
  moved_hits (node l first under rest) there k w =
      hits-append k (leaves under) (leaves rest)
      ∙ (ap (λ (x : ℕ). x + hits k (leaves rest)) (moved_hits under there k w.0)
      ∙ (ap (λ (x : ℕ). hits (m k) (numbers there (token_count under)) + x) (moved_hits rest (there + token_count under) k w.1)
      ∙ sym (split_hits (m k) (token_count under) (token_count rest) there)))

  below_or : (n from x : ℕ) → hits x (numbers from n) ≡ 1 → (from ≤ x) × (x < from + n)
  below_or n from x e = elim (cases_Bool (nat_lt x from)) [
    | inl a ↦ absurd (omega (arith, e, hits-before n from x (ltb-true x from a)))
    | inr a ↦ elim (cases_Bool (nat_lt x (from + n))) [
      | inl b ↦ (ltb-false x from a, ltb-true x (from + n) b)
      | inr b ↦ absurd (omega (arith, e, hits-behind n from x (ltb-false x (from + n) b)))
    ]
  ]

  none_left : (x : ℕ) → [] ≡ numbers x 0
  unfolding numbers
  none_left x = refl

  pub spans_permuted : (b : Bool) (f : Forest) (lo there : ℕ) → AreOf (length order) (cut_then lists b f done) → AreFrom lo f
      → AreMovedTo m there (permuted order lists b f) → AreSpans m lo there (token_count f)
  spans_permuted b f lo there each a w =
      let g : Forest = permuted order lists b f in
      let n : ℕ = token_count f in
      let count : token_count g ≡ n = count_permuted order lists is b f each in
      let numbered_leaves : leaves f ≡ numbers lo n =
      sym (append-nil (leaves f)) ∙ (leaves-numbers f lo [] 0 a (none_left (lo + n)) ∙ ap (numbers lo) (omega arith)) in
      let same : (k : ℕ) → hits k (numbers lo n) ≡ hits (m k) (numbers there n) = λ k.
      ap (hits k) (sym numbered_leaves)
      ∙ (hits-sum k (leaves f) ∙ (sym (sum_by-IsPermutation (hit k) (leaves f) (leaves g) (leaves_permute order lists is b f each)) ∙ (sym (hits-sum k (leaves g))
      ∙ (moved_hits g there k w ∙ ap (λ (x : ℕ). hits (m k) (numbers there x)) count)))) in
      record {
        over = λ k low high. below_or n there (m k) (sym (same k) ∙ hits-once n lo k low high);
        back = λ k low high. below_or n lo k (same k ∙ hits-once n there (m k) low high);
      }

  pub placed_permuted : (b : Bool) (f : Forest) (lo there : ℕ) → AreOf (length order) (cut_then lists b f done) → AreFrom lo f
      → AreMovedTo m there (permuted order lists b f) → ArePlaced m lo there (token_count f) f (numbered there (permuted order lists b f))
  placed_permuted b f lo there each a w =
      let g : Forest = permuted order lists b f in
      let count : token_count (numbered there g) ≡ token_count f = count_numbered g there ∙ count_permuted order lists is b f each in
      record {
        spans = spans_permuted b f lo there each a w;
        here = λ x some. last_at f lo x a some;
        beyond = λ y some. omega (arith, last_at (numbered there g) there y (from_numbered g there) (omega (arith, some, count)), count);
        empty = λ x void. no_last f x void;
        void = λ y void. no_last (numbered there g) y (count ∙ void);
      }

  -- ---- What is seen

  seen_through : (outer : Bool) (b : Bool) (f : Forest) (there : ℕ) → AreSeenAlike (permuted order lists b f) f → AreMovedTo m there (permuted order lists b f)
      → (outer ≡ true → first_list (permuted order lists b f) ≡ first_list f) → AreSeenMoved m outer f (numbered there (permuted order lists b f))
  seen_through outer b f there t w heads =
      let s = seen_numbered m law.first (permuted order lists b f) there w in
      record {
        last = λ x y e. s.last x y e ∙ ap m (t.last x);
        first = λ x y e. s.first x y e ∙ ap m (t.first x);
        named = λ l. s.named l ∙ ap (option_map m) (t.named l);
        words = s.words ∙ t.words;
        bare = s.bare ∙ t.bare;
        nodes = λ p. s.nodes p ∙ t.nodes p;
        text = s.text ∙ t.text;
        typed = λ parts c. typed_same c (permuted order lists b f) there ∙ t.typed c parts;
        lists = λ e. s.lists refl ∙ ap (option_map m) (heads e);
      }

  alike_self : (f : Forest) → AreSeenAlike f f
  alike_self f = record {
    last = λ k. refl;
    first = λ k. refl;
    named = λ l. refl;
    words = refl;
    bare = refl;
    nodes = λ p. refl;
    text = refl;
    typed = λ t parts. refl;
  }

  -- the node in the parentheses of a list
  alike_list : (p : Production) (a i first j : ℕ) (u v : Forest) → (ghosts.eq p Args || (ghosts.eq p Params && not (a == 1))) ≡ true
      → AreSeenAlike (token i (node (record { production = p; alternative = a }) first u (token j none))) (token i (node (record { production = p; alternative = a }) first v (token j none)))
  alike_list Args a i first j u v e = record {
    last = λ k. refl;
    first = λ k. refl;
    named = λ l. refl;
    words = refl;
    bare = refl;
    nodes = λ p. refl;
    text = refl;
    typed = λ t parts. absurd (false≢true parts);
  }
  alike_list Params a i first j u v e = record {
    last = λ k. refl;
    first = λ k. refl;
    named = λ l. refl;
    words = refl;
    bare = refl;
    nodes = λ p. refl;
    text = refl;
    typed = λ t parts. absurd (false≢true parts);
  }
  alike_list _ a i first j u v e = absurd (false≢true e)

  bracketed_alike : (f : Forest) → is_bracketed f ≡ true → AreSeenAlike (permuted order lists true f) f
  bracketed_alike none e = absurd (false≢true e)
  bracketed_alike (node l first under rest) e = absurd (false≢true e)
  bracketed_alike (token i none) e = absurd (false≢true e)
  bracketed_alike (token i (token j none)) e = alike_self (token i (token j none))
  bracketed_alike (token i (token j (token k rest))) e = absurd (false≢true e)
  bracketed_alike (token i (token j (node l first under rest))) e = absurd (false≢true e)
  bracketed_alike (token i (node l first under none)) e = absurd (false≢true e)
  bracketed_alike (token i (node l first under (node k second below rest))) e = absurd (false≢true e)
  bracketed_alike (token i (node l first under (token j (token k rest)))) e = absurd (false≢true e)
  bracketed_alike (token i (node l first under (token j (node k second below rest)))) e = absurd (false≢true e)
  bracketed_alike (token i (node l first under (token j none))) e =
      alike_list l.production l.alternative i first j (shuffled order (permuted order lists false under)) under ((and_parts (is_items l) (is_spaced false under) e).0)

  begins_permuted : (b : Bool) (f : Forest) (lo there : ℕ) → AreFrom lo f → AreMovedTo m there (permuted order lists b f) → begins_with_token f ≡ true → m lo ≡ there
  begins_permuted b none lo there a w e = absurd (false≢true e)
  begins_permuted b (token i rest) lo there a w e = ap m (sym a.0) ∙ w.0
  begins_permuted b (node l first under rest) lo there a w e = absurd (false≢true e)

  -- ---- A node

  pub declares_at : (p : Production) (l : Label) (outer : Bool) (lo there : ℕ) (under over : Forest) → AreReordered m outer lo there under over → has_form p under ≡ true
      → (not (ghosts.eq p MemRest && (l.alternative == 1)) || begins_with_token under) ≡ true
      → DeclaresAt m lo there p l under over (lo + token_count under) (there + token_count under)
  declares_at Enumerator l outer lo there under over r form member =
      let some : 1 ≤ token_count under = begins_some under form in
      (r.begins form, r.placed.here lo some, r.placed.beyond there some)
  declares_at MemRest l outer lo there under over r form member = λ e. r.begins (or_not (l.alternative == 1) (begins_with_token under) member e)
  declares_at Declarator l outer lo there under over r form member = λ i e.
      let some : 1 ≤ token_count under = name_some l under i e in
      (r.placed.here i some, omega (arith, r.placed.beyond (m i) some, r.seen.last i (m i) refl))
  declares_at Pdecl l outer lo there under over r form member = λ i e.
      let some : 1 ≤ token_count under = name_some l under i e in
      (r.placed.here i some, omega (arith, r.placed.beyond (m i) some, r.seen.last i (m i) refl))
  declares_at _ l outer lo there under over r form member = tt

  pub node_enters : (own keeps outer : Bool) (lo there : ℕ) (l : Label) (under over : Forest) (s t : State) → AreReordered m outer lo there under over
      → IsFitNode s.frame.label own s.frame.nth s.frame.scope keeps l under → StatesGo m old new own keeps lo there s t
      → StatesGo m old new false keeps lo there (entered old l lo under s) (entered new l there over t)
  node_enters own keeps outer lo there l under over s t r fit k =
      subst (λ (x : Frame). StatesGo m old new false keeps lo there (entered old l lo under s) (entered new l there over (state t.facts x))) (sym k.frame.same)
      (entered_moves m old new law lo there (token_count under) outer under over r.seen r.placed own keeps
      s.frame t.frame.token t.frame.scope.to t.frame.kept (record { ends = k.frame.ends; outer = k.frame.outer }) s.facts t.facts k.facts l fit.stands
      (λ e. k.frame.token (fit.words e)) (λ e. k.frame.kept (fit.body e)) k.frame.kept)

  pub node_leaves : (own keeps any outer : Bool) (lo there : ℕ) (l : Label) (under over : Forest) (s t s' t' : State) → AreReordered m outer lo there under over
      → has_form l.production under ≡ true → IsFitNode s.frame.label own s.frame.nth s.frame.scope keeps l under → StatesGo m old new own keeps lo there s t
      → StatesGo m old new false false (lo + token_count under) (there + token_count under) s' t'
      → (any ≡ true → (if is_node l Declarator then outer else keeps) ≡ true)
      → StatesGo m old new own any (lo + token_count under) (there + token_count under) (left old l lo under s s') (left new l there over t t')
  node_leaves own keeps any outer lo there l under over s t s' t' r form fit k k' w =
      left_moves m old new law lo there (lo + token_count under) (there + token_count under) outer under over r.seen own
      keeps any l s t s' t' (frames_further m old new law own keeps lo there (token_count under) s.frame t.frame k.frame) k' fit.parts
      (declares_at l.production l outer lo there under over r form fit.member) fit.fronts fit.typed fit.names w

  -- ---- The walk

  no_declarator : (p : Production) (a : ℕ) → ((ghosts.eq p Post && (a == 2)) || (ghosts.eq p Suffix && (a == 2))) ≡ true → ghosts.eq p Declarator ≡ false
  no_declarator Post a e = refl
  no_declarator Suffix a e = refl
  no_declarator _ a e = absurd (false≢true e)

  if_no : (c a b : Bool) → c ≡ false → (if c then a else b) ≡ b
  if_no true a b e = absurd (false≢true (sym e))
  if_no false a b e = refl

  -- a node whose children stand as they stood, but for lists in them, and a list
  pub record IsStep (keeps : Bool) (lo there : ℕ) (l : Label) (under : Forest) (s : State) (b : Bool) : Type 0 where
    pub outer : Bool
    pub reordered : AreReordered m outer lo there under (numbered there (permuted order lists b under))
    pub behind : (if is_node l Declarator then has_outer_list lists false under else keeps) ≡ true → (if is_node l Declarator then outer else keeps) ≡ true

  pub step_of : (keeps : Bool) (lo there : ℕ) (l : Label) (under : Forest) (s : State) (b : Bool) → b ≡ is_among lists l under
      → (not (is_among lists l under) || is_bracketed under) ≡ true
      → (has_outer_list lists false under ≡ true → first_list (permuted order lists false under) ≡ first_list under)
      → AreOf (length order) (cut_then lists b under done) → AreFrom lo under → AreMovedTo m there (permuted order lists b under)
      → IsStep keeps lo there l under s b
  step_of keeps lo there l under s false e shape heads each a w = record {
    outer = has_outer_list lists false under;
    reordered = record {
      seen = seen_through (has_outer_list lists false under) false under there (orders_not_seen order lists under) w heads;
      placed = placed_permuted false under lo there each a w;
      begins = begins_permuted false under lo there a w;
    };
    behind = λ h. h;
  }
  step_of keeps lo there l under s true e shape heads each a w = record {
    outer = false;
    reordered = record {
      seen = seen_through false true under there (bracketed_alike under (or_not (is_among lists l under) (is_bracketed under) shape (sym e))) w (λ h. absurd (false≢true h));
      placed = placed_permuted true under lo there each a w;
      begins = begins_permuted true under lo there a w;
    };
    behind = λ h.
        let none : is_node l Declarator ≡ false =
        no_declarator l.production l.alternative ((and_parts (is_parenthesised l) (lists (first_token under 0) && ends_in_token false under) (sym e)).0) in
        if_no (is_node l Declarator) false keeps none ∙ (sym (if_no (is_node l Declarator) (has_outer_list lists false under) keeps none) ∙ h);
  }
