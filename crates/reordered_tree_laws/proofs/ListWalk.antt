-- A unit whose lists are in a new order goes along, where each list does from what is known in front of it.
use Rattle.std.proofs.Common.{ℕ, ◌+◌, ◌≤◌, ◌≡◌, Bool, true, false, ◌&&◌, ◌||◌, not, if◌then◌else◌, ◌==◌, List, [], ◌∷◌, ◌++◌, length, inl, inr, refl, sym, ap, subst, ◌∙◌, arith}
use Rattle.std.specs.Prelude.{nat_lt}
use Rattle.std.specs.List.{All, list_all}
use Rattle.std.proofs.lemmas.Bool.{false≢true, cases_Bool, ltb-true, ltb-false, and_parts}
use Rattle.cs_base.specs.Token.{Token}
use Rattle.cs_base.proofs.BoolLemmas.{or_met as or_not}
use Rattle.c99_tree.specs.Tree.{Forest, none, token, node}
use Rattle.c99_tree.specs.declared.production.Label.{Label}
use Rattle.c99_tree.specs.declared.production.Production.TheVariants.{MemRest, Declarator, Enumerator, SuRest, EnRest}
use Rattle.c_types.specs.Trees.{is_node, is_at}
use Rattle.c_types.specs.Parameters.{ends_in_token}
use Rattle.name_chains.specs.Frames.{State}
use Rattle.name_chains.specs.Entering.{scope_in, entered}
use Rattle.scope_bind.specs.Named.{Occurrence}
use Rattle.scope_bind.specs.Walk.{passed, left, walked}
use Rattle.tree_laws.specs.TreesOfTexts.{token_count, AreFrom, begins_with_token, has_form, have_forms}
use Rattle.list_cuts.specs.Cuts.{done, IsOrder, AreOf}
use Rattle.reordered_tree_laws.specs.Reordered.{is_parenthesised, is_among, permuted, numbered}
use Rattle.reordered_tree_laws.specs.Cuts.{cut_then}
use Rattle.reordered_tree_laws.specs.Premises.{is_items, is_bracketed, has_outer_list, is_fit_child, is_fit, lists_pass, tags_in, is_item, are_apart}
use Rattle.scope_bind.specs.Moved.{AreMovedTexts}
use Rattle.reordered_tree_laws.specs.Moving.{StatesGo, AreMovedTo}
use Rattle.reordered_tree_laws.proofs.Arranged.{cut_all}
use Rattle.reordered_tree_laws.proofs.SameForms.{count-numbered, from-numbered}
use Rattle.reordered_tree_laws.proofs.MovedTokens.{token_goes}
use Rattle.reordered_tree_laws.proofs.MovedHeads.{cut_front, count_permuted, heads_stay}
use Rattle.reordered_tree_laws.proofs.MovedWalk.{IsFitNode, fit_child, fit_shape, at_places, forgotten}
use Rattle.reordered_tree_laws.proofs.MovedOrders.{IsStep, step_of, node_enters, node_leaves}
use Rattle.reordered_tree_laws.specs.Going.{IsLow, IsToldMember, IsKnown, IsFineEnd, AreFineLists, ListsGo}
use Rattle.reordered_tree_laws.proofs.NodesPass.{is_well, are_well, well_fit, well_numbered, well_permuted}
use Rattle.reordered_tree_laws.proofs.Growth.{passed_grows, entered_grows, left_grows, walked_grows}
use Rattle.reordered_tree_laws.proofs.Low.{low_passed, low_entered, low_left, low_walk}

-- ---- What is fine behind is fine before

module _ (toks : List Token) (barred : ℕ → Bool) where
  abbrev Fresh : Occurrence → Type 0
  Fresh o = (o.declares && barred o.index) ≡ false

  pub end_walked : (f : Forest) (s : State) → IsFineEnd barred (walked toks f s) → IsFineEnd barred s
  end_walked f s k = let g = walked_grows toks Fresh f s in record { clean = g.clean k.clean; fresh = g.earlier k.fresh }

  pub end_left : (l : Label) (lo : ℕ) (under : Forest) (s s' : State) → IsFineEnd barred (left toks l lo under s s') → IsFineEnd barred s'
  end_left l lo under s s' k = let g = left_grows toks Fresh l lo under s s' in record { clean = g.clean k.clean; fresh = g.earlier k.fresh }

-- ---- What is known

no_bar : ℕ → Bool
no_bar i = false

module _ (toks : List Token) where
  abbrev Told : State → Type 0
  Told s = All IsToldMember s.facts.declared

  told_passed : (i : ℕ) (s : State) → Told s → Told (passed toks i s)
  told_passed i s a = (passed_grows toks (λ (o : Occurrence). (o.declares && no_bar o.index) ≡ false) i s).members a

  told_entered : (l : Label) (lo : ℕ) (under : Forest) (s : State) → Told s → Told (entered toks l lo under s)
  told_entered l lo under s a = (entered_grows toks (λ (o : Occurrence). (o.declares && no_bar o.index) ≡ false) l lo under s).members a

  told_left : (l : Label) (lo : ℕ) (under : Forest) (s s' : State) → Told s' → Told (left toks l lo under s s')
  told_left l lo under s s' a = (left_grows toks (λ (o : Occurrence). (o.declares && no_bar o.index) ≡ false) l lo under s s').members a

  pub told_walked : (f : Forest) (s : State) → Told s → Told (walked toks f s)
  told_walked f s a = (walked_grows toks (λ (o : Occurrence). (o.declares && no_bar o.index) ≡ false) f s).members a

module _ (old new : List Token) where
  pub known_passed : (lo there i : ℕ) (s t : State) → i ≡ lo → IsKnown lo there s t → IsKnown (lo + 1) (there + 1) (passed old i s) (passed new there t)
  known_passed lo there i s t e k = record {
    low = subst (λ (j : ℕ). IsLow (lo + 1) (passed old j s)) (sym e) (low_passed old lo s k.low);
    over = low_passed new there t k.over;
    members = told_passed old i s k.members;
    others = told_passed new there t k.others;
  }

  pub known_entered : (lo there : ℕ) (l : Label) (under over : Forest) (s t : State) → IsKnown lo there s t
      → IsKnown lo there (entered old l lo under s) (entered new l there over t)
  known_entered lo there l under over s t k = record {
    low = low_entered old lo l under s k.low;
    over = low_entered new there l over t k.over;
    members = told_entered old l lo under s k.members;
    others = told_entered new l there over t k.others;
  }

  pub known_left : (lo there n : ℕ) (l : Label) (under over : Forest) (s t s' t' : State) → AreFrom lo under → AreFrom there over → token_count under ≡ n
      → token_count over ≡ n → is_well l under ≡ true → is_well l over ≡ true → IsKnown lo there s t → IsKnown (lo + n) (there + n) s' t'
      → IsKnown (lo + n) (there + n) (left old l lo under s s') (left new l there over t t')
  known_left lo there n l under over s t s' t' a b e h w v k k' =
      let p = and_parts (has_form l.production under) (not (is_at l MemRest 1) || begins_with_token under) w in
      let q = and_parts (has_form l.production over) (not (is_at l MemRest 1) || begins_with_token over) v in
      record {
        low = subst (λ (x : ℕ). IsLow (lo + x) (left old l lo under s s')) e
            (low_left old lo l under s s' a p.0 p.1 k.low (subst (λ (x : ℕ). IsLow (lo + x) s') (sym e) k'.low));
        over = subst (λ (x : ℕ). IsLow (there + x) (left new l there over t t')) h
            (low_left new there l over t t' b q.0 q.1 k.over (subst (λ (x : ℕ). IsLow (there + x) t') (sym h) k'.over));
        members = told_left old l lo under s s' k'.members;
        others = told_left new l there over t t' k'.others;
      }

  pub known_walked : (lo there n : ℕ) (f g : Forest) (s t : State) → AreFrom lo f → AreFrom there g → token_count f ≡ n → token_count g ≡ n → are_well f ≡ true
      → are_well g ≡ true → IsKnown lo there s t → IsKnown (lo + n) (there + n) (walked old f s) (walked new g t)
  known_walked lo there n f g s t a b e h w v k = record {
    low = subst (λ (x : ℕ). IsLow (lo + x) (walked old f s)) e (low_walk old f lo s a w k.low);
    over = subst (λ (x : ℕ). IsLow (there + x) (walked new g t)) h (low_walk new g there t b v k.over);
    members = told_walked old f s k.members;
    others = told_walked new g t k.others;
  }

-- ---- Lists that are fine

pub all_split : (p : ℕ → Bool) (xs ys : List ℕ) → list_all p (xs ++ ys) ≡ true → (list_all p xs ≡ true) × (list_all p ys ≡ true)
all_split p [] ys e = (refl, e)
all_split p (x ∷ xs) ys e =
    let q = and_parts (p x) (list_all p (xs ++ ys)) e in
    let r = all_split p xs ys q.1 in
    (both (p x) (list_all p xs) q.0 r.0, r.1)
  where
    both : (a b : Bool) → a ≡ true → b ≡ true → (a && b) ≡ true
    both true b e f = f
    both false b e f = e

all_either : (p : ℕ → Bool) (c : Bool) (i : ℕ) (xs : List ℕ) → list_all p (if c then i ∷ xs else xs) ≡ true → list_all p xs ≡ true
all_either p true i xs e = (and_parts (p i) (list_all p xs) e).1
all_either p false i xs e = e

module _ (toks : List Token) (lists barred : ℕ → Bool) where
  pub fine_rest : (listed inside : Bool) (l : Label) (k i : ℕ) (rest : Forest) → AreFineLists toks lists barred listed inside l k (token i rest)
      → AreFineLists toks lists barred listed inside l (k + 1) rest
  fine_rest listed inside l k i rest h = record {
    items = h.items;
    apart = h.apart;
    tags = all_either barred (inside && ((is_at l SuRest 1 || is_at l EnRest 1) && (k == 0))) i (tags_in lists listed inside l (k + 1) rest) h.tags;
  }

  -- the tags below a node and behind it
  pub tags_split : (listed inside : Bool) (l : Label) (k : ℕ) (m : Label) (first : ℕ) (under rest : Forest)
      → list_all barred (tags_in lists listed inside l k (node m first under rest)) ≡ true
      → (list_all barred (tags_in lists (not listed && is_among lists m under) (inside || listed) m 0 under) ≡ true) × (list_all barred (tags_in lists listed inside l (k + 1) rest) ≡ true)
  tags_split listed inside l k m first under rest e =
      let here : List ℕ = if inside && is_node m Enumerator then first ∷ [] else [] in
      let below : List ℕ = tags_in lists (not listed && is_among lists m under) (inside || listed) m 0 under in
      let more : List ℕ = tags_in lists listed inside l (k + 1) rest in
      all_split barred below more ((all_split barred here (below ++ more) e).1)

  pub fine_under : (inside : Bool) (l : Label) (k : ℕ) (m : Label) (first : ℕ) (under rest : Forest) → AreFineLists toks lists barred false inside l k (node m first under rest)
      → AreFineLists toks lists barred (is_among lists m under) inside m 0 under
  fine_under inside l k m first under rest h = record {
    items = (and_parts (lists_pass lists (list_all is_item) (is_among lists m under) under) (lists_pass lists (list_all is_item) false rest) h.items).0;
    apart = (and_parts (lists_pass lists (are_apart toks) (is_among lists m under) under) (lists_pass lists (are_apart toks) false rest) h.apart).0;
    tags = subst (λ (c : Bool). list_all barred (tags_in lists (is_among lists m under) c m 0 under) ≡ true) (or_none inside)
        ((tags_split false inside l k m first under rest h.tags).0);
  }
    where
      or_none : (c : Bool) → (c || false) ≡ c
      or_none true = refl
      or_none false = refl

  pub fine_behind : (inside : Bool) (l : Label) (k : ℕ) (m : Label) (first : ℕ) (under rest : Forest) → AreFineLists toks lists barred false inside l k (node m first under rest)
      → AreFineLists toks lists barred false inside l (k + 1) rest
  fine_behind inside l k m first under rest h = record {
    items = (and_parts (lists_pass lists (list_all is_item) (is_among lists m under) under) (lists_pass lists (list_all is_item) false rest) h.items).1;
    apart = (and_parts (lists_pass lists (are_apart toks) (is_among lists m under) under) (lists_pass lists (are_apart toks) false rest) h.apart).1;
    tags = (tags_split false inside l k m first under rest h.tags).1;
  }

-- ---- The walk

module _ (m : ℕ → ℕ) (old new : List Token) (law : AreMovedTexts m old new) (order : List ℕ) (lists barred : ℕ → Bool) (is : IsOrder (length order) order)
    (lowest : lists 0 ≡ false) where
  abbrev IsFineList : Bool → Bool → Label → ℕ → Forest → Type 0
  IsFineList listed inside l k f = AreFineLists old lists barred listed inside l k f

  -- a list does not begin with the first token
  list_behind : (l : Label) (under : Forest) (lo : ℕ) → AreFrom lo under → is_bracketed under ≡ true → is_among lists l under ≡ true → 1 ≤ lo
  list_behind l none lo a e h = absurd (false≢true e)
  list_behind l (node x first below rest) lo a e h = absurd (false≢true e)
  list_behind l (token i rest) lo a e h = elim (cases_Bool (nat_lt 0 lo)) [
    | inl some ↦ omega (arith, ltb-true 0 lo some)
    | inr void ↦
        let zero_at : i ≡ 0 = omega (arith, a.0, ltb-false 0 lo void) in
        let p = and_parts (is_parenthesised l) (lists i && ends_in_token false (token i rest)) h in
        let q = and_parts (lists i) (ends_in_token false (token i rest)) p.1 in
        absurd (false≢true (sym lowest ∙ (ap lists (sym zero_at) ∙ q.0)))
  ]

  pub walk : (f : Forest) (own keeps inside : Bool) (lo there : ℕ) (s t : State) → AreFrom lo f → AreMovedTo m there (permuted order lists false f)
      → have_forms f ≡ true → is_fit lists s.frame.label own s.frame.nth s.frame.scope keeps f ≡ true → AreOf (length order) (cut_then lists false f done)
      → IsFineList false inside s.frame.label s.frame.nth f → ListsGo m old new order lists barred f → IsKnown lo there s t
      → IsFineEnd barred (walked old f s) → StatesGo m old new own keeps lo there s t
      → StatesGo m old new false false (lo + token_count f) (there + token_count f) (walked old f s) (walked new (numbered there (permuted order lists false f)) t)
  unfolding walked
  walk none own keeps inside lo there s t a w forms e each fine go known end k =
      at_places m old new law false false lo there (lo + 0) (there + 0) s t (omega arith) (omega arith) (forgotten m old new law own keeps lo there s t k)
  walk (token i rest) own keeps inside lo there s t a w forms e each fine go known end k =
      let any : Bool = not (is_items s.frame.label) in
      at_places m old new law false false (lo + 1 + token_count rest) (there + 1 + token_count rest) (lo + (token_count rest + 1)) (there + (token_count rest + 1))
      (walked old rest (passed old i s)) (walked new (numbered (there + 1) (permuted order lists false rest)) (passed new there t)) (omega arith) (omega arith)
      (walk rest any keeps inside (lo + 1) (there + 1) (passed old i s) (passed new there t) a.1 w.1 forms e each
      (fine_rest old lists barred false inside s.frame.label s.frame.nth i rest fine) go (known_passed old new lo there i s t a.0 known) end
      (token_goes m old new law own keeps any lo there i s t a.0 (w.0) k))
  walk (node l first under rest) own keeps inside lo there s t a w forms e each fine go known end k =
      let n : ℕ = token_count under in
      let b : Bool = is_among lists l under in
      let g : Forest = permuted order lists b under in
      let over : Forest = numbered there g in
      let any : Bool = if is_node l Declarator then has_outer_list lists false under else keeps in
      let child : Bool = is_fit_child lists s.frame.label own s.frame.nth s.frame.scope keeps l under in
      let below : Bool = is_fit lists l false 0 (scope_in l.production l under s.frame.scope) keeps under in
      let more : Bool = is_fit lists s.frame.label own (s.frame.nth + 1) s.frame.scope any rest in
      let p = and_parts child (below && more) e in
      let q = and_parts below more p.1 in
      let fs = and_parts (has_form l.production under) (have_forms under && have_forms rest) forms in
      let gs = and_parts (have_forms under) (have_forms rest) fs.1 in
      let fit : IsFitNode s.frame.label own s.frame.nth s.frame.scope keeps l under = fit_child lists s.frame.label own s.frame.nth s.frame.scope keeps l under p.0 in
      let shape : (not b || is_bracketed under) ≡ true = fit_shape lists s.frame.label own s.frame.nth s.frame.scope keeps l under p.0 in
      let here : AreOf (length order) (cut_then lists b under done) = cut_front order lists b under (cut_then lists false rest done) done each tt in
      let later : AreOf (length order) (cut_then lists false rest done) = cut_all order lists b under (cut_then lists false rest done) each in
      let step : IsStep m old new law order lists is keeps lo there l under s b =
      step_of m old new law order lists is keeps lo there l under s b refl shape (heads_stay order lists under l false 0 (scope_in l.production l under s.frame.scope) keeps q.0) here a.1 w.0 in
      let count : token_count g ≡ n = count_permuted order lists is b under here in
      let well : (is_well l under && (are_well under && are_well rest)) ≡ true =
      well_fit lists (node l first under rest) s.frame.label own s.frame.nth s.frame.scope keeps forms e in
      let wp = and_parts (is_well l under) (are_well under && are_well rest) well in
      let wq = and_parts (are_well under) (are_well rest) wp.1 in
      let whole : are_well (numbered there (permuted order lists false (node l first under rest))) ≡ true =
      well_numbered there (permuted order lists false (node l first under rest))
      ∙ (well_permuted order lists is false (node l first under rest) each ∙ well) in
      let vp = and_parts (is_well l over) (are_well over && are_well (numbered (there + token_count g) (permuted order lists false rest))) whole in
      let vq = and_parts (are_well over) (are_well (numbered (there + token_count g) (permuted order lists false rest))) vp.1 in
      let from : AreFrom there over = from-numbered there g in
      let many : token_count over ≡ n = count-numbered there g ∙ count in
      let s1 : State = entered old l lo under s in
      let t1 : State = entered new l there over t in
      let s2 : State = left old l lo under s (walked old under s1) in
      let t2 : State = left new l there over t (walked new over t1) in
      let end' : IsFineEnd barred (walked old rest s2) =
      subst (λ (x : ℕ). IsFineEnd barred (walked old rest (left old l x under s (walked old under (entered old l x under s))))) a.0 end in
      let end2 : IsFineEnd barred s2 = end_walked old barred rest s2 end' in
      let end1 : IsFineEnd barred (walked old under s1) = end_left old barred l lo under s (walked old under s1) end2 in
      let known1 : IsKnown lo there s1 t1 = known_entered old new lo there l under over s t known in
      let known2 : IsKnown (lo + n) (there + n) s2 t2 =
      known_left old new lo there n l under over s t (walked old under s1) (walked new over t1) a.1 from refl many wp.0 vp.0 known
      (known_walked old new lo there n under over s1 t1 a.1 from refl many wq.0 vq.0 known1) in
      let fine1 : IsFineList b inside l 0 under = fine_under old lists barred inside s.frame.label s.frame.nth l first under rest fine in
      let k1 : StatesGo m old new false keeps lo there s1 t1 = node_enters m old new law order lists is own keeps step.outer lo there l under over s t step.reordered fit k in
      let inside_go : StatesGo m old new false false (lo + n) (there + n) (walked old under s1) (walked new over t1) =
      elim (cases_Bool b) [
        | inl met ↦
            let g1 : permuted order lists b under ≡ permuted order lists true under = ap (λ (c : Bool). permuted order lists c under) met in
            let box : is_bracketed under ≡ true = or_not b (is_bracketed under) shape met in
            subst (λ (h : Forest). StatesGo m old new false false (lo + n) (there + n) (walked old under s1) (walked new (numbered there h) t1)) (sym g1)
            (go.0 met keeps inside lo there s1 t1 (list_behind l under lo a.1 box met) refl refl a.1 (subst (λ (h : Forest). AreMovedTo m there h) g1 w.0) gs.0 q.0 box
            (subst (λ (c : Bool). AreOf (length order) (cut_then lists c under done)) met here)
            (subst (λ (c : Bool). IsFineList c inside l 0 under) met fine1) known1 end1 k1)
        | inr unmet ↦
            let g1 : permuted order lists b under ≡ permuted order lists false under = ap (λ (c : Bool). permuted order lists c under) unmet in
            subst (λ (h : Forest). StatesGo m old new false false (lo + n) (there + n) (walked old under s1) (walked new (numbered there h) t1)) (sym g1)
            (walk under false keeps inside lo there s1 t1 a.1 (subst (λ (h : Forest). AreMovedTo m there h) g1 w.0) gs.0 q.0
            (subst (λ (c : Bool). AreOf (length order) (cut_then lists c under done)) unmet here)
            (subst (λ (c : Bool). IsFineList c inside l 0 under) unmet fine1) (go.1 unmet) known1 end1 k1)
      ] in
      let w1 : AreMovedTo m (there + n) (permuted order lists false rest) =
      subst (λ (x : ℕ). AreMovedTo m (there + x) (permuted order lists false rest)) count w.1 in
      let last : StatesGo m old new false false (lo + n + token_count rest) (there + n + token_count rest) (walked old rest s2)
      (walked new (numbered (there + n) (permuted order lists false rest)) t2) =
      walk rest own any inside (lo + n) (there + n) s2 t2 a.2 w1 gs.1 q.1 later (fine_behind old lists barred inside s.frame.label s.frame.nth l first under rest fine) go.2
      known2 end'
      (node_leaves m old new law order lists is own keeps any step.outer lo there l under over s t (walked old under s1) (walked new over t1) step.reordered fs.0 fit k inside_go step.behind) in
      let placed : StatesGo m old new false false (lo + (n + token_count rest)) (there + (n + token_count rest)) (walked old rest s2)
      (walked new (numbered (there + token_count g) (permuted order lists false rest)) t2) =
      subst (λ (x : ℕ). StatesGo m old new false false (lo + (n + token_count rest)) (there + (n + token_count rest)) (walked old rest s2)
      (walked new (numbered (there + x) (permuted order lists false rest)) t2)) (sym count)
      (at_places m old new law false false (lo + n + token_count rest) (there + n + token_count rest) (lo + (n + token_count rest)) (there + (n + token_count rest))
      (walked old rest s2) (walked new (numbered (there + n) (permuted order lists false rest)) t2) (omega arith) (omega arith) last) in
      subst (λ (x : ℕ). StatesGo m old new false false (lo + (n + token_count rest)) (there + (n + token_count rest))
      (walked old rest (left old l x under s (walked old under (entered old l x under s)))) (walked new (numbered (there + token_count g) (permuted order lists false rest)) t2)) (sym a.0) placed
