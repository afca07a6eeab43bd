-- What is known behind the items of a list goes together in both orders: the items are read alone in each text.
use Rattle.std.proofs.Common.{ℕ, ◌+◌, ◌≤◌, ◌≡◌, Bool, true, false, ◌&&◌, ◌||◌, not, if◌then◌else◌, ◌==◌, List, [], ◌∷◌, ◌++◌, length, map, None, inl, inr, refl, sym, ap, subst, ◌∙◌, arith}
use Rattle.std.specs.Prelude.{nat_lt}
use Rattle.std.specs.List.{All, list_all}
use Rattle.std.specs.Option.{option_map}
use Rattle.std.proofs.lemmas.Bool.{false≢true, cases_Bool, and_parts, and_from, eq-eqb, eqb-true, ltb-false, lt-ltb}
use Rattle.std.proofs.lemmas.List.{length-map}
use Rattle.std.proofs.lemmas.List.Elements.{All-head, All-tail}
use Rattle.cs_base.specs.Token.{Token}
use Rattle.c99_tree.specs.Tree.{Forest, none, token, node, Node}
use Rattle.c99_tree.specs.declared.production.Label.{Label}
use Rattle.c99_tree.specs.declared.production.Production.{Production}
use Rattle.c99_tree.specs.declared.production.Production.TheVariants.{Args, Params, Enumerator, SuRest, EnRest}
use Rattle.c_types.specs.Trees.{is_node, is_at}
use Rattle.c_types.specs.Declarations.{Facts, is_in}
use Rattle.name_chains.specs.Frames.{State, state}
use Rattle.name_chains.specs.Entering.{scope_in}
use Rattle.scope_bind.specs.Named.{Frame, Scope}
use Rattle.scope_bind.specs.Walk.{passed, walked}
use Rattle.tree_laws.specs.TreesOfTexts.{token_count, AreFrom, have_forms}
use Rattle.list_cuts.specs.Cuts.{done, keep, IsOrder, AreOf}
use Rattle.reordered_tree_laws.specs.Reordered.{nodes_in, shuffled, is_among, permuted, numbered}
use Rattle.reordered_tree_laws.specs.Cuts.{list_then}
use Rattle.reordered_tree_laws.specs.Premises.{is_items, is_spaced, is_fit, tags_in, is_item, are_apart}
use Rattle.scope_bind.specs.Moved.{moved_frame, AreMovedTexts}
use Rattle.reordered_tree_laws.specs.Moving.{IsAhead, GoTogether, AreMovedTo}
use Rattle.reordered_tree_laws.proofs.Arranged.{items_all}
use Rattle.reordered_tree_laws.proofs.SameForms.{same-numbered, from-numbered}
use Rattle.scope_bind.proofs.MovedSpaces.{same_number}
use Rattle.reordered_tree_laws.proofs.MovedUnits.{no_some}
use Rattle.reordered_tree_laws.specs.Lasting.{tags_pass}
use Rattle.reordered_tree_laws.specs.Siblings.{Gain, gained, noted, is_between, in_items, ListGains, ItemsGain, AreFresh, AlonesClear, IsFineList}
use Rattle.reordered_tree_laws.proofs.SiblingsBeside.{items_stand_beside, wholes_are_clear, fit_signs}
use Rattle.reordered_tree_laws.specs.Going.{from_on, IsKnown, AreFineLists, ListsGo}
use Rattle.reordered_tree_laws.proofs.Low.{own_less}
use Rattle.reordered_tree_laws.proofs.ListWalk.{end_walked, all_split}
use Rattle.reordered_tree_laws.proofs.ListEnter.{items_frame}
use Rattle.reordered_tree_laws.proofs.Spots.{Spot, end_of, spots}
use Rattle.reordered_tree_laws.proofs.OldItems.{old_items, all_apart, spot_at, gains_of_spots, moved_node, nodes_of_spots}
use Rattle.reordered_tree_laws.proofs.NewPlaces.{Fits, placed_items}
use Rattle.reordered_tree_laws.proofs.NewForms.{AllTwoApart, items_new, signs_new, tags_new, apart_new, spaced_new}
use Rattle.reordered_tree_laws.proofs.ItemGoes.{IsItem, GoBefore}
use Rattle.reordered_tree_laws.proofs.NewItems.{Pair, clear_new, each_new, outside_new}
use Rattle.reordered_tree_laws.proofs.Picked.{picked_all, each_picked}
use Rattle.reordered_tree_laws.proofs.BehindLists.{lists_together}

-- ---- Tags and tokens of items

pub items_scope : (l : Label) (u : Forest) (scope : Scope) → is_items l ≡ true → scope_in l.production l u scope ≡ scope
items_scope l u scope e = by l.production l.alternative e
  where
    by : (p : Production) (a : ℕ) → is_items (record { production = p; alternative = a }) ≡ true → scope_in p l u scope ≡ scope
    by Args a w = refl
    by Params a w = refl
    by _ a w = absurd (false≢true w)

-- the tags of the items are those that are read
tags_listed : (test : ℕ → Bool) (lists : ℕ → Bool) (u : Forest) (listed : Bool) (l : Label) (k : ℕ) → list_all test (tags_in lists listed true l k u) ≡ true → tags_pass test l k u ≡ true
tags_listed test lists none listed l k e = refl
tags_listed test lists (token i rest) listed l k e =
    by ((is_at l SuRest 1 || is_at l EnRest 1) && (k == 0)) e (λ w. tags_listed test lists rest listed l (k + 1) w)
  where
    by : (c : Bool) → list_all test (if true && c then i ∷ tags_in lists listed true l (k + 1) rest else tags_in lists listed true l (k + 1) rest) ≡ true
        → (list_all test (tags_in lists listed true l (k + 1) rest) ≡ true → tags_pass test l (k + 1) rest ≡ true) → ((not c || test i) && tags_pass test l (k + 1) rest) ≡ true
    by true w more =
        let p = and_parts (test i) (list_all test (tags_in lists listed true l (k + 1) rest)) w in
        and_from (test i) (tags_pass test l (k + 1) rest) p.0 (more p.1)
    by false w more = more w
tags_listed test lists (node m first under rest) listed l k e =
    let here : List ℕ = if true && is_node m Enumerator then first ∷ [] else [] in
    let below : List ℕ = tags_in lists (not listed && is_among lists m under) (true || listed) m 0 under in
    let more : List ℕ = tags_in lists listed true l (k + 1) rest in
    let p = all_split test here (below ++ more) e in
    let q = all_split test below more p.1 in
    and_from (tags_pass test m 0 under) (tags_pass test l (k + 1) rest)
    (tags_listed test lists under (not listed && is_among lists m under) m 0 q.0) (tags_listed test lists rest listed l (k + 1) q.1)

-- each of some numbers is one of them
all_among : (xs ys : List ℕ) → ((i : ℕ) → is_in xs i ≡ true → is_in ys i ≡ true) → list_all (is_in ys) xs ≡ true
all_among [] ys f = refl
all_among (x ∷ xs) ys f =
    and_from (is_in ys x) (list_all (is_in ys) xs) (f x (ap (λ (c : Bool). c || is_in xs x) (eq-eqb x x refl)))
    (all_among xs ys (λ i e. f i (later (x == i) e)))
  where
    later : (c : Bool) {d : Bool} → d ≡ true → (c || d) ≡ true
    later true w = refl
    later false w = w

-- what is true of all is true of each
among_passes : (test : ℕ → Bool) (xs : List ℕ) (i : ℕ) → list_all test xs ≡ true → is_in xs i ≡ true → test i ≡ true
among_passes test [] i e h = absurd (false≢true h)
among_passes test (x ∷ xs) i e h =
    let p = and_parts (test x) (list_all test xs) e in
    by (x == i) refl h p.0 (among_passes test xs i p.1)
  where
    by : (c : Bool) → (x == i) ≡ c → (c || is_in xs i) ≡ true → test x ≡ true → (is_in xs i ≡ true → test i ≡ true) → test i ≡ true
    by true e w here more = subst (λ (y : ℕ). test y ≡ true) (eqb-true x i e) here
    by false e w here more = more w

in_moved : (m : ℕ → ℕ) (same : (i j : ℕ) → (m i == m j) ≡ (i == j)) (xs : List ℕ) (i : ℕ) → is_in (map m xs) (m i) ≡ is_in xs i
in_moved m same [] i = refl
in_moved m same (x ∷ xs) i = ap (λ (c : Bool). c || is_in (map m xs) (m i)) (same x i) ∙ ap (λ (c : Bool). (x == i) || c) (in_moved m same xs i)

pub spaced_permuted : (order : List ℕ) (lists : ℕ → Bool) (u : Forest) (passed : Bool) → is_spaced passed (permuted order lists false u) ≡ is_spaced passed u
spaced_permuted order lists none passed = refl
spaced_permuted order lists (token i rest) passed = spaced_permuted order lists rest false
spaced_permuted order lists (node l first under rest) passed = ap (λ (c : Bool). not passed && c) (spaced_permuted order lists rest true)

-- a token that stands between the ends of no item stands in none
out_of_items : (i : ℕ) (toks : List Token) (f g : Facts) (u : Forest) (at : ℕ) (fr : Frame) (gs : List Gain) → ItemsGain toks f g fr at u gs
    → All (λ p. is_between p.at (end_of p) i ≡ false) (spots u at fr gs) → in_items at u i ≡ false
out_of_items i toks f g none at fr gs h out = refl
out_of_items i toks f g (token j rest) at fr gs h out = out_of_items i toks f g rest (at + 1) (record fr { nth = fr.nth + 1; token = j }) gs h out
out_of_items i toks f g (node x first under rest) at fr [] h out = absurd h
out_of_items i toks f g (node x first under rest) at fr (b ∷ gs) h out =
    let p : Spot = record { label = x; first = first; under = under; at = at; frame = fr; gain = b } in
    let more : List Spot = spots rest (at + token_count under) (record fr { nth = fr.nth + 1 }) gs in
    let T : Spot → Type 0 = λ q. is_between q.at (end_of q) i ≡ false in
    ap (λ (c : Bool). c || in_items (at + token_count under) rest i) (All-head T p more out)
    ∙ out_of_items i toks f g rest (at + token_count under) (record fr { nth = fr.nth + 1 }) gs h.1 (All-tail T p more out)

off_low : (lo k : ℕ) → 1 ≤ lo → from_on lo k ≡ false → not (nat_lt k lo) ≡ false
off_low lo k some e = elim (cases_Bool (nat_lt k lo)) [
  | inl less ↦ ap not less
  | inr far ↦
      let on : nat_lt 0 k ≡ true = lt-ltb 0 k (omega (arith, some, ltb-false k lo far)) in
      absurd (false≢true (sym e ∙ and_from (nat_lt 0 k) (not (nat_lt k lo)) on (ap not far)))
]

module _ (m : ℕ → ℕ) (old new : List Token) (law : AreMovedTexts m old new) (order : List ℕ) (lists barred : ℕ → Bool) (is : IsOrder (length order) order)
    (lowest : lists 0 ≡ false) where
  -- ---- What is known behind the items

  -- All that is needed of the items `u` in the node `l`, in the frames `fo` and `fn` of the parentheses behind their `(`.
  pub record IsList (l : Label) (u : Forest) (keeps : Bool) (lo there : ℕ) (fo fn : Frame) (f g : Facts) : Type 0 where
    pub items : is_items l ≡ true
    pub spaced : is_spaced false u ≡ true
    pub from : AreFrom (lo + 1) u
    pub moved : AreMovedTo m (there + 1) (shuffled order (permuted order lists false u))
    pub forms : have_forms u ≡ true
    pub new_forms : have_forms (shuffled order (permuted order lists false u)) ≡ true
    pub count : token_count (shuffled order (permuted order lists false u)) ≡ token_count u
    pub fit : is_fit lists l false 0 fo.scope keeps u ≡ true
    pub cut : AreOf (length order) (list_then lists u (keep 1 done))
    pub each : list_all is_item (nodes_in u) ≡ true
    pub apart : are_apart old (nodes_in u) ≡ true
    pub fine : AreFineLists old lists barred false true l 0 u
    pub go : ListsGo m old new order lists barred u
    pub old_token : fo.token ≡ lo
    pub new_token : fn.token ≡ there
    pub together : GoTogether m old new lo there f g
    pub frames : items_frame l fn ≡ moved_frame m fn.token fn.scope.to fn.kept (items_frame l fo)
    pub kept : keeps ≡ true → fn.kept ≡ option_map m fo.kept
    pub ends : (k : ℕ) → IsAhead m lo there k → nat_lt (m k) fn.scope.to ≡ nat_lt k fo.scope.to
    pub outer : fo.scope.depth ≡ 1 → fn.scope.to ≡ m fo.scope.to
    pub known : IsKnown (lo + 1) (there + 1) (state f (items_frame l fo)) (state g (items_frame l fn))
    pub clean : (walked old u (state f (items_frame l fo))).facts.fault ≡ None
    pub fresh : AreFresh barred (walked old u (state f (items_frame l fo))).facts.occurrences

  module _ (l : Label) (u : Forest) (keeps : Bool) (lo there : ℕ) (fo fn : Frame) (f g : Facts) (c : IsList l u keeps lo there fo fn f g) where
    abbrev pub old_start : State
    old_start = state f (items_frame l fo)

    abbrev pub new_start : State
    new_start = state g (items_frame l fn)

    abbrev old_items_in : Forest
    old_items_in = permuted order lists false u

    abbrev new_items_in : Forest
    new_items_in = shuffled order old_items_in

    abbrev tags : List ℕ
    tags = tags_in lists false true l 0 u

    abbrev limit : ℕ
    limit = lo + 1 + token_count u

    clean_before : f.fault ≡ None
    clean_before = (end_walked old barred u old_start (record { clean = c.clean; fresh = c.fresh })).clean

    fine_old : IsFineList old barred u (lo + 1) old_start
    fine_old = record {
      begins = omega arith;
      items = c.items;
      from = c.from;
      forms = c.forms;
      spaced = c.spaced;
      signs = fit_signs lists u l false 0 fo.scope keeps c.fit;
      each = c.each;
      apart = c.apart;
      own = own_less (from_on (lo + 1)) (λ k. not (nat_lt k (lo + 1))) (λ k e. off_low (lo + 1) k (omega arith) e) old_start c.known.low;
      tags = tags_listed barred lists u false l 0 c.fine.tags;
      clean = clean_before;
    }

    clear_old : AlonesClear old barred f (items_frame l fo) u
    clear_old = wholes_are_clear old barred u (lo + 1) old_start fine_old c.fresh c.clean

    pub gains_old : ListGains old u (lo + 1) old_start
    gains_old = items_stand_beside old barred u (lo + 1) old_start fine_old clear_old

    abbrev pub behind : Facts
    behind = (walked old u old_start).facts

    abbrev pub ps : List Spot
    ps = spots u (lo + 1) (items_frame l fo) gains_old.gains

    before : GoBefore m old new law order lists barred (is_in tags) is lowest l keeps c.items lo there fo fn f g behind limit
    before = record { facts = c.together; same = c.frames; kept = c.kept; ends = c.ends; outer = c.outer; known = c.known }

    abbrev pub Item : Spot → Type 0
    Item p = IsItem m old new law order lists barred (is_in tags) is lowest l keeps c.items lo there fo fn f g behind limit p

    pub each_item : All Item ps
    each_item =
        old_items m old new order lists barred (is_in tags) l keeps (items_frame l fo) f behind (lo + 1) limit c.items u (lo + 1) 0 (items_frame l fo) gains_old.gains
        c.from c.forms c.fit c.each (items_all order lists u (keep 1 done) c.cut) c.fine (tags_listed (is_in tags) lists u false l 0 (all_among tags tags (λ i e. e))) c.go
        gains_old.each clear_old refl (omega (arith, c.old_token)) (omega arith) (omega arith)

    pub nodes : nodes_in old_items_in ≡ map (moved_node order lists) ps
    nodes = nodes_of_spots order lists old f behind u (lo + 1) (items_frame l fo) gains_old.gains gains_old.each

    pub how_many : length (nodes_in old_items_in) ≡ length ps
    how_many = ap (λ (ns : List Node). length ns) nodes ∙ length-map ps (moved_node order lists)

    -- the numbers of the items in their new order
    pub record IsPicked (ks : List ℕ) : Type 0 where
      pub of : IsOrder (length ps) ks
      pub fits : Fits old_items_in (map (spot_at ps) ks)
      pub placed : new_items_in ≡ placed_items order lists old_items_in (map (spot_at ps) ks)
      pub all : All Item (map (spot_at ps) ks)
      pub two : AllTwoApart old (map (spot_at ps) ks)

    module _ (ks : List ℕ) (k : IsPicked ks) where
      abbrev qs : List Spot
      qs = map (spot_at ps) ks

      abbrev placed : Forest
      placed = placed_items order lists old_items_in qs

      abbrev pub over : Forest
      over = numbered (there + 1) placed

      abbrev bar : ℕ → Bool
      bar = is_in (map m tags)

      new_moved : AreMovedTo m (there + 1) placed
      new_moved = subst (λ (h : Forest). AreMovedTo m (there + 1) h) k.placed c.moved

      spaced_before : is_spaced false old_items_in ≡ true
      spaced_before = spaced_permuted order lists u false ∙ c.spaced

      pub fine_new : IsFineList new bar over (there + 1) new_start
      fine_new = record {
        begins = omega arith;
        items = c.items;
        from = from-numbered (there + 1) placed;
        forms = (same-numbered (there + 1) placed).forms ∙ (ap have_forms (sym k.placed) ∙ c.new_forms);
        spaced = spaced_new order lists old_items_in qs (there + 1) false k.fits spaced_before;
        signs = signs_new order is lists barred (is_in tags) m old new law l keeps (items_frame l fo) f behind (lo + 1) limit old_items_in qs (there + 1) k.fits k.all;
        each = items_new order is lists barred (is_in tags) m old new law l keeps (items_frame l fo) f behind (lo + 1) limit old_items_in qs (there + 1) k.fits k.all new_moved;
        apart = apart_new order is lists barred (is_in tags) m old new law l keeps (items_frame l fo) f behind (lo + 1) limit old_items_in qs (there + 1) k.fits k.all new_moved k.two;
        own = own_less (from_on (there + 1)) (λ x. not (nat_lt x (there + 1))) (λ x e. off_low (there + 1) x (omega arith) e) new_start c.known.over;
        tags = tags_new order is lists barred (is_in tags) m old new law l keeps (items_frame l fo) f behind (lo + 1) limit c.items bar
            (in_moved m (same_number m old new law) tags) old_items_in qs (there + 1) 0 k.fits k.all new_moved;
        clean = no_some f.fault g.fault c.together.fault clean_before;
      }

      clear : AlonesClear new bar g (items_frame l fn) over
      clear =
          clear_new m old new law order lists barred (is_in tags) is lowest l keeps c.items lo there fo fn f g behind limit before tags
          (λ i e. among_passes barred tags i c.fine.tags e) old_items_in qs (there + 1) (items_frame l fn) k.fits k.all new_moved refl (omega (arith, c.new_token)) (omega arith)

      gains_new : ListGains new over (there + 1) new_start
      gains_new = items_stand_beside new bar over (there + 1) new_start fine_new clear

      abbrev behind' : Facts
      behind' = (walked new over new_start).facts

      pub short : (hi beyond : ℕ) → limit + 1 ≤ hi → there + 1 + token_count u + 1 ≤ beyond → GoTogether m old new hi beyond behind behind'
      short hi beyond far far' =
          let many : token_count placed ≡ token_count u = ap token_count (sym k.placed) ∙ c.count in
          let whole : List Gain = gains_old.gains in
          let same : map (λ (p : Spot). p.gain) ps ≡ whole = gains_of_spots old f behind u (lo + 1) (items_frame l fo) whole gains_old.each in
          lists_together m old new law order lists barred (is_in tags) is lowest l keeps c.items lo there fo fn f g behind limit before ps ks k.of each_item
          (all_apart old fo.scope.depth u false (lo + 1) (items_frame l fo) whole c.apart c.spaced c.from refl) hi beyond far (omega (arith, far')) (omega (arith, far)) behind' gains_new.gains
          (each_picked ps ks k.of (λ p b. Pair m old new law order lists barred (is_in tags) is lowest l keeps c.items lo there fo fn f g behind limit before hi beyond behind' p b) ks gains_new.gains
          (each_new m old new law order lists barred (is_in tags) is lowest l keeps c.items lo there fo fn f g behind limit before hi beyond behind' old_items_in qs (there + 1)
          (items_frame l fn) gains_new.gains k.fits k.all far new_moved refl (omega (arith, c.new_token)) (omega arith) (omega (arith, far', many)) gains_new.each))
          (record {
            declared = subst (λ (gs : List Gain). behind.declared ≡ gained gs ++ f.declared) (sym same) gains_old.declared;
            bound = subst (λ (gs : List Gain). behind.occurrences ≡ noted gs ++ f.occurrences) (sym same) gains_old.noted;
            jumps = gains_old.jumps;
            fault = gains_old.fault;
            begun = λ i out. gains_old.begun i (out_of_items i old f behind u (lo + 1) (items_frame l fo) whole gains_old.each out);
            complete = λ i out. gains_old.complete i (out_of_items i old f behind u (lo + 1) (items_frame l fo) whole gains_old.each out);
            new_declared = gains_new.declared;
            new_bound = gains_new.noted;
            new_jumps = gains_new.jumps;
            new_fault = gains_new.fault;
            new_begun = λ i out. gains_new.begun (m i) (outside i out);
            new_complete = λ i out. gains_new.complete (m i) (outside i out);
          })
        where
          outside : (i : ℕ) → All (λ p. is_between p.at (end_of p) i ≡ false) ps → in_items (there + 1) over (m i) ≡ false
          outside i out =
              outside_new m old new law order lists barred (is_in tags) is lowest l keeps c.items lo there fo fn f g behind limit before i old_items_in qs (there + 1) k.fits k.all new_moved
              (picked_all ps ks k.of (λ p. is_between p.at (end_of p) i ≡ false) out)
