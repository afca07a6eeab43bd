-- Each list of a tree goes along in a new order of its items.
use Rattle.std.proofs.Common.{ℕ, ◌+◌, ◌≤◌, ◌≡◌, Bool, true, false, ◌&&◌, ◌||◌, not, List, [], ◌∷◌, length, map, ◌⊎◌, inl, inr, refl, sym, ap, subst, ◌∙◌, arith}
use Rattle.std.specs.List.{All, list_all}
use Rattle.std.proofs.lemmas.Bool.{false≢true, and_parts}
use Rattle.std.proofs.lemmas.List.Elements.{All-nil}
use Rattle.std.proofs.lemmas.List.Sorted.{IsPermutation-refl}
use Rattle.cs_base.specs.Token.{Token}
use Rattle.c99_tree.specs.Tree.{Forest, none, token, node, Node}
use Rattle.c99_tree.specs.declared.production.Label.{Label}
use Rattle.c_types.specs.Trees.{first_token}
use Rattle.c_types.specs.Parameters.{ends_in_token}
use Rattle.c_types.specs.Declarations.{Facts}
use Rattle.name_chains.specs.Frames.{State, state}
use Rattle.name_chains.specs.Entering.{scope_in, entered}
use Rattle.scope_bind.specs.Named.{Frame, Occurrence}
use Rattle.scope_bind.specs.Walk.{passed, left, walked}
use Rattle.tree_laws.specs.TreesOfTexts.{token_count, AreFrom, has_form, have_forms}
use Rattle.list_cuts.specs.Cuts.{done, keep, numbers, IsOrder, AreOf}
use Rattle.reordered_tree_laws.specs.Reordered.{nodes_in, picked_nodes, shuffled, is_parenthesised, is_among, permuted, numbered}
use Rattle.reordered_tree_laws.specs.Cuts.{cut_then}
use Rattle.reordered_tree_laws.specs.Premises.{is_items, is_spaced, is_bracketed, is_fit_child, is_fit, lists_pass, tags_in, is_item, are_apart}
use Rattle.scope_bind.specs.Moved.{AreMovedTexts}
use Rattle.reordered_tree_laws.specs.Moving.{GoTogether, FramesGo, StatesGo, AreMovedTo}
use Rattle.reordered_tree_laws.proofs.SameForms.{unfilled, counted, same-cut}
use Rattle.reordered_tree_laws.proofs.MovedTokens.{token_goes}
use Rattle.reordered_tree_laws.proofs.MovedHeads.{count_permuted}
use Rattle.reordered_tree_laws.proofs.MovedWalk.{frames_further, at_places, forgotten}
use Rattle.reordered_tree_laws.specs.Going.{IsKnown, IsFineEnd, AreFineLists, ListGoes, ListsGo}
use Rattle.reordered_tree_laws.proofs.ListWalk.{fine_rest, tags_split, known_passed, known_entered}
use Rattle.reordered_tree_laws.proofs.ItemForms.{items_no_list}
use Rattle.reordered_tree_laws.proofs.ListEnter.{items_frame, passed_plain, entered_items, left_items, no_list_nodes}
use Rattle.reordered_tree_laws.proofs.Spots.{Spot, spot_node}
use Rattle.reordered_tree_laws.proofs.NewPlaces.{Fits}
use Rattle.reordered_tree_laws.proofs.Picked.{picked_all, picked_fits, picked_placed, picked_apart, nodes_spots}
use Rattle.reordered_tree_laws.proofs.ListGoes.{items_scope, IsList, IsPicked, Item, ps, each_item, nodes, how_many, gains_old, behind, fine_new, short}

-- no items fit where no child is a node
fits_none : (h : Forest) → length (nodes_in h) ≡ 0 → Fits h []
fits_none none e = tt
fits_none (token i rest) e = fits_none rest e
fits_none (node l first under rest) e = absurd (omega (arith, e))

no_order : IsOrder 0 []
unfolding numbers
no_order = IsPermutation-refl []

module _ (m : ℕ → ℕ) (old new : List Token) (law : AreMovedTexts m old new) (order : List ℕ) (lists barred : ℕ → Bool) (is : IsOrder (length order) order)
    (lowest : lists 0 ≡ false) where
  module _ (l : Label) (u : Forest) (keeps : Bool) (lo there : ℕ) (fo fn : Frame) (f g : Facts)
      (c : IsList m old new law order lists barred is lowest l u keeps lo there fo fn f g) where
    abbrev mine : List Spot
    mine = ps m old new law order lists barred is lowest l u keeps lo there fo fn f g c

    abbrev Picks : List ℕ → Type 0
    Picks ks = IsPicked m old new law order lists barred is lowest l u keeps lo there fo fn f g c ks

    abbrev inner : Forest
    inner = permuted order lists false u

    count_nodes : length (nodes_in inner) ≡ length mine
    count_nodes = how_many m old new law order lists barred is lowest l u keeps lo there fo fn f g c

    no_spots : (xs : List Spot) → length xs ≡ 0 → xs ≡ []
    no_spots [] e = refl
    no_spots (x ∷ xs) e = absurd (omega (arith, e))

    record SomePicked : Type 0 where
      ks : List ℕ
      picks : Picks ks

    -- the order picks all items, or there are none
    picked_or : (length (nodes_in inner) ≡ length order) ⊎ (length (nodes_in inner) ≡ 0) → SomePicked
    picked_or (inl many) =
        let of : IsOrder (length mine) order = subst (λ (n : ℕ). IsOrder n order) (sym many ∙ count_nodes) is in
        let gains = gains_old m old new law order lists barred is lowest l u keeps lo there fo fn f g c in
        let all_nodes : nodes_in u ≡ map spot_node mine =
        nodes_spots old f (behind m old new law order lists barred is lowest l u keeps lo there fo fn f g c) u (lo + 1) (items_frame l fo) gains.gains gains.each in
        record {
          ks = order;
          picks = record {
            of = of;
            fits = picked_fits mine order of inner many;
            placed = picked_placed mine order of lists inner (nodes m old new law order lists barred is lowest l u keeps lo there fo fn f g c);
            all = picked_all mine order of (Item m old new law order lists barred is lowest l u keeps lo there fo fn f g c)
                (each_item m old new law order lists barred is lowest l u keeps lo there fo fn f g c);
            two = picked_apart mine order of old (subst (λ (ns : List Node). are_apart old ns ≡ true) all_nodes c.apart);
          };
        }
    picked_or (inr few) =
        let void : mine ≡ [] = no_spots mine (sym count_nodes ∙ few) in
        record {
          ks = [];
          picks = record {
            of = subst (λ (n : ℕ). IsOrder n []) (sym (ap (λ (xs : List Spot). length xs) void)) (no_order);
            fits = fits_none inner few;
            placed = unfilled inner (picked_nodes order (nodes_in inner)) few ∙ sym (unfilled inner [] few);
            all = All-nil (Item m old new law order lists barred is lowest l u keeps lo there fo fn f g c);
            two = tt;
          };
        }

    some_picked : SomePicked
    some_picked = picked_or (counted order lists is u (keep 1 done) c.cut)

    pub items_together : (hi beyond : ℕ) → lo + 1 + token_count u + 1 ≤ hi → there + 1 + token_count u + 1 ≤ beyond
        → GoTogether m old new hi beyond (walked old u (state f (items_frame l fo))).facts
        (walked new (numbered (there + 1) (shuffled order inner)) (state g (items_frame l fn))).facts
    items_together hi beyond far far' =
        let s : SomePicked = some_picked in
        subst (λ (h : Forest). GoTogether m old new hi beyond (walked old u (state f (items_frame l fo))).facts
        (walked new (numbered (there + 1) h) (state g (items_frame l fn))).facts) (sym s.picks.placed)
        (short m old new law order lists barred is lowest l u keeps lo there fo fn f g c s.ks s.picks hi beyond far far')

    pub new_each : list_all is_item (nodes_in (numbered (there + 1) (shuffled order inner))) ≡ true
    new_each =
        let s : SomePicked = some_picked in
        subst (λ (h : Forest). list_all is_item (nodes_in (numbered (there + 1) h)) ≡ true) (sym s.picks.placed)
        (fine_new m old new law order lists barred is lowest l u keeps lo there fo fn f g c s.ks s.picks).each

  -- ---- A list in its parentheses

  -- what is read of the items and of the parenthesis behind them
  through_items : (toks : List Token) (j first : ℕ) (l : Label) (u : Forest) (s : State) → is_parenthesised s.frame.label ≡ true → is_items l ≡ true
      → list_all is_item (nodes_in u) ≡ true
      → passed toks j (left toks l first u s (walked toks u (entered toks l first u s)))
      ≡ state (walked toks u (state s.facts (items_frame l s.frame))).facts (record s.frame { nth = s.frame.nth + 1 + 1; token = j })
  through_items toks j first l u s par items each =
      by (entered toks l first u s) (entered_items toks l first u s items (no_list_nodes u each))
    where
      behind_items : (x : State) → passed toks j (left toks l first u s x) ≡ state x.facts (record s.frame { nth = s.frame.nth + 1 + 1; token = j })
      behind_items x =
          ap (λ (y : State). passed toks j y) (left_items toks l first u s x items par)
          ∙ passed_plain toks j (state x.facts (record s.frame { nth = s.frame.nth + 1 })) par

      by : (x : State) → x ≡ state s.facts (items_frame l s.frame)
          → passed toks j (left toks l first u s (walked toks u x))
          ≡ state (walked toks u (state s.facts (items_frame l s.frame))).facts (record s.frame { nth = s.frame.nth + 1 + 1; token = j })
      by x e =
          behind_items (walked toks u x)
          ∙ ap (λ (y : State). state (walked toks u y).facts (record s.frame { nth = s.frame.nth + 1 + 1; token = j })) e

  -- what is read of parentheses and items
  through : (toks : List Token) (i j first : ℕ) (l : Label) (u : Forest) (s : State) → is_parenthesised s.frame.label ≡ true → is_items l ≡ true
      → list_all is_item (nodes_in u) ≡ true
      → walked toks (token i (node l first u (token j none))) s
      ≡ state (walked toks u (state s.facts (items_frame l (record s.frame { nth = s.frame.nth + 1; token = i })))).facts
      (record s.frame { nth = s.frame.nth + 1 + 1 + 1; token = j })
  unfolding walked
  through toks i j first l u s par items each =
      by (passed toks i s) (passed_plain toks i s par)
    where
      by : (x : State) → x ≡ state s.facts (record s.frame { nth = s.frame.nth + 1; token = i })
          → passed toks j (left toks l first u x (walked toks u (entered toks l first u x)))
          ≡ state (walked toks u (state s.facts (items_frame l (record s.frame { nth = s.frame.nth + 1; token = i })))).facts
          (record s.frame { nth = s.frame.nth + 1 + 1 + 1; token = j })
      by x e =
          subst (λ (y : State). passed toks j (left toks l first u y (walked toks u (entered toks l first u y)))
          ≡ state (walked toks u (state s.facts (items_frame l (record s.frame { nth = s.frame.nth + 1; token = i })))).facts
          (record s.frame { nth = s.frame.nth + 1 + 1 + 1; token = j })) (sym e)
          (through_items toks j first l u (state s.facts (record s.frame { nth = s.frame.nth + 1; token = i })) par items each)

  -- the frame of the parentheses, behind so many of their children, the last of which is this token
  abbrev frame_at : Frame → ℕ → ℕ → Frame
  frame_at fr n i = record fr { nth = n; token = i }

  frames_at : (keeps : Bool) (lo there n at i j : ℕ) (fr gr : Frame) → FramesGo m old new false keeps lo there fr gr
      → FramesGo m old new false false (lo + n) (there + n) (frame_at fr at i) (frame_at gr at j)
  frames_at keeps lo there n at i j fr gr k =
      let further : FramesGo m old new false keeps (lo + n) (there + n) fr gr = frames_further m old new law false keeps lo there n fr gr k in
      record {
        same = ap (λ (x : Frame). frame_at x at j) k.same;
        token = λ e. absurd (false≢true e);
        kept = λ e. absurd (false≢true e);
        ends = further.ends;
        outer = k.outer;
      }

  module _ (i j first : ℕ) (l l' : Label) (u : Forest) (keeps inside : Bool) (lo there : ℕ) (s t : State) (some : 1 ≤ lo) (label : s.frame.label ≡ l) (nth : s.frame.nth ≡ 0)
      (par : is_parenthesised l ≡ true) (a : AreFrom lo (token i (node l' first u (token j none))))
      (w : AreMovedTo m there (permuted order lists true (token i (node l' first u (token j none)))))
      (forms : have_forms (token i (node l' first u (token j none))) ≡ true)
      (fit : is_fit lists l false 0 s.frame.scope keeps (token i (node l' first u (token j none))) ≡ true)
      (box : is_bracketed (token i (node l' first u (token j none))) ≡ true)
      (cut : AreOf (length order) (cut_then lists true (token i (node l' first u (token j none))) done))
      (fine : AreFineLists old lists barred true inside l 0 (token i (node l' first u (token j none)))) (go : ListsGo m old new order lists barred u)
      (known : IsKnown lo there s t) (end : IsFineEnd barred (walked old (token i (node l' first u (token j none))) s)) (k : StatesGo m old new false keeps lo there s t) where
    abbrev under : Forest
    under = token i (node l' first u (token j none))

    abbrev inner_items : Forest
    inner_items = shuffled order (permuted order lists false u)

    abbrev fo : Frame
    fo = record s.frame { nth = s.frame.nth + 1; token = i }

    abbrev fn : Frame
    fn = record t.frame { nth = t.frame.nth + 1; token = there }

    box_parts : (is_items l' ≡ true) × (is_spaced false u ≡ true)
    box_parts = and_parts (is_items l') (is_spaced false u) box

    old_par : is_parenthesised s.frame.label ≡ true
    old_par = subst (λ (x : Label). is_parenthesised x ≡ true) (sym label) par

    new_label : t.frame.label ≡ s.frame.label
    new_label = ap (λ (x : Frame). x.label) k.frame.same

    new_par : is_parenthesised t.frame.label ≡ true
    new_par = subst (λ (x : Label). is_parenthesised x ≡ true) (sym new_label) old_par

    same_count : token_count (permuted order lists true under) ≡ token_count under
    same_count = count_permuted order lists is true under cut

    items_count : token_count inner_items ≡ token_count u
    items_count = omega (arith, same_count)

    items_each : list_all is_item (nodes_in u) ≡ true
    items_each =
        (and_parts (list_all is_item (nodes_in u)) (lists_pass lists (list_all is_item) false u && true) fine.items).0

    fine_items : AreFineLists old lists barred false true l' 0 u
    fine_items = record {
      items = (and_parts (lists_pass lists (list_all is_item) false u) true
          ((and_parts (list_all is_item (nodes_in u)) (lists_pass lists (list_all is_item) false u && true) fine.items).1)).0;
      apart = (and_parts (lists_pass lists (are_apart old) false u) true
          ((and_parts (are_apart old (nodes_in u)) (lists_pass lists (are_apart old) false u && true) fine.apart).1)).0;
      tags = subst (λ (c : Bool). list_all barred (tags_in lists false c l' 0 u) ≡ true) (or_last inside)
          ((tags_split old lists barred true inside l 1 l' first u (token j none) ((fine_rest old lists barred true inside l 0 i (node l' first u (token j none)) fine).tags)).0);
    }
      where
        or_last : (c : Bool) → (c || true) ≡ true
        or_last true = refl
        or_last false = refl

    same_forms : have_forms (permuted order lists true under) ≡ true
    same_forms = (same-cut order lists is true under done cut).forms ∙ forms

    old_forms : have_forms u ≡ true
    old_forms = (and_parts (have_forms u) true ((and_parts (has_form l'.production u) (have_forms u && true) forms).1)).0

    new_forms : have_forms inner_items ≡ true
    new_forms = (and_parts (have_forms inner_items) true ((and_parts (has_form l'.production inner_items) (have_forms inner_items && true) same_forms).1)).0

    fit_items : is_fit lists l' false 0 s.frame.scope keeps u ≡ true
    fit_items =
        let own : Bool = not (is_items l) in
        let p = and_parts (is_fit_child lists l own 1 s.frame.scope keeps l' u) (is_fit lists l' false 0 (scope_in l'.production l' u s.frame.scope) keeps u && _) fit in
        let q = and_parts (is_fit lists l' false 0 (scope_in l'.production l' u s.frame.scope) keeps u) _ p.1 in
        subst (λ (x : _). is_fit lists l' false 0 x keeps u ≡ true) (items_scope l' u s.frame.scope box_parts.0) q.0

    old_through : walked old under s ≡ state (walked old u (state s.facts (items_frame l' fo))).facts (frame_at s.frame (s.frame.nth + 1 + 1 + 1) j)
    old_through = through old i j first l' u s old_par box_parts.0 items_each

    abbrev old_inside : State
    old_inside = state s.facts (items_frame l' fo)

    abbrev new_inside : State
    new_inside = state t.facts (items_frame l' fn)

    end_items : IsFineEnd barred (walked old u old_inside)
    end_items = record {
      clean = ap (λ (x : State). x.facts.fault) (sym old_through) ∙ end.clean;
      fresh = subst (λ (x : State). All (λ (o : Occurrence). (o.declares && barred o.index) ≡ false) x.facts.occurrences) old_through end.fresh;
    }

    entered_old : entered old l' (lo + 1) u (passed old i s) ≡ old_inside
    entered_old =
        ap (λ (x : State). entered old l' (lo + 1) u x) (passed_plain old i s old_par)
        ∙ entered_items old l' (lo + 1) u (state s.facts fo) box_parts.0 (no_list_nodes u items_each)

    entered_new : entered new l' (there + 1) u (passed new there t) ≡ new_inside
    entered_new =
        ap (λ (x : State). entered new l' (there + 1) u x) (passed_plain new there t new_par)
        ∙ entered_items new l' (there + 1) u (state t.facts fn) box_parts.0 (no_list_nodes u items_each)

    known_inside : IsKnown (lo + 1) (there + 1) old_inside new_inside
    known_inside =
        subst (λ (x : State). IsKnown (lo + 1) (there + 1) x new_inside) entered_old
        (subst (λ (y : State). IsKnown (lo + 1) (there + 1) (entered old l' (lo + 1) u (passed old i s)) y) entered_new
        (known_entered old new (lo + 1) (there + 1) l' u u (passed old i s) (passed new there t) (known_passed old new lo there i s t a.0 known)))

    list : IsList m old new law order lists barred is lowest l' u keeps lo there fo fn s.facts t.facts
    list = record {
      items = box_parts.0;
      spaced = box_parts.1;
      from = a.1.1;
      moved = w.1.0;
      forms = old_forms;
      new_forms = new_forms;
      count = items_count;
      fit = fit_items;
      cut = cut;
      each = items_each;
      apart = (and_parts (are_apart old (nodes_in u)) (lists_pass lists (are_apart old) false u && true) fine.apart).0;
      fine = fine_items;
      go = go;
      old_token = a.0;
      new_token = refl;
      together = k.facts;
      frames = ap (λ (x : Frame). items_frame l' (record x { nth = x.nth + 1; token = there })) k.frame.same;
      kept = k.frame.kept;
      ends = k.frame.ends;
      outer = k.frame.outer;
      known = known_inside;
      clean = end_items.clean;
      fresh = end_items.fresh;
    }

    abbrev last : ℕ
    last = there + 1 + token_count inner_items

    abbrev over_items : Forest
    over_items = numbered (there + 1) inner_items

    abbrev n : ℕ
    n = token_count under

    new_through : walked new (numbered there (permuted order lists true under)) t ≡ state (walked new over_items new_inside).facts (frame_at t.frame (t.frame.nth + 1 + 1 + 1) last)
    new_through =
        through new there last (there + 1) l' over_items t new_par box_parts.0
        (new_each l' u keeps lo there fo fn s.facts t.facts list)

    same_nth : t.frame.nth ≡ s.frame.nth
    same_nth = ap (λ (x : Frame). x.nth) k.frame.same

    pub list_through : StatesGo m old new false false (lo + n) (there + n) (walked old under s) (walked new (numbered there (permuted order lists true under)) t)
    list_through =
        let at : ℕ = s.frame.nth + 1 + 1 + 1 in
        let new_end : walked new (numbered there (permuted order lists true under)) t ≡ state (walked new over_items new_inside).facts (frame_at t.frame at last) =
        new_through ∙ ap (λ (x : ℕ). state (walked new over_items new_inside).facts (frame_at t.frame (x + 1 + 1 + 1) last)) same_nth in
        let whole : StatesGo m old new false false (lo + n) (there + n) (state (walked old u old_inside).facts (frame_at s.frame at j))
        (state (walked new over_items new_inside).facts (frame_at t.frame at last)) = record {
          facts = items_together l' u keeps lo there fo fn s.facts t.facts list (lo + n) (there + n) (omega arith) (omega arith);
          frame = frames_at keeps lo there n at j last s.frame t.frame k.frame;
        } in
        subst (λ (x : State). StatesGo m old new false false (lo + n) (there + n) x (walked new (numbered there (permuted order lists true under)) t)) (sym old_through)
        (subst (λ (y : State). StatesGo m old new false false (lo + n) (there + n) (state (walked old u old_inside).facts (frame_at s.frame at j)) y) (sym new_end) whole)

  -- ---- All lists

  list_goes : (l : Label) (under : Forest) → is_among lists l under ≡ true → ListsGo m old new order lists barred under → ListGoes m old new order lists barred l under
  unfolding walked
  list_goes l none among go keeps inside lo there s t some label nth a w forms fit box cut fine known end k = absurd (false≢true box)
  list_goes l (node x first below rest) among go keeps inside lo there s t some label nth a w forms fit box cut fine known end k = absurd (false≢true box)
  list_goes l (token i none) among go keeps inside lo there s t some label nth a w forms fit box cut fine known end k = absurd (false≢true box)
  list_goes l (token i (token j none)) among go keeps inside lo there s t some label nth a w forms fit box cut fine known end k =
      let s1 : State = passed old i s in
      let t1 : State = passed new there t in
      let k1 : StatesGo m old new false keeps (lo + 1) (there + 1) s1 t1 = token_goes m old new law false keeps false lo there i s t a.0 w.0 k in
      let k2 : StatesGo m old new false keeps (lo + 1 + 1) (there + 1 + 1) (passed old j s1) (passed new (there + 1) t1) =
      token_goes m old new law false keeps false (lo + 1) (there + 1) j s1 t1 a.1.0 w.1.0 k1 in
      at_places m old new law false false (lo + 1 + 1) (there + 1 + 1) (lo + (0 + 1 + 1)) (there + (0 + 1 + 1)) (passed old j s1) (passed new (there + 1) t1) (omega arith) (omega arith)
      (forgotten m old new law false keeps (lo + 1 + 1) (there + 1 + 1) (passed old j s1) (passed new (there + 1) t1) k2)
  list_goes l (token i (token j (token x rest))) among go keeps inside lo there s t some label nth a w forms fit box cut fine known end k = absurd (false≢true box)
  list_goes l (token i (token j (node x first below rest))) among go keeps inside lo there s t some label nth a w forms fit box cut fine known end k = absurd (false≢true box)
  list_goes l (token i (node x first u none)) among go keeps inside lo there s t some label nth a w forms fit box cut fine known end k = absurd (false≢true box)
  list_goes l (token i (node x first u (node y second below rest))) among go keeps inside lo there s t some label nth a w forms fit box cut fine known end k = absurd (false≢true box)
  list_goes l (token i (node x first u (token j (token y rest)))) among go keeps inside lo there s t some label nth a w forms fit box cut fine known end k = absurd (false≢true box)
  list_goes l (token i (node x first u (token j (node y second below rest)))) among go keeps inside lo there s t some label nth a w forms fit box cut fine known end k =
      absurd (false≢true box)
  list_goes l (token i (node x first u (token j none))) among go keeps inside lo there s t some label nth a w forms fit box cut fine known end k =
      let under : Forest = token i (node x first u (token j none)) in
      list_through i j first l x u keeps inside lo there s t some label nth ((and_parts (is_parenthesised l) (lists (first_token under 0) && ends_in_token false under) among).0)
      a w forms fit box cut fine (go.1 (items_no_list lists x u ((and_parts (is_items x) (is_spaced false u) box).0))) known end k

  pub lists_go : (f : Forest) → ListsGo m old new order lists barred f
  lists_go none = tt
  lists_go (token i rest) = lists_go rest
  lists_go (node l first under rest) = (λ e. list_goes l under e (lists_go under), λ e. lists_go under, lists_go rest)
