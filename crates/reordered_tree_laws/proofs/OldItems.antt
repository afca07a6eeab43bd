-- The items of a list in the old order, one by one: their forms, their places, and what they add.
use Rattle.std.proofs.Common.{ℕ, zero, suc, ◌+◌, ◌-◌, ◌<◌, ◌≤◌, ◌≡◌, Bool, true, false, ◌&&◌, ◌||◌, not, if◌then◌else◌, List, [], ◌∷◌, ◌++◌, length, map, get_or, Option, None, Some, inl, refl, sym, ap, subst, ◌∙◌, arith}
use Rattle.std.specs.List.{All, list_all}
use Rattle.std.specs.Option.{option_map_or}
use Rattle.std.proofs.lemmas.Bool.{false≢true, and_parts, and_from}
use Rattle.std.proofs.lemmas.List.Elements.{All-nil, All-cons, All-get_or}
use Rattle.std.proofs.lemmas.List.Folds.{list_all-append}
use Rattle.std.proofs.Math.ListN as listn
use Rattle.cs_base.specs.Token.{Token}
use Rattle.c99_tree.specs.Tree.{Forest, none, token, node, Node, node_of}
use Rattle.c99_tree.specs.declared.production.Label.{Label}
use Rattle.c99_tree.specs.declared.production.Production.{Production}
use Rattle.c99_tree.specs.declared.production.Production.TheVariants.{Args, Params, Declarator, Enumerator}
use Rattle.c_types.specs.Trees.{is_node}
use Rattle.c_types.specs.Declarations.{Facts, alike}
use Rattle.name_chains.specs.Entering.{scope_in}
use Rattle.name_chains.specs.Frames.{outermost}
use Rattle.scope_bind.specs.Named.{Frame, Scope}
use Rattle.tree_laws.specs.TreesOfTexts.{token_count, AreFrom, has_form, have_forms}
use Rattle.list_cuts.specs.Cuts.{done, AreOf, AreItemsOf}
use Rattle.reordered_tree_laws.specs.Reordered.{nodes_in, no_node, is_among, permuted}
use Rattle.reordered_tree_laws.specs.Cuts.{cut_then, items_in}
use Rattle.reordered_tree_laws.specs.Premises.{is_items, is_spaced, has_outer_list, is_fit_child, is_fit, lists_pass, tags_in, declared_name, is_item, is_unasked_in, are_two_apart, are_apart}
use Rattle.reordered_tree_laws.specs.Lasting.{tags_pass}
use Rattle.reordered_tree_laws.specs.Siblings.{Gain, read_alone, ItemGains, ItemsGain, AreFresh, AlonesClear}
use Rattle.reordered_tree_laws.specs.Going.{AreFineLists, ListsGo}
use Rattle.reordered_tree_laws.proofs.TwoOrders.{no_gain, gain_at}
use Rattle.reordered_tree_laws.proofs.ListWalk.{all_split, fine_rest, fine_behind}
use Rattle.reordered_tree_laws.proofs.ListEnter.{item_production}
use Rattle.reordered_tree_laws.proofs.Spots.{Spot, spot_node, end_of, spots, AreSpotsApart}
use Rattle.reordered_tree_laws.proofs.Bags.{item_declarator as no_declarator}

-- ---- One child

child_by : (lists : ℕ → Bool) (p : Production) (a : ℕ) (own : Bool) (k : ℕ) (scope : Scope) (keeps : Bool) (m : Label) (under : Forest)
    → is_items (record { production = p; alternative = a }) ≡ true
    → is_fit_child lists (record { production = p; alternative = a }) own k scope keeps m under ≡ is_fit_child lists (record { production = p; alternative = a }) own 0 scope keeps m under
child_by lists Args a own k scope keeps m under e = refl
child_by lists Params a own k scope keeps m under e = refl
child_by lists _ a own k scope keeps m under e = absurd (false≢true e)

if_off : (c a b : Bool) → c ≡ false → (if c then a else b) ≡ b
if_off true a b e = absurd (false≢true (sym e))
if_off false a b e = refl

module _ (toks : List Token) (lists barred : ℕ → Bool) where
  fine_one : (l : Label) (k : ℕ) (m : Label) (first : ℕ) (under rest : Forest) → AreFineLists toks lists barred false true l k (node m first under rest)
      → AreFineLists toks lists barred false true l 0 (node m first under none)
  fine_one l k m first under rest h =
      let here : List ℕ = if true && is_node m Enumerator then first ∷ [] else [] in
      let below : List ℕ = tags_in lists (not false && is_among lists m under) (true || false) m 0 under in
      let more : List ℕ = tags_in lists false true l (k + 1) rest in
      let p = all_split barred here (below ++ more) h.tags in
      let q = all_split barred below more p.1 in
      let tail : list_all barred (below ++ []) ≡ true = list_all-append barred below [] ∙ and_from (list_all barred below) true q.0 refl in
      record {
        items = and_from (lists_pass lists (list_all is_item) (is_among lists m under) under) true
            ((and_parts (lists_pass lists (list_all is_item) (is_among lists m under) under) (lists_pass lists (list_all is_item) false rest) h.items).0) refl;
        apart = and_from (lists_pass lists (are_apart toks) (is_among lists m under) under) true
            ((and_parts (lists_pass lists (are_apart toks) (is_among lists m under) under) (lists_pass lists (are_apart toks) false rest) h.apart).0) refl;
        tags = list_all-append barred here (below ++ []) ∙ and_from (list_all barred here) (list_all barred (below ++ [])) p.0 tail;
      }

-- ---- All items

module _ (m : ℕ → ℕ) (old new : List Token) (order : List ℕ) (lists barred bar : ℕ → Bool) (l : Label) (keeps : Bool) (fr0 : Frame) (f g : Facts) (begin limit : ℕ) where
  -- all that is known of an item in the old order
  pub record IsOldItem (p : Spot) : Type 0 where
    pub first : p.first ≡ p.at
    pub from : AreFrom p.at p.under
    pub forms : have_forms (node p.label p.first p.under none) ≡ true
    pub fit : is_fit lists l false 0 fr0.scope keeps (node p.label p.first p.under none) ≡ true
    pub all : AreOf (length order) (cut_then lists false (node p.label p.first p.under none) done)
    pub fine : AreFineLists old lists barred false true l 0 (node p.label p.first p.under none)
    pub tags : tags_pass bar p.label 0 p.under ≡ true
    pub go : ListsGo m old new order lists barred (node p.label p.first p.under none)
    pub item : is_item (spot_node p) ≡ true
    pub gains : ItemGains old f g p.frame p.at (end_of p) (spot_node p) p.gain
    pub clean : (read_alone old f p.frame p.label p.first p.under).fault ≡ None
    pub fresh : AreFresh barred (read_alone old f p.frame p.label p.first p.under).occurrences
    pub frame : p.frame ≡ record fr0 { nth = p.frame.nth; token = p.frame.token }
    pub token : p.frame.token + 1 ≤ p.at
    pub low : begin ≤ p.at
    pub high : end_of p ≤ limit

  module _ (items : is_items l ≡ true) where
    pub old_items : (u : Forest) (at k : ℕ) (fr : Frame) (gs : List Gain) → AreFrom at u → have_forms u ≡ true → is_fit lists l false k fr0.scope keeps u ≡ true
        → list_all is_item (nodes_in u) ≡ true → AreItemsOf (length order) (items_in lists u) → AreFineLists old lists barred false true l k u
        → tags_pass bar l k u ≡ true → ListsGo m old new order lists barred u → ItemsGain old f g fr at u gs → AlonesClear old barred f fr u → fr ≡ record fr0 { nth = fr.nth; token = fr.token }
        → fr.token + 1 ≤ at → begin ≤ at → at + token_count u ≤ limit → All IsOldItem (spots u at fr gs)
    old_items none at k fr gs a forms fit each all fine tag go gain clear same front low high = All-nil IsOldItem
    old_items (token i rest) at k fr gs a forms fit each all fine tag go gain clear same front low high =
        let own : is_fit lists l false (k + 1) fr0.scope keeps rest ≡ true = subst (λ (c : Bool). is_fit lists l (not c) (k + 1) fr0.scope keeps rest ≡ true) items fit in
        old_items rest (at + 1) (k + 1) (record fr { nth = fr.nth + 1; token = i }) gs a.1 forms own each all (fine_rest old lists barred false true l k i rest fine)
        ((and_parts _ (tags_pass bar l (k + 1) rest) tag).1) go gain clear
        (ap (λ (x : Frame). record x { nth = fr.nth + 1; token = i }) same) (omega (arith, a.0)) (omega (arith, low)) (omega (arith, high))
    old_items (node x first under rest) at k fr [] a forms fit each all fine tag go gain clear same front low high = absurd gain
    old_items (node x first under rest) at k fr (b ∷ gs) a forms fit each all fine tag go gain clear same front low high =
        let p : Spot = record { label = x; first = first; under = under; at = at; frame = fr; gain = b } in
        let any : Bool = if is_node x Declarator then has_outer_list lists false under else keeps in
        let child : Bool = is_fit_child lists l false k fr0.scope keeps x under in
        let below : Bool = is_fit lists x false 0 (scope_in x.production x under fr0.scope) keeps under in
        let more : Bool = is_fit lists l false (k + 1) fr0.scope any rest in
        let q = and_parts child (below && more) fit in
        let r = and_parts below more q.1 in
        let fs = and_parts (has_form x.production under) (have_forms under && have_forms rest) forms in
        let hs = and_parts (have_forms under) (have_forms rest) fs.1 in
        let es = and_parts (is_item (node_of x first under)) (list_all is_item (nodes_in rest)) each in
        let ts = and_parts (tags_pass bar x 0 under) (tags_pass bar l (k + 1) rest) tag in
        let still : any ≡ keeps = if_off (is_node x Declarator) (has_outer_list lists false under) keeps (no_declarator x.production (item_production x first under es.0)) in
        let here : IsOldItem p = record {
          first = a.0;
          from = a.1;
          forms = and_from (has_form x.production under) (have_forms under && true) fs.0 (and_from (have_forms under) true hs.0 refl);
          fit = and_from (is_fit_child lists l false 0 fr0.scope keeps x under) (below && true)
              (sym (child_by lists l.production l.alternative false k fr0.scope keeps x under items) ∙ q.0) (and_from below true r.0 refl);
          all = all.0;
          fine = fine_one old lists barred l k x first under rest fine;
          tags = ts.0;
          go = (go.0, go.1, tt);
          item = es.0;
          gains = gain.0;
          clean = clear.0.0;
          fresh = clear.0.1;
          frame = same;
          token = front;
          low = low;
          high = omega (arith, high);
        } in
        All-cons IsOldItem p (spots rest (at + token_count under) (record fr { nth = fr.nth + 1 }) gs) here
        (old_items rest (at + token_count under) (k + 1) (record fr { nth = fr.nth + 1 }) gs a.2 hs.1
        (subst (λ (c : Bool). is_fit lists l false (k + 1) fr0.scope c rest ≡ true) still r.1) es.1 all.1 (fine_behind old lists barred true l k x first under rest fine) ts.1 go.2
        gain.1 clear.1 (ap (λ (y : Frame). record y { nth = fr.nth + 1 }) same) (omega (arith, front)) (omega (arith, low)) (omega (arith, high)))

-- ---- One behind another

two_names : (toks : List Token) (n k : Node) (i j : ℕ) → are_two_apart toks n k ≡ true → declared_name n ≡ Some i → declared_name k ≡ Some j → alike toks i j ≡ false
two_names toks n k i j e h w =
    let p = and_parts (option_map_or (is_unasked_in toks k) (declared_name n) true) (option_map_or (is_unasked_in toks n) (declared_name k) true) e in
    let q : is_unasked_in toks k i ≡ true = sym (ap (λ (r : Option ℕ). option_map_or (is_unasked_in toks k) r true) h) ∙ p.0 in
    let r = and_parts _ (not (option_map_or (alike toks i) (declared_name k) false)) q in
    off (alike toks i j) (sym (ap (λ (x : Option ℕ). not (option_map_or (alike toks i) x false)) w) ∙ r.1)
  where
    off : (c : Bool) → not c ≡ true → c ≡ false
    off true e = sym e
    off false e = refl

-- the relation holds of each and of each later one
abbrev pub AreAllApart : List Token → List Spot → Type 0
AreAllApart toks [] = Unit {0}
AreAllApart toks (p ∷ ps) = All (AreSpotsApart toks p) ps × AreAllApart toks ps

module _ (toks : List Token) where
  -- how many tokens stand before the next node at least
  abbrev gap_of : Bool → ℕ
  gap_of true = 1
  gap_of false = 0

  later_apart : (p : Spot) (d : ℕ) (u : Forest) (passed : Bool) (at : ℕ) (fr : Frame) (gs : List Gain) → list_all (are_two_apart toks (spot_node p)) (nodes_in u) ≡ true
      → is_spaced passed u ≡ true → AreFrom at u → (passed ≡ false → end_of p ≤ fr.token) → end_of p + 1 ≤ at + gap_of passed → p.frame.scope.depth ≡ d → fr.scope.depth ≡ d → All (AreSpotsApart toks p) (spots u at fr gs)
  later_apart p d none passed at fr gs e spaced from front far here there = All-nil (AreSpotsApart toks p)
  later_apart p d (token i rest) passed at fr gs e spaced from front far here there =
      later_apart p d rest false (at + 1) (record fr { nth = fr.nth + 1; token = i }) gs e spaced from.1 (λ w. omega (arith, from.0, by passed far)) (by passed far) here there
    where
      by : (c : Bool) → end_of p + 1 ≤ at + gap_of c → end_of p + 1 ≤ at + 1 + 0
      by true h = omega (arith, h)
      by false h = omega (arith, h)
  later_apart p d (node x first under rest) passed at fr [] e spaced from front far here there = All-nil (AreSpotsApart toks p)
  later_apart p d (node x first under rest) passed at fr (b ∷ gs) e spaced from front far here there =
      let q : Spot = record { label = x; first = first; under = under; at = at; frame = fr; gain = b } in
      let es = and_parts (are_two_apart toks (spot_node p) (node_of x first under)) (list_all (are_two_apart toks (spot_node p)) (nodes_in rest)) e in
      let ss = and_parts (not passed) (is_spaced true rest) spaced in
      let close : end_of p + 1 ≤ at = by passed ss.0 far in
      All-cons (AreSpotsApart toks p) q (spots rest (at + token_count under) (record fr { nth = fr.nth + 1 }) gs)
      (record { behind = inl (close, front (off passed ss.0)); depth = here ∙ sym there; names = λ i j. two_names toks (spot_node p) (node_of x first under) i j es.0 })
      (later_apart p d rest true (at + token_count under) (record fr { nth = fr.nth + 1 }) gs es.1 ss.1 from.2 (λ w. absurd (false≢true (sym w))) (omega (arith, close)) here there)
    where
      off : (c : Bool) → not c ≡ true → c ≡ false
      off true w = sym w
      off false w = refl

      by : (c : Bool) → not c ≡ true → end_of p + 1 ≤ at + gap_of c → end_of p + 1 ≤ at
      by true w h = absurd (false≢true w)
      by false w h = omega (arith, h)

  pub all_apart : (d : ℕ) (u : Forest) (passed : Bool) (at : ℕ) (fr : Frame) (gs : List Gain) → are_apart toks (nodes_in u) ≡ true → is_spaced passed u ≡ true → AreFrom at u
      → fr.scope.depth ≡ d → AreAllApart toks (spots u at fr gs)
  all_apart d none passed at fr gs e spaced from there = tt
  all_apart d (token i rest) passed at fr gs e spaced from there = all_apart d rest false (at + 1) (record fr { nth = fr.nth + 1; token = i }) gs e spaced from.1 there
  all_apart d (node x first under rest) passed at fr [] e spaced from there = tt
  all_apart d (node x first under rest) passed at fr (b ∷ gs) e spaced from there =
      let p : Spot = record { label = x; first = first; under = under; at = at; frame = fr; gain = b } in
      let es = and_parts (list_all (are_two_apart toks (node_of x first under)) (nodes_in rest)) (are_apart toks (nodes_in rest)) e in
      let ss = and_parts (not passed) (is_spaced true rest) spaced in (
        later_apart p d rest true (at + token_count under) (record fr { nth = fr.nth + 1 }) gs es.0 ss.1 from.2 (λ w. absurd (false≢true (sym w))) (omega arith) there there,
        all_apart d rest true (at + token_count under) (record fr { nth = fr.nth + 1 }) gs es.1 ss.1 from.2 there,
      )

-- ---- By their numbers

abbrev pub no_spot : Spot
no_spot = record { label = record { production = Args; alternative = 1 }; first = 0; under = none; at = 0; frame = outermost 0; gain = no_gain }

-- item number k; they count from 1
abbrev pub spot_at : List Spot → ℕ → Spot
spot_at ps k = get_or ps (k - 1) no_spot

pub gains_of_spots : (toks : List Token) (f g : Facts) (u : Forest) (at : ℕ) (fr : Frame) (gs : List Gain) → ItemsGain toks f g fr at u gs
    → map (λ (p : Spot). p.gain) (spots u at fr gs) ≡ gs
gains_of_spots toks f g none at fr [] h = refl
gains_of_spots toks f g none at fr (b ∷ gs) h = absurd h
gains_of_spots toks f g (token i rest) at fr gs h = gains_of_spots toks f g rest (at + 1) (record fr { nth = fr.nth + 1; token = i }) gs h
gains_of_spots toks f g (node x first under rest) at fr [] h = absurd h
gains_of_spots toks f g (node x first under rest) at fr (b ∷ gs) h =
    ap (λ (xs : List Gain). b ∷ xs) (gains_of_spots toks f g rest (at + token_count under) (record fr { nth = fr.nth + 1 }) gs h.1)

pub gain_of_spot : (ps : List Spot) (k : ℕ) → gain_at (map (λ (p : Spot). p.gain) ps) k ≡ (spot_at ps k).gain
gain_of_spot ps k = listn.get_or-map (λ (p : Spot). p.gain) ps (k - 1) no_spot

module _ (order : List ℕ) (lists : ℕ → Bool) where
  -- an item, with lists in it in the new order
  abbrev pub moved_node : Spot → Node
  moved_node p = node_of p.label p.first (permuted order lists (is_among lists p.label p.under) p.under)

  pub nodes_of_spots : (toks : List Token) (f g : Facts) (u : Forest) (at : ℕ) (fr : Frame) (gs : List Gain) → ItemsGain toks f g fr at u gs
      → nodes_in (permuted order lists false u) ≡ map moved_node (spots u at fr gs)
  nodes_of_spots toks f g none at fr [] h = refl
  nodes_of_spots toks f g none at fr (b ∷ gs) h = absurd h
  nodes_of_spots toks f g (token i rest) at fr gs h = nodes_of_spots toks f g rest (at + 1) (record fr { nth = fr.nth + 1; token = i }) gs h
  nodes_of_spots toks f g (node x first under rest) at fr [] h = absurd h
  nodes_of_spots toks f g (node x first under rest) at fr (b ∷ gs) h =
      ap (λ (ns : List Node). node_of x first (permuted order lists (is_among lists x under) under) ∷ ns)
      (nodes_of_spots toks f g rest (at + token_count under) (record fr { nth = fr.nth + 1 }) gs h.1)

  pub node_of_spot : (ps : List Spot) (k : ℕ) → get_or (map moved_node ps) (k - 1) no_node ≡ moved_node (spot_at ps k)
  node_of_spot ps k = listn.get_or-map moved_node ps (k - 1) no_spot

pub apart_at : (toks : List Token) (ps : List Spot) (i j : ℕ) → AreAllApart toks ps → i < j → j < length ps → AreSpotsApart toks (get_or ps i no_spot) (get_or ps j no_spot)
apart_at toks [] i j h less short = absurd (omega (arith, short))
apart_at toks (p ∷ ps) zero zero h less short = absurd (omega (arith, less))
apart_at toks (p ∷ ps) zero (suc j) h less short = All-get_or (AreSpotsApart toks p) ps j no_spot (omega (arith, short)) h.0
apart_at toks (p ∷ ps) (suc i) zero h less short = absurd (omega (arith, less))
apart_at toks (p ∷ ps) (suc i) (suc j) h less short = apart_at toks ps i j h.1 (omega (arith, less)) (omega (arith, short))
