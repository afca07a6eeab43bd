-- An item goes along by itself, from what is known in front of its list: in the old order and in the new one.
use Rattle.std.proofs.Common.{ℕ, ◌+◌, ◌<◌, ◌≤◌, ◌≡◌, Bool, true, false, ◌&&◌, ◌||◌, not, ◌==◌, List, [], ◌∷◌, ◌++◌, length, map, get_or, cond, Option, None, ◌⊎◌, inl, inr, refl, sym, ap, subst, ◌∙◌, arith}
use Rattle.std.specs.Prelude.{nat_lt, filter, find}
use Rattle.std.specs.List.{All}
use Rattle.std.specs.Option.{option_map}
use Rattle.std.proofs.lemmas.Bool.{false≢true, cases_Bool, and_from, eqb-true, eq-eqb, le-ltb, lt-ltb}
use Rattle.std.proofs.lemmas.List.{map-append}
use Rattle.std.proofs.lemmas.List.Elements.{filter-append, All-nil, All-cons, All-head, All-tail, All-weaker, All-get_or, All-from_get_or}
use Rattle.cs_base.specs.Token.{Token}
use Rattle.c99_tree.specs.Tree.{Forest, none, node, node_of}
use Rattle.c99_tree.specs.declared.production.Label.{Label}
use Rattle.c99_tree.specs.declared.production.Production.{Production}
use Rattle.c99_tree.specs.declared.production.Production.TheVariants.{Declarator, Pdecl, Enumerator, MemRest, Members, Enumerators, FunBody, Assign, Cond, Lor, Land, Bor, Bxor, Band, Equal, Relate, Shift, Add, Mul, Cast, Unary, Primary, Param}
use Rattle.c_types.specs.Declarations.{Facts, is_in}
use Rattle.name_chains.specs.Frames.{State, state}
use Rattle.name_chains.specs.Entering.{is_member, entered}
use Rattle.scope_bind.specs.Named.{Declaration, Occurrence, Body, Frame}
use Rattle.scope_bind.specs.Walk.{facts_after, walked}
use Rattle.tree_laws.specs.TreesOfTexts.{token_count}
use Rattle.list_cuts.specs.Cuts.{IsOrder}
use Rattle.reordered_tree_laws.specs.Reordered.{is_among, permuted, numbered}
use Rattle.reordered_tree_laws.specs.Adding.{IsNamedIn}
use Rattle.reordered_tree_laws.specs.Premises.{is_items, is_item_production}
use Rattle.scope_bind.specs.Moved.{moved_frame, moved_occurrence, AreMovedTexts}
use Rattle.reordered_tree_laws.specs.Moving.{AreMoved, AreToldAlike, Question, answers, moved_question, IsAhead, IsAsked, GoTogether, StatesGo, AreMovedTo}
use Rattle.reordered_tree_laws.proofs.MovedFacts.{further_ahead, further_asked, further}
use Rattle.reordered_tree_laws.proofs.MovedTrees.{AreSpans}
use Rattle.reordered_tree_laws.proofs.MovedWalk.{at_places}
use Rattle.reordered_tree_laws.proofs.MovedHeads.{count_permuted}
use Rattle.reordered_tree_laws.proofs.MovedOrders.{spans_permuted}
use Rattle.reordered_tree_laws.proofs.MovedUnits.{no_some}
use Rattle.reordered_tree_laws.proofs.SameForms.{count-numbered}
use Rattle.reordered_tree_laws.specs.Beside.{IsOwnFrame}
use Rattle.reordered_tree_laws.specs.Owned.{IsOwnState}
use Rattle.reordered_tree_laws.specs.Siblings.{Gain, is_between, read_alone, ItemGains, AreFresh}
use Rattle.reordered_tree_laws.specs.Going.{from_on, IsToldMember, IsKnown, IsFineEnd}
use Rattle.reordered_tree_laws.proofs.Low.{below_on, further_on, own_less}
use Rattle.reordered_tree_laws.proofs.ListWalk.{walk, told_walked}
use Rattle.reordered_tree_laws.proofs.NamesNear.{names_near}
use Rattle.reordered_tree_laws.proofs.ListEnter.{items_frame, item_production}
use Rattle.reordered_tree_laws.proofs.Spots.{Spot, end_of, between_parts}
use Rattle.reordered_tree_laws.proofs.OldItems.{IsOldItem}

-- ---- A child that is an item

item_after : (toks : List Token) (p : Production) (first : ℕ) (fr : Frame) (l : Label) (under : Forest) (body : Option Body) (f : Facts) → is_item_production p ≡ true
    → facts_after toks p first fr l under body f ≡ f
item_after toks Declarator first fr l under body f e = absurd (false≢true e)
item_after toks Pdecl first fr l under body f e = absurd (false≢true e)
item_after toks Enumerator first fr l under body f e = absurd (false≢true e)
item_after toks MemRest first fr l under body f e = absurd (false≢true e)
item_after toks Members first fr l under body f e = absurd (false≢true e)
item_after toks Enumerators first fr l under body f e = absurd (false≢true e)
item_after toks FunBody first fr l under body f e = absurd (false≢true e)
item_after toks _ first fr l under body f e = refl

-- how many children stand in front of it does not matter
nth_by : (toks : List Token) (p : Production) (a first : ℕ) (under : Forest) (f : Facts) (fr : Frame) → is_item_production p ≡ true
    → entered toks (record { production = p; alternative = a }) first under (state f fr)
    ≡ entered toks (record { production = p; alternative = a }) first under (state f (record fr { nth = 0 }))
nth_by toks Assign a first under f fr e = refl
nth_by toks Cond a first under f fr e = refl
nth_by toks Lor a first under f fr e = refl
nth_by toks Land a first under f fr e = refl
nth_by toks Bor a first under f fr e = refl
nth_by toks Bxor a first under f fr e = refl
nth_by toks Band a first under f fr e = refl
nth_by toks Equal a first under f fr e = refl
nth_by toks Relate a first under f fr e = refl
nth_by toks Shift a first under f fr e = refl
nth_by toks Add a first under f fr e = refl
nth_by toks Mul a first under f fr e = refl
nth_by toks Cast a first under f fr e = refl
nth_by toks Unary a first under f fr e = refl
nth_by toks Primary a first under f fr e = refl
nth_by toks Param a first under f fr e = refl
nth_by toks _ a first under f fr e = absurd (false≢true e)

pub alone_at : (toks : List Token) (l : Label) (first : ℕ) (under : Forest) (f : Facts) (fr fr0 : Frame) → is_item_production l.production ≡ true
    → fr ≡ record fr0 { nth = fr.nth; token = fr.token }
    → read_alone toks f fr l first under ≡ (walked toks (node l first under none) (state f (record fr0 { nth = 0; token = fr.token }))).facts
unfolding walked
alone_at toks l first under f fr fr0 e same =
    let low : Frame = record fr0 { nth = 0; token = fr.token } in
    let s1 : State = entered toks l first under (state f fr) in
    let s2 : State = entered toks l first under (state f low) in
    let nth : s1 ≡ s2 =
    nth_by toks l.production l.alternative first under f fr e
    ∙ ap (λ (x : Frame). entered toks l first under (state f (record x { nth = 0 }))) same in
    item_after toks l.production first fr l under (walked toks under s1).frame.body (walked toks under s1).facts e
    ∙ (ap (λ (x : State). (walked toks under x).facts) nth
    ∙ sym (item_after toks l.production first low l under (walked toks under s2).frame.body (walked toks under s2).facts e))

-- ---- What is taken away in front of what goes together

moved_length : (m : ℕ → ℕ) (xs ys : List Declaration) → AreMoved m xs ys → length ys ≡ length xs
moved_length m [] [] h = refl
moved_length m (x ∷ xs) (y ∷ ys) h = omega (arith, moved_length m xs ys h.1)
moved_length m [] (y ∷ ys) h = absurd h
moved_length m (x ∷ xs) [] h = absurd h

longer : {X : Type 0} (xs ys : List X) → length ys ≤ length (xs ++ ys)
longer [] ys = omega arith
longer (x ∷ xs) ys = omega (arith, longer xs ys)

moved_front : (m : ℕ → ℕ) (xs ys zs ws : List Declaration) → AreMoved m (xs ++ zs) (ys ++ ws) → AreMoved m zs ws → AreMoved m xs ys
moved_front m [] [] zs ws h k = tt
moved_front m (x ∷ xs) (y ∷ ys) zs ws h k = (h.0, moved_front m xs ys zs ws h.1 k)
moved_front m [] (y ∷ ys) zs ws h k = absurd (omega (arith, moved_length m zs (y ∷ (ys ++ ws)) h, moved_length m zs ws k, longer ys ws))
moved_front m (x ∷ xs) [] zs ws h k = absurd (omega (arith, moved_length m (x ∷ (xs ++ zs)) ws h, moved_length m zs ws k, longer xs zs))

module _ {X : Type 0} where
  abbrev first_of : X → List X → X
  first_of z [] = z
  first_of z (w ∷ ws) = w

  abbrev rest_of : List X → List X
  rest_of [] = []
  rest_of (w ∷ ws) = ws

  front_same : (xs ys zs : List X) → xs ++ zs ≡ ys ++ zs → xs ≡ ys
  front_same [] [] zs e = refl
  front_same (x ∷ xs) (y ∷ ys) zs e =
      let here : x ≡ y = ap (λ (l : List X). first_of x l) e in
      let more : xs ≡ ys = front_same xs ys zs (ap (λ (l : List X). rest_of l) e) in
      ap (λ (z : X). z ∷ xs) here ∙ ap (λ (l : List X). y ∷ l) more
  front_same [] (y ∷ ys) zs e = absurd (omega (arith, ap (λ (l : List X). length l) e, longer ys zs))
  front_same (x ∷ xs) [] zs e = absurd (omega (arith, ap (λ (l : List X). length l) e, longer xs zs))

all_front : (P : Declaration → Type 0) (xs ys : List Declaration) → All P (xs ++ ys) → All P xs
all_front P [] ys h = All-nil P
all_front P (x ∷ xs) ys h = All-cons P x xs (All-head P x (xs ++ ys) h) (all_front P xs ys (All-tail P x (xs ++ ys) h))

-- ---- Names that are barred

in_map : (m : ℕ → ℕ) (xs : List ℕ) (x : ℕ) → is_in (map m xs) x ≡ true → (i : ℕ) × (m i ≡ x) × (is_in xs i ≡ true)
in_map m [] x e = absurd (false≢true e)
in_map m (y ∷ ys) x e = elim (cases_Bool (m y == x)) [
  | inl here ↦ (y, eqb-true (m y) x here, ap (λ (c : Bool). c || is_in ys y) (eq-eqb y y refl))
  | inr other ↦
      let r = in_map m ys x (sym (ap (λ (c : Bool). c || is_in (map m ys) x) other) ∙ e) in
      (r.0, r.1, later (y == r.0) r.2)
]
  where
    later : (c : Bool) {d : Bool} → d ≡ true → (c || d) ≡ true
    later true w = refl
    later false w = w

filtered_by : {X : Type 0} (q : X → Bool) (P : X → Type 0) (x : X) (xs : List X) (c : Bool) → q x ≡ c → All P (cond c (x ∷ filter q xs) (filter q xs))
    → (All P (filter q xs) → All (λ y. q y ≡ true → P y) xs) → All (λ y. q y ≡ true → P y) (x ∷ xs)
filtered_by q P x xs true e w more = All-cons (λ y. q y ≡ true → P y) x xs (λ v. All-head P x (filter q xs) w) (more (All-tail P x (filter q xs) w))
filtered_by q P x xs false e w more = All-cons (λ y. q y ≡ true → P y) x xs (λ v. absurd (false≢true (sym e ∙ v))) (more w)

filtered_all : {X : Type 0} (q : X → Bool) (P : X → Type 0) (xs : List X) → All P (filter q xs) → All (λ x. q x ≡ true → P x) xs
filtered_all q P [] h = All-nil (λ x. q x ≡ true → P x)
filtered_all q P (x ∷ xs) h = filtered_by q P x xs (q x) refl h (λ w. filtered_all q P xs w)

mapped_quiet : (m : ℕ → ℕ) (os : List Occurrence) → All (λ (o : Occurrence). o.declares ≡ false) os → All (λ (o : Occurrence). o.declares ≡ false) (map (moved_occurrence m) os)
mapped_quiet m [] h = All-nil (λ (o : Occurrence). o.declares ≡ false)
mapped_quiet m (o ∷ os) h =
    All-cons (λ (x : Occurrence). x.declares ≡ false) (moved_occurrence m o) (map (moved_occurrence m) os) (All-head (λ (x : Occurrence). x.declares ≡ false) o os h)
    (mapped_quiet m os (All-tail (λ (x : Occurrence). x.declares ≡ false) o os h))

quiet_filter : (barred : ℕ → Bool) (i : ℕ) (os : List Occurrence) → barred i ≡ true → AreFresh barred os
    → All (λ (o : Occurrence). o.declares ≡ false) (filter (λ (o : Occurrence). o.index == i) os)
quiet_filter barred i [] bar h = All-nil (λ (o : Occurrence). o.declares ≡ false)
quiet_filter barred i (o ∷ os) bar h =
    by (o.index == i) refl (quiet_filter barred i os bar (All-tail (λ (x : Occurrence). (x.declares && barred x.index) ≡ false) o os h))
  where
    off : (c d : Bool) → d ≡ true → (c && d) ≡ false → c ≡ false
    off true d e w = sym e ∙ w
    off false d e w = refl

    by : (c : Bool) → (o.index == i) ≡ c → All (λ (x : Occurrence). x.declares ≡ false) (filter (λ (x : Occurrence). x.index == i) os)
        → All (λ (x : Occurrence). x.declares ≡ false) (cond c (o ∷ filter (λ (x : Occurrence). x.index == i) os) (filter (λ (x : Occurrence). x.index == i) os))
    by true e rest =
        All-cons (λ (x : Occurrence). x.declares ≡ false) o (filter (λ (x : Occurrence). x.index == i) os)
        (off o.declares (barred o.index) (ap barred (eqb-true o.index i e) ∙ bar) (All-head (λ (x : Occurrence). (x.declares && barred x.index) ≡ false) o os h)) rest
    by false e rest = rest

abbrev none_noted : Occurrence
none_noted = record { index = 0; entity = 0; declares = false }

-- what is fresh in the one text is so in the other one
fresh_moved : (m : ℕ → ℕ) (barred : ℕ → Bool) (os ps : List Occurrence)
    → ((i : ℕ) → filter (λ (o : Occurrence). o.index == m i) ps ≡ map (moved_occurrence m) (filter (λ (o : Occurrence). o.index == i) os))
    → AreFresh barred os → (xs : List ℕ) → ((i : ℕ) → is_in xs i ≡ true → barred i ≡ true) → AreFresh (is_in (map m xs)) ps
fresh_moved m barred os ps noted fresh xs bars =
    All-from_get_or (λ (o : Occurrence). (o.declares && is_in (map m xs) o.index) ≡ false) ps none_noted (λ j less. one j less (is_in (map m xs) (get_or ps j none_noted).index) refl)
  where
    quiet : (i : ℕ) → is_in xs i ≡ true → All (λ (o : Occurrence). (o.index == m i) ≡ true → o.declares ≡ false) ps
    quiet i e =
        filtered_all (λ (o : Occurrence). o.index == m i) (λ (o : Occurrence). o.declares ≡ false) ps
        (subst (λ (qs : List Occurrence). All (λ (o : Occurrence). o.declares ≡ false) qs) (sym (noted i))
        (mapped_quiet m (filter (λ (o : Occurrence). o.index == i) os) (quiet_filter barred i os (bars i e) fresh)))

    one : (j : ℕ) → j < length ps → (c : Bool) → is_in (map m xs) (get_or ps j none_noted).index ≡ c
        → ((get_or ps j none_noted).declares && is_in (map m xs) (get_or ps j none_noted).index) ≡ false
    one j less false e = ap (λ (c : Bool). (get_or ps j none_noted).declares && c) e ∙ last (get_or ps j none_noted).declares
      where
        last : (c : Bool) → (c && false) ≡ false
        last true = refl
        last false = refl
    one j less true e =
        let r = in_map m xs (get_or ps j none_noted).index e in
        ap (λ (c : Bool). c && is_in (map m xs) (get_or ps j none_noted).index)
        (All-get_or (λ (o : Occurrence). (o.index == m r.0) ≡ true → o.declares ≡ false) ps j none_noted less (quiet r.0 r.2)
        (eq-eqb (get_or ps j none_noted).index (m r.0) (sym r.1)))

-- ---- An item in both orders

module _ (m : ℕ → ℕ) (old new : List Token) (law : AreMovedTexts m old new) (order : List ℕ) (lists barred bar : ℕ → Bool) (is : IsOrder (length order) order)
    (lowest : lists 0 ≡ false) (l : Label) (keeps : Bool) (items : is_items l ≡ true) (lo there : ℕ) (fo fn : Frame) (f g behind : Facts) (limit : ℕ) where
  -- the frames of the node with the items, at its first child
  abbrev pub old_frame : Frame
  old_frame = items_frame l fo

  abbrev pub new_frame : Frame
  new_frame = items_frame l fn

  abbrev pub IsItem : Spot → Type 0
  IsItem p = IsOldItem m old new order lists barred bar l keeps old_frame f behind (lo + 1) limit p

  -- what goes together in front of the list
  pub record GoBefore : Type 0 where
    pub facts : GoTogether m old new lo there f g
    pub same : new_frame ≡ moved_frame m new_frame.token new_frame.scope.to new_frame.kept old_frame
    pub kept : keeps ≡ true → new_frame.kept ≡ option_map m old_frame.kept
    pub ends : (k : ℕ) → IsAhead m lo there k → nat_lt (m k) new_frame.scope.to ≡ nat_lt k old_frame.scope.to
    pub outer : old_frame.scope.depth ≡ 1 → new_frame.scope.to ≡ m old_frame.scope.to
    pub known : IsKnown (lo + 1) (there + 1) (state f old_frame) (state g new_frame)

  module _ (before : GoBefore) where
    abbrev child : Spot → Forest
    child p = node p.label p.first p.under none

    -- the item at its new place
    abbrev pub moved_under : Spot → ℕ → Forest
    moved_under p at = numbered at (permuted order lists (is_among lists p.label p.under) p.under)

    abbrev moved_child : Spot → ℕ → Forest
    moved_child p at = node p.label at (moved_under p at) none

    abbrev start : Spot → State
    start p = state f (record old_frame { nth = 0; token = p.frame.token })

    abbrev new_start : Frame → State
    new_start gr = state g (record new_frame { nth = 0; token = gr.token })

    known_at : (at hi x : ℕ) (toks : Facts) (fr : Frame) → x + 1 ≤ hi → at ≤ hi → IsOwnState (from_on at) (state toks fr)
        → IsOwnState (from_on hi) (state toks (record fr { nth = 0; token = x }))
    known_at at hi x toks fr less far k =
        let up : IsOwnState (from_on hi) (state toks fr) = own_less (from_on at) (from_on hi) (λ j e. further_on at hi j far e) (state toks fr) k in
        record {
          declared = up.declared;
          frame = record { base = up.frame.base; given = up.frame.given; found = up.frame.found; token = below_on hi x (omega (arith, less)); owner = up.frame.owner };
        }

    pub item_goes : (p : Spot) (at : ℕ) (gr : Frame) → IsItem p → there + 1 ≤ at → gr.token + 1 ≤ at
        → AreMovedTo m at (permuted order lists (is_among lists p.label p.under) p.under)
        → StatesGo m old new false false (end_of p) (at + token_count p.under) (walked old (child p) (start p)) (walked new (moved_child p at) (new_start gr))
    item_goes p at gr c far low w =
        let s : State = start p in
        let t : State = new_start gr in
        let alone : read_alone old f p.frame p.label p.first p.under ≡ (walked old (child p) s).facts =
        alone_at old p.label p.first p.under f p.frame old_frame (item_production p.label p.first p.under c.item) c.frame in
        let known : IsKnown p.at at s t = record {
          low = known_at (lo + 1) p.at p.frame.token f old_frame c.token c.low before.known.low;
          over = known_at (there + 1) at gr.token g new_frame low far before.known.over;
          members = before.known.members;
          others = before.known.others;
        } in
        let end : IsFineEnd barred (walked old (child p) s) = record {
          clean = ap (λ (x : Facts). x.fault) (sym alone) ∙ c.clean;
          fresh = subst (λ (x : Facts). AreFresh barred x.occurrences) alone c.fresh;
        } in
        let go : StatesGo m old new false keeps p.at at s t = record {
          facts = further m old new law lo there p.at at f g (omega (arith, c.low)) (omega (arith, far)) before.facts;
          frame = record {
            same = ap (λ (x : Frame). record x { nth = 0; token = gr.token }) before.same;
            token = λ e. absurd (false≢true e);
            kept = before.kept;
            ends = λ k a. before.ends k (further_ahead m old new law lo there p.at at k (omega (arith, c.low)) (omega (arith, far)) a);
            outer = before.outer;
          };
        } in
        at_places m old new law false false (p.at + (token_count p.under + 0)) (at + (token_count p.under + 0)) (end_of p) (at + token_count p.under)
        (walked old (child p) s) (walked new (moved_child p at) t) (omega arith) (omega arith)
        (walk m old new law order lists barred is lowest (child p) false keeps true p.at at s t (c.first, c.from, tt) (w, tt) c.forms c.fit c.all c.fine c.go known end go)

    -- ---- What a pair gives

    -- an item in the old order, and what it adds in the new one
    pub record PairGoes (hi beyond : ℕ) (there_behind : Facts) (p : Spot) (b : Gain) : Type 0 where
      pub asked : (q : Question) → IsAsked m hi beyond q → AreMoved m (filter (answers old q) p.gain.declared) (filter (answers new (moved_question m q)) b.declared)
      pub told : (i : ℕ) → AreToldAlike (find (λ d. d.name_at == i) (p.gain.declared ++ f.declared)) (find (λ d. d.name_at == m i) (b.declared ++ g.declared))
      pub noted : (i : ℕ) → filter (λ (o : Occurrence). o.index == m i) b.occurrences
          ≡ map (moved_occurrence m) (filter (λ (o : Occurrence). o.index == i) p.gain.occurrences)
      pub begun : (i : ℕ) → is_between p.at (end_of p) i ≡ true → is_in there_behind.begun (m i) ≡ is_in behind.begun i
      pub complete : (i : ℕ) → is_between p.at (end_of p) i ≡ true → is_in there_behind.complete (m i) ≡ is_in behind.complete i
      pub named : All (λ d. is_member d.space ≡ false → (i : ℕ) → d.name_at ≡ m i → (p.at ≤ i) × (i < end_of p)) b.declared
      pub names : All (IsNamedIn p.at (end_of p)) p.gain.declared
      pub near : All (λ d. (d.name_at < lo + 1) ⊎ (((p.at ≤ d.name_at) × (d.name_at ≤ end_of p)) ⊎ (d.name_at ≡ p.frame.token))) p.gain.declared
      pub members : All IsToldMember p.gain.declared
      pub others : All IsToldMember b.declared

    module _ (p : Spot) (at : ℕ) (gr : Frame) (c : IsItem p) (far : there + 1 ≤ at) (low : gr.token + 1 ≤ at) (same : gr ≡ record new_frame { nth = gr.nth; token = gr.token })
        (w : AreMovedTo m at (permuted order lists (is_among lists p.label p.under) p.under)) where
      abbrev here : Facts
      here = (walked old (child p) (start p)).facts

      abbrev over : Facts
      over = (walked new (moved_child p at) (new_start gr)).facts

      together : GoTogether m old new (end_of p) (at + token_count p.under) here over
      together = (item_goes p at gr c far low w).facts

      old_alone : read_alone old f p.frame p.label p.first p.under ≡ here
      old_alone = alone_at old p.label p.first p.under f p.frame old_frame (item_production p.label p.first p.under c.item) c.frame

      new_alone : read_alone new g gr p.label at (moved_under p at) ≡ over
      new_alone = alone_at new p.label at (moved_under p at) g gr new_frame (item_production p.label p.first p.under c.item) same

      spans : AreSpans m p.at at (token_count p.under)
      spans = spans_permuted m old new law order lists is (is_among lists p.label p.under) p.under p.at at c.all c.from w

      -- what is read alone in the new order has no fault, and declares nothing that is barred at its new place
      pub new_clean : (read_alone new g gr p.label at (moved_under p at)).fault ≡ None
      new_clean =
          ap (λ (x : Facts). x.fault) new_alone
          ∙ no_some here.fault over.fault together.fault (ap (λ (x : Facts). x.fault) (sym old_alone) ∙ c.clean)

      pub new_fresh : (xs : List ℕ) → ((i : ℕ) → is_in xs i ≡ true → barred i ≡ true)
          → AreFresh (is_in (map m xs)) (read_alone new g gr p.label at (moved_under p at)).occurrences
      new_fresh xs bars =
          subst (λ (x : Facts). AreFresh (is_in (map m xs)) x.occurrences) (sym new_alone)
          (fresh_moved m barred here.occurrences over.occurrences together.noted
          (subst (λ (x : Facts). AreFresh barred x.occurrences) old_alone c.fresh) xs bars)

      module _ (hi beyond : ℕ) (behind' : Facts) (b : Gain) (ends : end_of p + 1 ≤ hi) (ends' : at + token_count p.under + 1 ≤ beyond)
          (gains : ItemGains new g behind' gr at (at + token_count (moved_under p at)) (node_of p.label at (moved_under p at)) b) where
        abbrev a : Gain
        a = p.gain

        old_declared : here.declared ≡ a.declared ++ f.declared
        old_declared = ap (λ (x : Facts). x.declared) (sym old_alone) ∙ c.gains.declared

        new_declared : over.declared ≡ b.declared ++ g.declared
        new_declared = ap (λ (x : Facts). x.declared) (sym new_alone) ∙ gains.declared

        old_noted : here.occurrences ≡ a.occurrences ++ f.occurrences
        old_noted = ap (λ (x : Facts). x.occurrences) (sym old_alone) ∙ c.gains.noted

        new_noted : over.occurrences ≡ b.occurrences ++ g.occurrences
        new_noted = ap (λ (x : Facts). x.occurrences) (sym new_alone) ∙ gains.noted

        count : token_count (moved_under p at) ≡ token_count p.under
        count = count-numbered at (permuted order lists (is_among lists p.label p.under) p.under) ∙ count_permuted order lists is (is_among lists p.label p.under) p.under c.all

        pair_asked : (q : Question) → IsAsked m hi beyond q → AreMoved m (filter (answers old q) a.declared) (filter (answers new (moved_question m q)) b.declared)
        pair_asked q asks =
            let T : Declaration → Bool = answers old q in
            let T' : Declaration → Bool = answers new (moved_question m q) in
            let whole : AreMoved m (filter T here.declared) (filter T' over.declared) =
            together.asked q (further_asked m old new law (end_of p) (at + token_count p.under) hi beyond q ends ends' asks) in
            let split : AreMoved m (filter T a.declared ++ filter T f.declared) (filter T' b.declared ++ filter T' g.declared) =
            subst (λ (xs : List Declaration). AreMoved m xs (filter T' b.declared ++ filter T' g.declared)) (ap (λ (xs : List Declaration). filter T xs) old_declared ∙ filter-append T a.declared f.declared)
            (subst (λ (ys : List Declaration). AreMoved m (filter T here.declared) ys) (ap (λ (ys : List Declaration). filter T' ys) new_declared ∙ filter-append T' b.declared g.declared) whole) in
            moved_front m (filter T a.declared) (filter T' b.declared) (filter T f.declared) (filter T' g.declared) split
            (before.facts.asked q (further_asked m old new law lo there hi beyond q (omega (arith, c.low, ends)) (omega (arith, far, ends')) asks))

        pair_noted : (i : ℕ) → filter (λ (o : Occurrence). o.index == m i) b.occurrences ≡ map (moved_occurrence m) (filter (λ (o : Occurrence). o.index == i) a.occurrences)
        pair_noted i =
            let T : Occurrence → Bool = λ (o : Occurrence). o.index == i in
            let T' : Occurrence → Bool = λ (o : Occurrence). o.index == m i in
            let h : Occurrence → Occurrence = moved_occurrence m in
            front_same (filter T' b.occurrences) (map h (filter T a.occurrences)) (filter T' g.occurrences)
            (sym (filter-append T' b.occurrences g.occurrences)
            ∙ (ap (λ (os : List Occurrence). filter T' os) (sym new_noted)
            ∙ (together.noted i
            ∙ (ap (λ (os : List Occurrence). map h (filter T os)) old_noted
            ∙ (ap (λ (os : List Occurrence). map h os) (filter-append T a.occurrences f.occurrences)
            ∙ (map-append h (filter T a.occurrences) (filter T f.occurrences)
            ∙ ap (λ (os : List Occurrence). map h (filter T a.occurrences) ++ os) (sym (before.facts.noted i))))))))

        over_between : (i : ℕ) → is_between p.at (end_of p) i ≡ true → is_between at (at + token_count (moved_under p at)) (m i) ≡ true
        over_between i e =
            let k = between_parts p.at (end_of p) i e in
            let r = spans.over i k.0 k.1 in
            and_from (not (nat_lt (m i) at)) (nat_lt (m i) (at + token_count (moved_under p at))) (ap not (le-ltb (m i) at r.0))
            (lt-ltb (m i) (at + token_count (moved_under p at)) (omega (arith, r.1, count)))

        pub pair_goes : PairGoes hi beyond behind' p b
        pair_goes = record {
          asked = pair_asked;
          told = λ i.
              subst (λ (xs : List Declaration). AreToldAlike (find (λ d. d.name_at == i) xs) (find (λ d. d.name_at == m i) (b.declared ++ g.declared))) old_declared
              (subst (λ (ys : List Declaration). AreToldAlike (find (λ d. d.name_at == i) here.declared) (find (λ d. d.name_at == m i) ys)) new_declared (together.told i));
          noted = pair_noted;
          begun = λ i e.
              gains.begun_behind (m i) (over_between i e)
              ∙ (ap (λ (x : Facts). is_in x.begun (m i)) new_alone
              ∙ (together.begun i ∙ (ap (λ (x : Facts). is_in x.begun i) (sym old_alone) ∙ sym (c.gains.begun_behind i e))));
          complete = λ i e.
              gains.complete_behind (m i) (over_between i e)
              ∙ (ap (λ (x : Facts). is_in x.complete (m i)) new_alone
              ∙ (together.complete i ∙ (ap (λ (x : Facts). is_in x.complete i) (sym old_alone) ∙ sym (c.gains.complete_behind i e))));
          named =
              All-weaker (IsNamedIn at (at + token_count (moved_under p at))) (λ d. is_member d.space ≡ false → (i : ℕ) → d.name_at ≡ m i → (p.at ≤ i) × (i < end_of p))
              (λ d k other i e.
              let r = (k other).0 in
              spans.back i (omega (arith, r.0, e)) (omega (arith, r.1, e, count)))
              b.declared gains.names;
          names = c.gains.names;
          near =
              all_front (λ d. (d.name_at < lo + 1) ⊎ (((p.at ≤ d.name_at) × (d.name_at ≤ end_of p)) ⊎ (d.name_at ≡ p.frame.token))) a.declared f.declared
              (subst (λ (ds : List Declaration). All (λ d. (d.name_at < lo + 1) ⊎ (((p.at ≤ d.name_at) × (d.name_at ≤ end_of p)) ⊎ (d.name_at ≡ p.frame.token))) ds)
              (ap (λ (x : ℕ). (read_alone old f p.frame p.label x p.under).declared) (sym c.first) ∙ c.gains.declared)
              (names_near old (lo + 1) p.at (end_of p) f p.frame p.label p.under (omega arith) c.from refl before.known.low.declared
              (subst (λ (x : Frame). IsOwnFrame (from_on (lo + 1)) (record x { token = 0 })) (sym c.frame)
              (record {
                base = before.known.low.frame.base;
                given = before.known.low.frame.given;
                found = before.known.low.frame.found;
                token = refl;
                owner = before.known.low.frame.owner;
              }))));
          members =
              all_front IsToldMember a.declared f.declared
              (subst (λ (ds : List Declaration). All IsToldMember ds) old_declared (told_walked old (child p) (start p) before.known.members));
          others =
              all_front IsToldMember b.declared g.declared
              (subst (λ (ds : List Declaration). All IsToldMember ds) new_declared (told_walked new (moved_child p at) (new_start gr) before.known.others));
        }
