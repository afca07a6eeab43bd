-- The walk along a cut: what a text brings in a new order is what it brought, in that order, but for labels.
use Rattle.std.proofs.Common.{◌≡◌, ℕ, zero, suc, ◌+◌, ◌<◌, ◌≤◌, Bool, true, List, [], ◌∷◌, ◌++◌, length, take, drop, refl, sym, ap, subst, ◌∙◌, arith, append_assoc, length-append, length-drop, length-take-le, take-append-drop, take-add}
use Rattle.std.proofs.lemmas.List.{drop-drop, take-append-le, drop-append-le}
use Rattle.list_cuts.specs.Cuts.{Cut, done, keep, list, Items, ended, item, count_of, span_of, extent_of, IsOrder, picked, woven, gaps_of, arranged, items_of, AreOf, AreItemsOf}
use Rattle.list_cuts.proofs.OrderLemmas.{length-picked}
use Rattle.list_cuts.proofs.CutLemmas.{length-order, items_of-append, gaps_of-append, short-drop, length-gaps_of as many_gaps, length-items_of as many_items}
use Rattle.arranged_text_laws.specs.Labels.{head_with, starts, masked, masked_items, IsListed, IsLed, Firsts, FirstsOfItems}
use Rattle.arranged_text_laws.proofs.OrderLemmas.{labelled, order_within, labels_of_items}
use Rattle.arranged_text_laws.proofs.Flows.{Flow, Goes, Loose, HasEnd, GapFlows, Flows, ItemsFlow}
use Rattle.arranged_text_laws.proofs.FlowLemmas.{starts-append, take_front, drop_front, drop_both, take_gap, ItemGoes, AllGo, all_picked, GapsGo, weave}

-- ---- counts

-- ---- the first element

length-head : {Y : Type 0} (g : Y → Y) (ys : List Y) → length (head_with g ys) ≡ length ys
length-head g [] = refl
length-head g (y ∷ ys) = refl

arranged_head : {Y : Type 0} (order : List ℕ) (c : Cut) (g : Y → Y) (ys : List Y) → IsLed c → 0 < length ys
    → arranged order c (head_with g ys) ≡ head_with g (arranged order c ys)
unfolding arranged
arranged_head order c g [] led some = absurd (omega (arith, some))
arranged_head order done g (y ∷ ys) led some = refl
arranged_head order (keep zero c) g (y ∷ ys) led some = absurd (omega (arith, led))
arranged_head order (keep (suc k) c) g (y ∷ ys) led some = refl
arranged_head order (list is c) g (y ∷ ys) led some = absurd led

masked_head : {Y : Type 0} (h : Y → Y) (c : Cut) (g : Y → Y) (ys : List Y) → IsLed c → 0 < length ys
    → masked h c (head_with g ys) ≡ head_with g (masked h c ys)
unfolding masked
masked_head h c g [] led some = absurd (omega (arith, some))
masked_head h done g (y ∷ ys) led some = refl
masked_head h (keep zero c) g (y ∷ ys) led some = absurd (omega (arith, led))
masked_head h (keep (suc k) c) g (y ∷ ys) led some = refl
masked_head h (list is c) g (y ∷ ys) led some = absurd led

head_twice : {Y : Type 0} (h g : Y → Y) (ys : List Y) → ((y : Y) → h (g y) ≡ h y) → head_with h (head_with g ys) ≡ head_with h ys
head_twice h g [] same = refl
head_twice h g (y ∷ ys) same = ap (λ z. z ∷ ys) (same y)

head-append : {Y : Type 0} (g : Y → Y) (ys zs : List Y) → 0 < length ys → head_with g (ys ++ zs) ≡ head_with g ys ++ zs
head-append g [] zs some = absurd (omega (arith, some))
head-append g (y ∷ ys) zs some = refl

nonempty_arranged : {Y : Type 0} (order : List ℕ) (c : Cut) (ys : List Y) → IsLed c → 0 < length ys → 0 < length (arranged order c ys)
unfolding arranged
nonempty_arranged order c [] led some = absurd (omega (arith, some))
nonempty_arranged order done (y ∷ ys) led some = omega arith
nonempty_arranged order (keep zero c) (y ∷ ys) led some = absurd (omega (arith, led))
nonempty_arranged order (keep (suc k) c) (y ∷ ys) led some = omega arith
nonempty_arranged order (list is c) (y ∷ ys) led some = absurd led

pub starts_some : {X : Type 0} (p : X → Bool) (xs : List X) → starts p xs ≡ true → 0 < length xs
starts_some p [] h = absurd cc
starts_some p (x ∷ xs) h = omega arith

starts_take : {X : Type 0} (p : X → Bool) (n : ℕ) (xs : List X) → starts p (take n xs) ≡ true → starts p xs ≡ true
starts_take p n xs h = ap (starts p) (sym (take-append-drop n xs)) ∙ starts-append p (take n xs) (drop n xs) h

-- ---- items in turn

-- the items as they stand
abbrev plain : {X : Type 0} → Items → List X → List (List X)
plain ended xs = []
plain (item n c gap more) xs = take n xs ∷ plain more (drop (n + gap) xs)

plain_woven : {X : Type 0} (is : Items) (xs : List X) → woven (plain is xs) (gaps_of is xs) ≡ take (span_of is) xs
unfolding woven gaps_of span_of
plain_woven ended xs = refl
plain_woven (item n c gap more) xs =
    ap (λ (l : List _). take n xs ++ (take gap (drop n xs) ++ l)) (plain_woven more (drop (n + gap) xs))
    ∙ ap (λ (l : List _). take n xs ++ (take gap (drop n xs) ++ take (span_of more) l)) (sym (drop-drop gap n xs))
    ∙ ap (λ (l : List _). take n xs ++ l) (sym (take-add gap (span_of more) (drop n xs)))
    ∙ sym (take-add n (gap + span_of more) xs)

many_plain : {X : Type 0} (is : Items) (xs : List X) → length (plain is xs) ≡ count_of is
unfolding count_of
many_plain ended xs = refl
many_plain (item n c gap more) xs = let rest = many_plain more (drop (n + gap) xs) in omega arith

items_step : {Y : Type 0} (order : List ℕ) (n : ℕ) (c : Cut) (gap : ℕ) (more : Items) (ys ds zs : List Y) → length ys ≡ n → length ds ≡ gap
    → items_of order (item n c gap more) (ys ++ (ds ++ zs)) ≡ arranged order c ys ∷ items_of order more zs
unfolding items_of
items_step order n c gap more ys ds zs long wide = rw (take_front n ys (ds ++ zs) long, drop_both n gap ys ds zs long wide) refl

gaps_step : {Y : Type 0} (n : ℕ) (c : Cut) (gap : ℕ) (more : Items) (ys ds zs : List Y) → length ys ≡ n → length ds ≡ gap
    → gaps_of (item n c gap more) (ys ++ (ds ++ zs)) ≡ ds ∷ gaps_of more zs
unfolding gaps_of
gaps_step n c gap more ys ds zs long wide = rw (take_gap n gap ys ds zs long wide, drop_both n gap ys ds zs long wide) refl

masked_step : {Y : Type 0} (h : Y → Y) (n : ℕ) (c : Cut) (gap : ℕ) (more : Items) (ys ds zs : List Y) → length ys ≡ n → length ds ≡ gap
    → masked_items h (item n c gap more) (ys ++ (ds ++ zs)) ≡ head_with h (masked h c ys) ++ (ds ++ masked_items h more zs)
unfolding masked_items
masked_step h n c gap more ys ds zs long wide =
    rw (take_front n ys (ds ++ zs) long, take_gap n gap ys ds zs long wide, drop_both n gap ys ds zs long wide) refl

pub masked_items-append : {Y : Type 0} (h : Y → Y) (is : Items) (xs ys : List Y) → span_of is ≤ length xs → masked_items h is (xs ++ ys) ≡ masked_items h is xs
unfolding masked_items span_of
masked_items-append h ended xs ys le = refl
masked_items-append h (item n c gap more) xs ys le =
    let one : n ≤ length xs = omega (arith, le) in
    let two : n + gap ≤ length xs = omega (arith, le) in
    let gap_within : gap ≤ length (drop n xs) = short-drop n gap xs two in
    let rest_within : span_of more ≤ length (drop (n + gap) xs) = short-drop (n + gap) (span_of more) xs (omega (arith, le)) in
    rw (
      take-append-le n xs ys one,
      drop-append-le n xs ys one,
      drop-append-le (n + gap) xs ys two,
      take-append-le gap (drop n xs) ys gap_within,
      masked_items-append h more (drop (n + gap) xs) ys rest_within,
    ) refl

-- ---- labels of the first

abbrev first_label : {Y S : Type 0} → (S → Y → Y) → List S → List Y → List Y
first_label label [] ys = ys
first_label label (s ∷ ss) ys = head_with (label s) ys

abbrev other_labels : {S : Type 0} → List S → List S
other_labels [] = []
other_labels (s ∷ ss) = ss

labelled_cons : {Y S : Type 0} (label : S → Y → Y) (us : List S) (ys : List Y) (yss : List (List Y))
    → labelled label us (ys ∷ yss) ≡ first_label label us ys ∷ labelled label (other_labels us) yss
labelled_cons label [] ys yss = refl
labelled_cons label (u ∷ us) ys yss = refl

length-first : {Y S : Type 0} (label : S → Y → Y) (us : List S) (ys : List Y) → length (first_label label us ys) ≡ length ys
length-first label [] ys = refl
length-first label (u ∷ us) ys = length-head (label u) ys

masked_first : {Y S : Type 0} (h : Y → Y) (label : S → Y → Y) (c : Cut) (us : List S) (ys : List Y) → ((s : S) (y : Y) → h (label s y) ≡ h y) → IsLed c → 0 < length ys
    → head_with h (masked h c (first_label label us ys)) ≡ head_with h (masked h c ys)
masked_first h label c [] ys same led some = refl
masked_first h label c (u ∷ us) ys same led some =
    ap (λ (l : List _). head_with h l) (masked_head h c (label u) ys led some) ∙ head_twice h (label u) (masked h c ys) (same u)

woven_cons : {Y S : Type 0} (label : S → Y → Y) (us : List S) (ys : List Y) (yss : List (List Y)) (ds : List Y) (dss : List (List Y))
    → woven (labelled label us (ys ∷ yss)) (ds ∷ dss) ≡ first_label label us ys ++ (ds ++ woven (labelled label (other_labels us) yss) dss)
unfolding woven
woven_cons label us ys yss ds dss = ap (λ (l : List (List _)). woven l (ds ∷ dss)) (labelled_cons label us ys yss)

-- ---- gaps

last_gap : {X Y S : Type 0} (f : Flow X Y S) (g : List X) (yss : List (List Y)) (ss : List S) → g ≡ [] → GapsGo f [] yss ss → GapsGo f (g ∷ []) ([] ∷ yss) (f.rest ∷ ss)
last_gap f g [] [] none all = (none, refl)
last_gap f g [] (s ∷ ss) none all = absurd all
last_gap f g (y ∷ yss) ss none all = absurd all

one_gap : {X Y S : Type 0} (f : Flow X Y S) (g : List X) (d : List Y) (s : S) (g2 : List X) (gs : List (List X)) (ds : List (List Y)) (ss : List S)
    → starts f.behind_item g ≡ true → Goes f f.begins_item f.rest g d s → GapsGo f (g2 ∷ gs) ds ss → GapsGo f (g ∷ g2 ∷ gs) (d ∷ ds) (s ∷ ss)
one_gap f g d s g2 [] [] ss begins goes all = absurd all
one_gap f g d s g2 [] (d2 ∷ []) [] begins goes all = absurd all
one_gap f g d s g2 [] (d2 ∷ []) (s2 ∷ []) begins goes all = (begins, goes, all)
one_gap f g d s g2 [] (d2 ∷ []) (s2 ∷ s3 ∷ ss) begins goes all = absurd all
one_gap f g d s g2 [] (d2 ∷ d3 ∷ ds) ss begins goes all = absurd all
one_gap f g d s g2 (g3 ∷ gs) [] ss begins goes all = absurd all
one_gap f g d s g2 (g3 ∷ gs) (d2 ∷ []) ss begins goes all = absurd all
one_gap f g d s g2 (g3 ∷ gs) (d2 ∷ d3 ∷ ds) [] begins goes all = absurd all
one_gap f g d s g2 (g3 ∷ gs) (d2 ∷ d3 ∷ ds) (s2 ∷ []) begins goes all = absurd all
one_gap f g d s g2 (g3 ∷ gs) (d2 ∷ d3 ∷ ds) (s2 ∷ s3 ∷ ss) begins goes all = (begins, goes, all)

-- What stands behind an item brings, and the state that it leaves.
record Gap {X Y S : Type 0} (f : Flow X Y S) (g : List X) (gs : List (List X)) (dss : List (List Y)) (ss : List S) (gap : ℕ) : Type 0 where
  brings : List Y
  state : S
  long : length brings ≡ gap
  all : GapsGo f (g ∷ gs) (brings ∷ dss) (state ∷ ss)

gap_of : {X Y S : Type 0} (f : Flow X Y S) (gap : ℕ) (more : Items) (xs later : List X) (dss : List (List Y)) (ss : List S) → gap ≤ length xs → GapFlows f gap more xs
    → GapsGo f (gaps_of more later) dss ss → Gap f (take gap xs) (gaps_of more later) dss ss gap
unfolding gaps_of
gap_of f gap ended xs later dss ss within flows all = record {
  brings = [];
  state = f.rest;
  long = sym flows;
  all = last_gap f (take gap xs) dss ss (ap (λ (n : ℕ). take n xs) flows) all;
}
gap_of f gap (item n c g2 more) xs later dss ss within flows all = record {
  brings = flows.1.0;
  state = flows.1.1;
  long = flows.1.2.long ∙ length-take-le gap xs within;
  all = one_gap f (take gap xs) flows.1.0 flows.1.1 (take g2 (drop n later)) (gaps_of more (drop (n + g2) later)) dss ss flows.0 flows.1.2 all;
}

-- ---- the walk

-- What a text brings, in its old order and in the new one.
pub record Flowed {X Y S : Type 0} (f : Flow X Y S) (h : Y → Y) (order : List ℕ) (st : S) (c : Cut) (xs : List X) (end : S) : Type 0 where
  pub new : List Y
  pub old : List Y
  pub new_long : length new ≡ length xs
  pub old_long : length old ≡ length xs
  pub alike : masked h c new ≡ masked h c old
  pub news : (more : List X) → starts f.behind_item more ≡ true → f.run st (arranged order c xs ++ more) ≡ arranged order c new ++ f.run end more
  pub olds : (more : List X) → starts f.behind_item more ≡ true → f.run st (xs ++ more) ≡ old ++ f.run end more
  pub begins : IsListed c → (more : List X) → (starts f.begins_item (arranged order c xs ++ more) ≡ true) × (starts f.begins_item (xs ++ more) ≡ true)
  pub loose : Loose f c xs → (from : S) (more : List X) → starts f.behind_item more ≡ true
      → (f.run from (arranged order c xs ++ more) ≡ head_with (f.label from) (f.run f.rest (arranged order c xs ++ more)))
      × (f.run from (xs ++ more) ≡ head_with (f.label from) (f.run f.rest (xs ++ more)))
  pub first_one : IsLed c → st ≡ f.rest → 0 < length xs → Loose f c xs → starts f.one old ≡ true
  pub firsts : Firsts f.one c old

-- The same of the items of a list.
record FlowedItems {X Y S : Type 0} (f : Flow X Y S) (h : Y → Y) (order : List ℕ) (is : Items) (xs : List X) : Type 0 where
  news : List (List Y)
  olds : List (List Y)
  gaps : List (List Y)
  states : List S
  many : length states ≡ count_of is
  new_go : AllGo f (items_of order is xs) (items_of order is (woven news gaps))
  old_go : AllGo f (plain is xs) olds
  gap_go : GapsGo f (gaps_of is xs) gaps states
  labels : (us : List S) → items_of order is (woven (labelled f.label us news) gaps) ≡ labelled f.label us (items_of order is (woven news gaps))
  between : (us : List S) → gaps_of is (woven (labelled f.label us news) gaps) ≡ gaps
  new_long : (us : List S) → length (woven (labelled f.label us news) gaps) ≡ span_of is
  old_long : (us : List S) → length (woven (labelled f.label us olds) gaps) ≡ span_of is
  firsts : (us : List S) → FirstsOfItems f.one is (woven (labelled f.label us olds) gaps)
  alike : (us vs : List S) → masked_items h is (woven (labelled f.label us news) gaps) ≡ masked_items h is (woven (labelled f.label vs olds) gaps)

arranged_starts : {X : Type 0} (p : X → Bool) (order : List ℕ) (c : Cut) (xs : List X) → IsLed c → starts p xs ≡ true → starts p (arranged order c xs) ≡ true
unfolding arranged
arranged_starts p order c [] led h = absurd cc
arranged_starts p order done (x ∷ xs) led h = h
arranged_starts p order (keep zero c) (x ∷ xs) led h = absurd (omega (arith, led))
arranged_starts p order (keep (suc k) c) (x ∷ xs) led h = h
arranged_starts p order (list is c) (x ∷ xs) led h = absurd led

-- an item, in the new order of its own lists, and as it stands
item_goes : {X Y S : Type 0} (f : Flow X Y S) (h : Y → Y) (order : List ℕ) (c : Cut) (xs : List X) → starts f.begins_item xs ≡ true → IsLed c → Loose f c xs
    → (F : Flowed f h order f.rest c xs f.rest) → ItemGoes f (arranged order c xs) (arranged order c F.new) × ItemGoes f xs F.old
item_goes f h order c xs first led loose F =
    let some = starts_some f.begins_item xs first in
    let new_some : 0 < length F.new = rw F.new_long some in
    let old_some : 0 < length F.old = rw F.old_long some in
    let many = nonempty_arranged order c F.new led new_some in (
      record {
        first = arranged_starts f.begins_item order c xs led first;
        goes = λ st more ends. (F.loose loose st more ends).0 ∙ ap (head_with (f.label st)) (F.news more ends)
            ∙ head-append (f.label st) (arranged order c F.new) (f.run f.rest more) many;
      },
      record {
        first = first;
        goes = λ st more ends. (F.loose loose st more ends).1 ∙ ap (head_with (f.label st)) (F.olds more ends)
            ∙ head-append (f.label st) F.old (f.run f.rest more) old_some;
      },
    )

-- what comes first in items
first_still : {X Y S : Type 0} (f : Flow X Y S) (us : List S) (ys : List Y) → ((s : S) (y : Y) → f.one (f.label s y) ≡ f.one y) → starts f.one ys ≡ true
    → starts f.one (first_label f.label us ys) ≡ true
first_still f [] ys kept_one h = h
first_still f (u ∷ us) [] kept_one h = h
first_still f (u ∷ us) (y ∷ ys) kept_one h = kept_one u y ∙ h

firsts_first : {X Y S : Type 0} (f : Flow X Y S) (c : Cut) (us : List S) (ys : List Y) → IsLed c → Firsts f.one c ys → Firsts f.one c (first_label f.label us ys)
firsts_first f c [] ys led h = h
firsts_first f c (u ∷ us) [] led h = h
firsts_first f done (u ∷ us) (y ∷ ys) led h = tt
firsts_first f (keep zero c) (u ∷ us) (y ∷ ys) led h = absurd (omega (arith, led))
firsts_first f (keep (suc k) c) (u ∷ us) (y ∷ ys) led h = h
firsts_first f (list is c) (u ∷ us) (y ∷ ys) led h = absurd led

firsts_step : {Y : Type 0} (p : Y → Bool) (n : ℕ) (c : Cut) (gap : ℕ) (more : Items) (ys ds zs : List Y) → length ys ≡ n → length ds ≡ gap → IsLed c
    → starts p ys ≡ true → Firsts p c ys → FirstsOfItems p more zs → FirstsOfItems p (item n c gap more) (ys ++ (ds ++ zs))
firsts_step p n c gap more ys ds zs long wide led one own others =
    rw (take_front n ys (ds ++ zs) long, drop_both n gap ys ds zs long wide) (one, led, own, others)

pub firsts-append : {Y : Type 0} (p : Y → Bool) (is : Items) (xs ys : List Y) → span_of is ≤ length xs → FirstsOfItems p is xs → FirstsOfItems p is (xs ++ ys)
unfolding span_of
firsts-append p ended xs ys le h = tt
firsts-append p (item n c gap more) xs ys le h =
    let one : n ≤ length xs = omega (arith, le) in
    let two : n + gap ≤ length xs = omega (arith, le) in
    let rest_within : span_of more ≤ length (drop (n + gap) xs) = short-drop (n + gap) (span_of more) xs (omega (arith, le)) in
    rw (take-append-le n xs ys one, drop-append-le (n + gap) xs ys two)
    (h.0, h.1, h.2, firsts-append p more (drop (n + gap) xs) ys rest_within h.3)

starts_front : {Y : Type 0} (p : Y → Bool) (ys zs : List Y) → 0 < length ys → starts p (ys ++ zs) ≡ true → starts p ys ≡ true
starts_front p [] zs some h = absurd (omega (arith, some))
starts_front p (y ∷ ys) zs some h = h

first_arranged : {Y S : Type 0} (order : List ℕ) (c : Cut) (label : S → Y → Y) (us : List S) (ys : List Y) → IsLed c → 0 < length ys
    → arranged order c (first_label label us ys) ≡ first_label label us (arranged order c ys)
first_arranged order c label [] ys led some = refl
first_arranged order c label (u ∷ us) ys led some = arranged_head order c (label u) ys led some

length_of : {Y S : Type 0} (label : S → Y → Y) (n gap span : ℕ) (us : List S) (ys ds : List Y) (yss dss : List (List Y)) → length ys ≡ n → length ds ≡ gap
    → length (woven (labelled label (other_labels us) yss) dss) ≡ span → length (woven (labelled label us (ys ∷ yss)) (ds ∷ dss)) ≡ n + (gap + span)
length_of label n gap span us ys ds yss dss long wide rest =
    ap length (woven_cons label us ys yss ds dss)
    ∙ length-append (first_label label us ys) (ds ++ woven (labelled label (other_labels us) yss) dss)
    ∙ ap (λ (k : ℕ). length (first_label label us ys) + k) (length-append ds (woven (labelled label (other_labels us) yss) dss))
    ∙ (let here = length-first label us ys in omega (arith, here, long, wide, rest))

-- one more item before others
more_items : {X Y S : Type 0} (f : Flow X Y S) (h : Y → Y) (order : List ℕ) (n : ℕ) (c : Cut) (gap : ℕ) (more : Items) (xs : List X)
    → ((s : S) (y : Y) → h (f.label s y) ≡ h y) → ((s : S) (y : Y) → f.one (f.label s y) ≡ f.one y) → n + gap ≤ length xs → starts f.begins_item (take n xs) ≡ true → IsLed c → Loose f c (take n xs)
    → GapFlows f gap more (drop n xs) → Flowed f h order f.rest c (take n xs) f.rest → FlowedItems f h order more (drop (n + gap) xs)
    → FlowedItems f h order (item n c gap more) xs
unfolding items_of gaps_of count_of span_of
more_items {X} {Y} {S} f h order n c gap more xs same kept_one within first led loose flows F R =
    let long : length (take n xs) ≡ n = length-take-le n xs (omega (arith, within)) in
    let wide : gap ≤ length (drop n xs) = short-drop n gap xs within in
    let G = gap_of f gap more (drop n xs) (drop (n + gap) xs) R.gaps R.states wide flows R.gap_go in
    let go = item_goes f h order c (take n xs) first led loose F in
    let new_long : length F.new ≡ n = F.new_long ∙ long in
    let old_long : length F.old ≡ n = F.old_long ∙ long in
    let xs_some : 0 < length (take n xs) = starts_some f.begins_item (take n xs) first in
    let some : 0 < n = rw (← long) xs_some in
    let new_some : 0 < length F.new = rw new_long some in
    let old_some : 0 < length F.old = rw old_long some in
    let labelled_long = λ (us : List S) (ys : List Y) (is : length ys ≡ n). length-first f.label us ys ∙ is in
    let text = λ (us : List S) (ys : List Y) (yss : List (List Y)). woven_cons f.label us ys yss G.brings R.gaps in
    record {
      news = F.new ∷ R.news;
      olds = F.old ∷ R.olds;
      gaps = G.brings ∷ R.gaps;
      states = G.state ∷ R.states;
      many = let rest = R.many in omega arith;
      new_go = subst (λ (l : List (List Y)). AllGo f (items_of order (item n c gap more) xs) l) (sym (ap (items_of order (item n c gap more)) (text [] F.new R.news)
          ∙ items_step order n c gap more F.new G.brings (woven R.news R.gaps) new_long G.long)) (go.0, R.new_go);
      old_go = (go.1, R.old_go);
      gap_go = G.all;
      labels = λ us.
          ap (items_of order (item n c gap more)) (text us F.new R.news)
          ∙ items_step order n c gap more (first_label f.label us F.new) G.brings (woven (labelled f.label (other_labels us) R.news) R.gaps) (labelled_long us F.new new_long) G.long
          ∙ ap (λ (l : List (List Y)). arranged order c (first_label f.label us F.new) ∷ l) (R.labels (other_labels us))
          ∙ ap (λ (l : List Y). l ∷ labelled f.label (other_labels us) (items_of order more (woven R.news R.gaps))) (first_arranged order c f.label us F.new led new_some)
          ∙ sym (ap (labelled f.label us) (ap (items_of order (item n c gap more)) (text [] F.new R.news) ∙ items_step order n c gap more F.new G.brings (woven R.news R.gaps) new_long G.long)
          ∙ labelled_cons f.label us (arranged order c F.new) (items_of order more (woven R.news R.gaps)));
      between = λ us.
          ap (gaps_of (item n c gap more)) (text us F.new R.news)
          ∙ gaps_step n c gap more (first_label f.label us F.new) G.brings (woven (labelled f.label (other_labels us) R.news) R.gaps) (labelled_long us F.new new_long) G.long
          ∙ ap (λ (l : List (List Y)). G.brings ∷ l) (R.between (other_labels us));
      new_long = λ us. length_of f.label n gap (span_of more) us F.new G.brings R.news R.gaps new_long G.long (R.new_long (other_labels us));
      old_long = λ us. length_of f.label n gap (span_of more) us F.old G.brings R.olds R.gaps old_long G.long (R.old_long (other_labels us));
      firsts = λ us. subst (λ (l : List Y). FirstsOfItems f.one (item n c gap more) l) (sym (text us F.old R.olds))
          (firsts_step f.one n c gap more (first_label f.label us F.old) G.brings (woven (labelled f.label (other_labels us) R.olds) R.gaps)
          (labelled_long us F.old old_long) G.long led (first_still f us F.old kept_one (F.first_one led refl xs_some loose)) (firsts_first f c us F.old led F.firsts) (R.firsts (other_labels us)));
      alike = λ us vs.
          ap (masked_items h (item n c gap more)) (text us F.new R.news)
          ∙ masked_step h n c gap more (first_label f.label us F.new) G.brings (woven (labelled f.label (other_labels us) R.news) R.gaps) (labelled_long us F.new new_long) G.long
          ∙ ap (λ (l : List Y). l ++ (G.brings ++ masked_items h more (woven (labelled f.label (other_labels us) R.news) R.gaps)))
          (masked_first h f.label c us F.new same led new_some ∙ ap (head_with h) F.alike ∙ sym (masked_first h f.label c vs F.old same led old_some))
          ∙ ap (λ (l : List Y). head_with h (masked h c (first_label f.label vs F.old)) ++ (G.brings ++ l)) (R.alike (other_labels us) (other_labels vs))
          ∙ sym (ap (masked_items h (item n c gap more)) (text vs F.old R.olds)
          ∙ masked_step h n c gap more (first_label f.label vs F.old) G.brings (woven (labelled f.label (other_labels vs) R.olds) R.gaps) (labelled_long vs F.old old_long) G.long);
    }

-- items woven begin as an item does
woven_starts : {X Y S : Type 0} (f : Flow X Y S) (xss : List (List X)) (yss : List (List Y)) (gs : List (List X)) → AllGo f xss yss → length xss ≡ length gs
    → 0 < length xss → starts f.begins_item (woven xss gs) ≡ true
unfolding woven
woven_starts f [] yss gs all even some = absurd (omega (arith, some))
woven_starts f (xs ∷ xss) [] gs all even some = absurd all
woven_starts f (xs ∷ xss) (ys ∷ yss) [] all even some = absurd (omega (arith, even))
woven_starts f (xs ∷ xss) (ys ∷ yss) (g ∷ gs) all even some = starts-append f.begins_item xs (g ++ woven xss gs) all.0.first

-- what stands behind a list begins as it should
end_starts : {X Y S : Type 0} (f : Flow X Y S) (order : List ℕ) (c : Cut) (xs more : List X) → HasEnd f c xs → starts f.behind_item more ≡ true
    → (starts f.behind_item (arranged order c xs ++ more) ≡ true) × (starts f.behind_item (xs ++ more) ≡ true)
unfolding arranged
end_starts f order done [] more has ends = (ends, ends)
end_starts f order done (x ∷ xs) more has ends = (has, has)
end_starts f order (keep n c) xs more has ends = (
  starts-append f.behind_item (take n xs ++ arranged order c (drop n xs)) more (starts-append f.behind_item (take n xs) (arranged order c (drop n xs)) has),
  starts-append f.behind_item xs more (starts_take f.behind_item n xs has),
)
end_starts f order (list is c) xs more has ends = absurd has

cut_at : {Y : Type 0} (k : ℕ) (ys zs : List Y) → length ys ≡ k → (take k (ys ++ zs) ≡ ys) × (drop k (ys ++ zs) ≡ zs)
cut_at k ys zs e = (take_front k ys zs e, drop_front k ys zs e)

no_items : {X Y S : Type 0} (f : Flow X Y S) (h : Y → Y) (order : List ℕ) (xs : List X) → FlowedItems f h order ended xs
unfolding items_of gaps_of count_of span_of masked_items woven
no_items {X} {Y} {S} f h order xs = record {
  news = [];
  olds = [];
  gaps = [];
  states = [];
  many = refl;
  new_go = tt;
  old_go = tt;
  gap_go = tt;
  labels = λ us. none us;
  between = λ us. refl;
  new_long = λ us. nothing us;
  old_long = λ us. nothing us;
  firsts = λ us. tt;
  alike = λ us vs. refl;
}
  where
    none : (us : List S) → [] ≡ labelled f.label us []
    none [] = refl
    none (u ∷ us) = refl

    nothing : (us : List S) → length (woven (labelled f.label us []) []) ≡ 0
    nothing [] = refl
    nothing (u ∷ us) = refl

-- elements that stay before a list
kept : {X Y S : Type 0} (f : Flow X Y S) (h : Y → Y) (order : List ℕ) (st : S) (k : ℕ) (c : Cut) (xs : List X) (end : S) → IsListed c → (ys : List Y) (mid : S)
    → Goes f f.begins_item st (take k xs) ys mid → k ≤ length xs → Flowed f h order mid c (drop k xs) end → Flowed f h order st (keep k c) xs end
unfolding arranged masked
kept f h order st k c xs end is ys mid G within R =
    let long : length ys ≡ k = G.long ∙ length-take-le k xs within in
    let A = arranged order c (drop k xs) in
    let whole = take-append-drop k xs in
    let here = λ (zs : List _). cut_at k ys zs long in
    let sum : length (take k xs) + length (drop k xs) ≡ length xs = sym (length-append (take k xs) (drop k xs)) ∙ ap length whole in
    record {
      new = ys ++ R.new;
      old = ys ++ R.old;
      new_long = length-append ys R.new ∙ (let a = G.long in let b = R.new_long in omega (arith, a, b, sum));
      old_long = length-append ys R.old ∙ (let a = G.long in let b = R.old_long in omega (arith, a, b, sum));
      alike = rw ((here R.new).0, (here R.new).1, (here R.old).0, (here R.old).1, R.alike) refl;
      news = λ more ends.
          ap (f.run st) (append_assoc (take k xs) A more) ∙ G.goes (A ++ more) (R.begins is more).0 ∙ ap (λ (l : List _). ys ++ l) (R.news more ends)
          ∙ sym (append_assoc ys (arranged order c R.new) (f.run end more))
          ∙ ap (λ (l : List _). l ++ f.run end more)
          (sym (ap (λ (l : List _). l ++ arranged order c (drop k (ys ++ R.new))) (here R.new).0 ∙ ap (λ (l : List _). ys ++ arranged order c l) (here R.new).1));
      olds = λ more ends.
          ap (λ (l : List _). f.run st (l ++ more)) (sym whole) ∙ ap (f.run st) (append_assoc (take k xs) (drop k xs) more)
          ∙ G.goes (drop k xs ++ more) (R.begins is more).1 ∙ ap (λ (l : List _). ys ++ l) (R.olds more ends) ∙ sym (append_assoc ys R.old (f.run end more));
      begins = λ listed. absurd listed;
      first_one = λ led rest some l.
          let w = R.begins is [] in
          let some_ys : 0 < length ys = rw long led in
          starts-append f.one ys R.old (starts_front f.one ys (f.run mid (drop k xs ++ [])) some_ys
          (ap (starts f.one) (sym (G.goes (drop k xs ++ []) w.1)) ∙ ap (λ s. starts f.one (f.run s (take k xs ++ (drop k xs ++ [])))) rest ∙ l.1 (drop k xs ++ []) w.1));
      firsts = rw ((here R.old).1) R.firsts;
      loose = λ l from more ends. (
        ap (f.run from) (append_assoc (take k xs) A more) ∙ l.0 from (A ++ more) (R.begins is more).0
            ∙ ap (λ (t : List _). head_with (f.label from) (f.run f.rest t)) (sym (append_assoc (take k xs) A more)),
        ap (λ (t : List _). f.run from (t ++ more)) (sym whole) ∙ ap (f.run from) (append_assoc (take k xs) (drop k xs) more)
            ∙ l.0 from (drop k xs ++ more) (R.begins is more).1
            ∙ ap (λ (t : List _). head_with (f.label from) (f.run f.rest t)) (sym (append_assoc (take k xs) (drop k xs) more))
            ∙ ap (λ (t : List _). head_with (f.label from) (f.run f.rest (t ++ more))) whole,
      );
    }

-- a list, and what stands behind it
listed : {X Y S : Type 0} (f : Flow X Y S) (h : Y → Y) (m : ℕ) (order : List ℕ) → IsOrder m order → (st : S) (is : Items) (c : Cut) (xs : List X) (end : S)
    → count_of is ≡ m → 0 < count_of is → span_of is ≤ length xs → HasEnd f c (drop (span_of is) xs) → FlowedItems f h order is xs
    → Flowed f h order f.rest c (drop (span_of is) xs) end → Flowed f h order st (list is c) xs end
unfolding arranged masked
listed {X} {Y} {S} f h m order permutes st is c xs end count some within has I R =
    let n = span_of is in
    let X2 = drop n xs in
    let A = arranged order c X2 in
    let As = items_of order is xs in
    let Gs = gaps_of is xs in
    let Cs = items_of order is (woven I.news I.gaps) in
    let many : length As ≡ m = many_items order is xs ∙ count in
    let size : length order ≡ m = length-order m order permutes in
    let room : length order ≤ length (st ∷ I.states) = let a = I.many in omega (arith, a, size, count) in
    let L = labels_of_items f.label f.rest m order (st ∷ I.states) permutes room in
    let new_items = woven (labelled f.label L.own I.news) I.gaps in
    let old_items = woven (labelled f.label (st ∷ I.states) I.olds) I.gaps in
    let picked_go = all_picked f As Cs m order I.new_go many (order_within m order permutes) in
    let even : length (picked order As) ≡ length Gs = length-picked order As ∙ size ∙ sym count ∙ sym (many_gaps is xs) in
    let some_picked : 0 < length (picked order As) = let a = length-picked order As in omega (arith, a, size, count, some) in
    let plain_even : length (plain is xs) ≡ length Gs = many_plain is xs ∙ sym (many_gaps is xs) in
    let some_plain : 0 < length (plain is xs) = let a = many_plain is xs in omega (arith, a, some) in
    let whole : woven (plain is xs) Gs ++ X2 ≡ xs = ap (λ (l : List X). l ++ X2) (plain_woven is xs) ∙ take-append-drop n xs in
    let new_at = cut_at n new_items R.new (I.new_long L.own) in
    let new_within : n ≤ length new_items = let a = I.new_long L.own in omega (arith, a) in
    let old_within : n ≤ length old_items = let a = I.old_long (st ∷ I.states) in omega (arith, a) in
    let old_at = cut_at n old_items R.old (I.old_long (st ∷ I.states)) in
    let sum : n + length X2 ≡ length xs = let a = length-drop n xs in omega (arith, a, within) in
    let placed : labelled f.label (st ∷ I.states) (picked order Cs) ≡ picked order (items_of order is new_items) =
    L.same Cs (many_items order is (woven I.news I.gaps) ∙ count) ∙ ap (picked order) (sym (I.labels L.own)) in
    let made : woven (labelled f.label (st ∷ I.states) (picked order Cs)) I.gaps ≡ woven (picked order (items_of order is new_items)) (gaps_of is new_items) =
    ap (λ (l : List (List Y)). woven l I.gaps) placed ∙ ap (woven (picked order (items_of order is new_items))) (sym (I.between L.own)) in
    let out : arranged order (list is c) (new_items ++ R.new) ≡ woven (picked order (items_of order is new_items)) (gaps_of is new_items) ++ arranged order c R.new =
    rw (items_of-append order is new_items R.new new_within, gaps_of-append is new_items R.new new_within, new_at.1) refl in
    record {
      new = new_items ++ R.new;
      old = old_items ++ R.old;
      new_long = length-append new_items R.new ∙ (let a = I.new_long L.own in let b = R.new_long in omega (arith, a, b, sum));
      old_long = length-append old_items R.old ∙ (let a = I.old_long (st ∷ I.states) in let b = R.old_long in omega (arith, a, b, sum));
      alike = rw (masked_items-append h is new_items R.new new_within, masked_items-append h is old_items R.old old_within, new_at.1, old_at.1, I.alike L.own (st ∷ I.states), R.alike) refl;
      news = λ more ends.
          ap (f.run st) (append_assoc (woven (picked order As) Gs) A more)
          ∙ weave f st (picked order As) (picked order Cs) Gs I.gaps I.states picked_go I.gap_go even some_picked (A ++ more) (end_starts f order c X2 more has ends).0
          ∙ ap (λ (l : List Y). woven (labelled f.label (st ∷ I.states) (picked order Cs)) I.gaps ++ l) (R.news more ends)
          ∙ ap (λ (l : List Y). l ++ (arranged order c R.new ++ f.run end more)) made
          ∙ sym (append_assoc (woven (picked order (items_of order is new_items)) (gaps_of is new_items)) (arranged order c R.new) (f.run end more))
          ∙ ap (λ (l : List Y). l ++ f.run end more) (sym out);
      olds = λ more ends.
          ap (λ (l : List X). f.run st (l ++ more)) (sym whole) ∙ ap (f.run st) (append_assoc (woven (plain is xs) Gs) X2 more)
          ∙ weave f st (plain is xs) I.olds Gs I.gaps I.states I.old_go I.gap_go plain_even some_plain (X2 ++ more) (end_starts f order c X2 more has ends).1
          ∙ ap (λ (l : List Y). old_items ++ l) (R.olds more ends) ∙ sym (append_assoc old_items R.old (f.run end more));
      begins = λ listed more. (
        starts-append f.begins_item (woven (picked order As) Gs ++ A) more
            (starts-append f.begins_item (woven (picked order As) Gs) A (woven_starts f (picked order As) (picked order Cs) Gs picked_go even some_picked)),
        starts-append f.begins_item xs more
            (ap (starts f.begins_item) (sym whole)
            ∙ starts-append f.begins_item (woven (plain is xs) Gs) X2 (woven_starts f (plain is xs) I.olds Gs I.old_go plain_even some_plain)),
      );
      loose = λ l. absurd l;
      first_one = λ led rest some l. absurd l;
      firsts = (firsts-append f.one is old_items R.old old_within (I.firsts (st ∷ I.states)), rw old_at.1 R.firsts);
    }

mutual
  unfolding arranged masked extent_of items_of gaps_of span_of count_of

  pub flowed : {X Y S : Type 0} (f : Flow X Y S) (h : Y → Y) (m : ℕ) (order : List ℕ) → ((s : S) (y : Y) → h (f.label s y) ≡ h y)
      → ((s : S) (y : Y) → f.one (f.label s y) ≡ f.one y) → IsOrder m order
      → (st : S) (c : Cut) (xs : List X) (end : S) → AreOf m c → extent_of c ≤ length xs → Flows f st c xs end → Flowed f h order st c xs end
  flowed f h m order same kept_one is st done xs end all within F = record {
    new = F.0;
    old = F.0;
    new_long = F.1.long;
    old_long = F.1.long;
    alike = refl;
    news = F.1.goes;
    olds = F.1.goes;
    begins = λ listed. absurd listed;
    loose = λ l from more ends. (l.0 from more ends, l.0 from more ends);
    first_one = λ led rest some l.
        starts_front f.one F.0 (f.run end l.2.0) (rw F.1.long some)
        (ap (starts f.one) (sym (F.1.goes l.2.0 l.2.1)) ∙ ap (λ s. starts f.one (f.run s (xs ++ l.2.0))) rest ∙ l.1 l.2.0 l.2.1);
    firsts = tt;
  }
  flowed f h m order same kept_one is st (keep k c) xs end all within F =
      let R = flowed f h m order same kept_one is F.1.1 c (drop k xs) end all (short-drop k (extent_of c) xs within) F.1.3 in
      kept f h order st k c xs end F.0 F.1.0 F.1.1 F.1.2 (omega (arith, within)) R
  flowed f h m order same kept_one is st (list items c) xs end all within F =
      let R = flowed f h m order same kept_one is f.rest c (drop (span_of items) xs) end all.2 (short-drop (span_of items) (extent_of c) xs within) F.3 in
      let I = flowed_items f h m order same kept_one is items xs all.1 (omega (arith, within)) F.1 in
      listed f h m order is st items c xs end all.0 F.0 (omega (arith, within)) F.2 I R

  flowed_items : {X Y S : Type 0} (f : Flow X Y S) (h : Y → Y) (m : ℕ) (order : List ℕ) → ((s : S) (y : Y) → h (f.label s y) ≡ h y)
      → ((s : S) (y : Y) → f.one (f.label s y) ≡ f.one y) → IsOrder m order
      → (is : Items) (xs : List X) → AreItemsOf m is → span_of is ≤ length xs → ItemsFlow f is xs → FlowedItems f h order is xs
  flowed_items f h m order same kept_one is ended xs all within F = no_items f h order xs
  flowed_items f h m order same kept_one is (item n c gap more) xs all within F =
      let long : length (take n xs) ≡ n = length-take-le n xs (omega (arith, within)) in
      let O = flowed f h m order same kept_one is f.rest c (take n xs) f.rest all.0 (rw long F.3) F.4 in
      let R = flowed_items f h m order same kept_one is more (drop (n + gap) xs) all.1 (short-drop (n + gap) (span_of more) xs (omega (arith, within))) F.6 in
      more_items f h order n c gap more xs same kept_one (omega (arith, within)) F.0 F.1 F.2 F.5 O R
