-- What elements bring is arranged as they are.
use Rattle.std.proofs.Common.{◌≡◌, ℕ, zero, suc, ◌+◌, ◌-◌, Bool, true, ◌==◌, List, [], ◌∷◌, ◌++◌, length, take, drop, map, refl, sym, ap, ◌∙◌, arith, length-append, take-append-drop}
use Rattle.std.proofs.lemmas.Bool.{eqb-true}
use Rattle.std.proofs.lemmas.Grind.{flat_map-append}
use Rattle.std.proofs.lemmas.List.{drop-drop, take-map, drop-map}
use Rattle.std.proofs.Math.ListN as listn
use Rattle.list_cuts.specs.Cuts.{Cut, done, keep, list, Items, ended, item, span_of, item_at, picked, woven, gaps_of, arranged, items_of}
use Rattle.arranged_text_laws.specs.Labels.{head_with, masked, masked_items, starts, IsLed, Firsts, FirstsOfItems}
use Rattle.arranged_text_laws.specs.Weighed.{together, total, weighed, weighed_items}
use Rattle.arranged_text_laws.proofs.FlowLemmas.{take_front, drop_front}
use Rattle.arranged_text_laws.proofs.WeighedCut.{total_both}

abbrev widths : {X : Type 0} → List (List X) → List ℕ
widths xss = map length xss

pub together-append : {X : Type 0} (xss yss : List (List X)) → together (xss ++ yss) ≡ together xss ++ together yss
together-append xss yss = flat_map-append (λ xs. xs) xss yss

pub length-together : {X : Type 0} (xss : List (List X)) → length (together xss) ≡ total (widths xss)
length-together [] = refl
length-together (xs ∷ xss) = length-append xs (together xss) ∙ ap (λ (n : ℕ). length xs + n) (length-together xss)

-- the first elements bring the first of what is brought
pub cut_together : {X : Type 0} (n : ℕ) (xss : List (List X))
    → (take (total (take n (widths xss))) (together xss) ≡ together (take n xss)) × (drop (total (take n (widths xss))) (together xss) ≡ together (drop n xss))
cut_together n xss =
    let A = together (take n xss) in
    let B = together (drop n xss) in
    let whole : together xss ≡ A ++ B = ap together (sym (take-append-drop n xss)) ∙ together-append (take n xss) (drop n xss) in
    let long : length A ≡ total (take n (widths xss)) = length-together (take n xss) ∙ ap total (sym (take-map length n xss)) in (
      ap (take (total (take n (widths xss)))) whole ∙ take_front (total (take n (widths xss))) A B long,
      ap (drop (total (take n (widths xss)))) whole ∙ drop_front (total (take n (widths xss))) A B long,
    )

woven_together : {X : Type 0} (items gaps : List (List (List X))) → together (woven items gaps) ≡ woven (map together items) (map together gaps)
unfolding woven
woven_together [] gaps = refl
woven_together (i ∷ items) [] = refl
woven_together (i ∷ items) (g ∷ gaps) =
    together-append i (g ++ woven items gaps)
    ∙ ap (λ (l : List _). together i ++ l) (together-append g (woven items gaps) ∙ ap (λ (l : List _). together g ++ l) (woven_together items gaps))

picked_together : {X : Type 0} (order : List ℕ) (items : List (List (List X))) → map together (picked order items) ≡ picked order (map together items)
picked_together [] items = refl
picked_together (k ∷ order) items =
    ap (λ (y : List _). y ∷ map together (picked order items)) (sym (listn.get_or-map together items (k - 1) []))
    ∙ ap (λ (ys : List (List _)). item_at (map together items) k ∷ ys) (picked_together order items)

pub span_weighed : (is : Items) (ws : List ℕ) → span_of (weighed_items is ws) ≡ total (take (span_of is) ws)
unfolding weighed_items span_of
span_weighed ended ws = refl
span_weighed (item n c gap more) ws =
    let rest = span_weighed more (drop (n + gap) ws) in
    let all = total_both n (gap + span_of more) ws in
    let behind = total_both gap (span_of more) (drop n ws) in
    let same : total (take (span_of more) (drop gap (drop n ws))) ≡ total (take (span_of more) (drop (n + gap) ws)) =
    ap (λ (l : List ℕ). total (take (span_of more) l)) (drop-drop gap n ws) in
    omega (arith, rest, all, behind, same)

-- behind an item and its gap
past_together : {X : Type 0} (n gap : ℕ) (xss : List (List X))
    → drop (total (take n (widths xss)) + total (take gap (drop n (widths xss)))) (together xss) ≡ together (drop (n + gap) xss)
past_together n gap xss =
    ap (λ (k : ℕ). drop k (together xss)) (sym (total_both n gap (widths xss))) ∙ (cut_together (n + gap) xss).1

-- the gap behind an item
gap_together : {X : Type 0} (n gap : ℕ) (xss : List (List X))
    → take (total (take gap (drop n (widths xss)))) (drop (total (take n (widths xss))) (together xss)) ≡ together (take gap (drop n xss))
gap_together n gap xss =
    ap (take (total (take gap (drop n (widths xss))))) (cut_together n xss).1
    ∙ ap (λ (ws : List ℕ). take (total (take gap ws)) (together (drop n xss))) (drop-map length n xss)
    ∙ (cut_together gap (drop n xss)).0

gaps_together : {X : Type 0} (is : Items) (xss : List (List X)) → map together (gaps_of is xss) ≡ gaps_of (weighed_items is (widths xss)) (together xss)
unfolding gaps_of weighed_items
gaps_together ended xss = refl
gaps_together (item n c gap more) xss =
    ap (λ (l : List _). l ∷ map together (gaps_of more (drop (n + gap) xss))) (sym (gap_together n gap xss))
    ∙ ap (λ (l : List (List _)). take (total (take gap (drop n (widths xss)))) (drop (total (take n (widths xss))) (together xss)) ∷ l)
    (gaps_together more (drop (n + gap) xss)
    ∙ ap (λ (ws : List ℕ). gaps_of (weighed_items more ws) (together (drop (n + gap) xss))) (sym (drop-map length (n + gap) xss))
    ∙ ap (gaps_of (weighed_items more (drop (n + gap) (widths xss)))) (sym (past_together n gap xss)))

mutual
  unfolding arranged items_of weighed weighed_items

  pub arranged_together : {X : Type 0} (order : List ℕ) (c : Cut) (xss : List (List X)) → together (arranged order c xss) ≡ arranged order (weighed c (widths xss)) (together xss)
  arranged_together order done xss = refl
  arranged_together order (keep n c) xss =
      let ws = widths xss in
      together-append (take n xss) (arranged order c (drop n xss))
      ∙ ap (λ (l : List _). together (take n xss) ++ l)
      (arranged_together order c (drop n xss) ∙ ap (λ (vs : List ℕ). arranged order (weighed c vs) (together (drop n xss))) (sym (drop-map length n xss)))
      ∙ ap (λ (l : List _). l ++ arranged order (weighed c (drop n ws)) (together (drop n xss))) (sym (cut_together n xss).0)
      ∙ ap (λ (l : List _). take (total (take n ws)) (together xss) ++ arranged order (weighed c (drop n ws)) l) (sym (cut_together n xss).1)
  arranged_together order (list is c) xss =
      let ws = widths xss in
      let n = span_of is in
      let front : together (woven (picked order (items_of order is xss)) (gaps_of is xss))
      ≡ woven (picked order (items_of order (weighed_items is ws) (together xss))) (gaps_of (weighed_items is ws) (together xss)) =
      woven_together (picked order (items_of order is xss)) (gaps_of is xss)
      ∙ ap (λ (l : List (List _)). woven l (map together (gaps_of is xss))) (picked_together order (items_of order is xss) ∙ ap (picked order) (items_together order is xss))
      ∙ ap (woven (picked order (items_of order (weighed_items is ws) (together xss)))) (gaps_together is xss) in
      together-append (woven (picked order (items_of order is xss)) (gaps_of is xss)) (arranged order c (drop n xss))
      ∙ ap (λ (l : List _). l ++ together (arranged order c (drop n xss))) front
      ∙ ap (λ (l : List _). woven (picked order (items_of order (weighed_items is ws) (together xss))) (gaps_of (weighed_items is ws) (together xss)) ++ l)
      (arranged_together order c (drop n xss)
      ∙ ap (λ (vs : List ℕ). arranged order (weighed c vs) (together (drop n xss))) (sym (drop-map length n xss))
      ∙ ap (arranged order (weighed c (drop n ws))) (sym (cut_together n xss).1)
      ∙ ap (λ (k : ℕ). arranged order (weighed c (drop n ws)) (drop k (together xss))) (sym (span_weighed is ws)))

  items_together : {X : Type 0} (order : List ℕ) (is : Items) (xss : List (List X)) → map together (items_of order is xss) ≡ items_of order (weighed_items is (widths xss)) (together xss)
  items_together order ended xss = refl
  items_together order (item n c gap more) xss =
      let ws = widths xss in
      ap (λ (l : List _). l ∷ map together (items_of order more (drop (n + gap) xss)))
      (arranged_together order c (take n xss) ∙ ap (λ (vs : List ℕ). arranged order (weighed c vs) (together (take n xss))) (sym (take-map length n xss))
      ∙ ap (arranged order (weighed c (take n ws))) (sym (cut_together n xss).0))
      ∙ ap (λ (l : List (List _)). arranged order (weighed c (take n ws)) (take (total (take n ws)) (together xss)) ∷ l)
      (items_together order more (drop (n + gap) xss)
      ∙ ap (λ (vs : List ℕ). items_of order (weighed_items more vs) (together (drop (n + gap) xss))) (sym (drop-map length (n + gap) xss))
      ∙ ap (items_of order (weighed_items more (drop (n + gap) ws))) (sym (past_together n gap xss)))

-- ---- labels

-- one is brought
abbrev pub is_one : {X : Type 0} → List X → Bool
is_one xs = length xs == 1

head_together : {X : Type 0} (h : X → X) (xss : List (List X)) → starts is_one xss ≡ true → together (head_with (map h) xss) ≡ head_with h (together xss)
head_together h [] one = absurd cc
head_together h ([] ∷ xss) one = absurd cc
head_together h ((x ∷ []) ∷ xss) one = refl
head_together h ((x ∷ y ∷ xs) ∷ xss) one = let e = eqb-true (suc (suc (length xs))) 1 one in absurd (omega (arith, e))

mutual
  unfolding masked masked_items weighed weighed_items

  pub masked_together : {X : Type 0} (h : X → X) (c : Cut) (xss : List (List X)) → Firsts is_one c xss → together (masked (map h) c xss) ≡ masked h (weighed c (widths xss)) (together xss)
  masked_together h done xss ones = refl
  masked_together h (keep n c) xss ones =
      let ws = widths xss in
      together-append (take n xss) (masked (map h) c (drop n xss))
      ∙ ap (λ (l : List _). together (take n xss) ++ l)
      (masked_together h c (drop n xss) ones ∙ ap (λ (vs : List ℕ). masked h (weighed c vs) (together (drop n xss))) (sym (drop-map length n xss)))
      ∙ ap (λ (l : List _). l ++ masked h (weighed c (drop n ws)) (together (drop n xss))) (sym (cut_together n xss).0)
      ∙ ap (λ (l : List _). take (total (take n ws)) (together xss) ++ masked h (weighed c (drop n ws)) l) (sym (cut_together n xss).1)
  masked_together h (list is c) xss ones =
      let ws = widths xss in
      let n = span_of is in
      together-append (masked_items (map h) is xss) (masked (map h) c (drop n xss))
      ∙ ap (λ (l : List _). l ++ together (masked (map h) c (drop n xss))) (masked_items_together h is xss ones.0)
      ∙ ap (λ (l : List _). masked_items h (weighed_items is ws) (together xss) ++ l)
      (masked_together h c (drop n xss) ones.1
      ∙ ap (λ (vs : List ℕ). masked h (weighed c vs) (together (drop n xss))) (sym (drop-map length n xss))
      ∙ ap (masked h (weighed c (drop n ws))) (sym (cut_together n xss).1)
      ∙ ap (λ (k : ℕ). masked h (weighed c (drop n ws)) (drop k (together xss))) (sym (span_weighed is ws)))

  masked_items_together : {X : Type 0} (h : X → X) (is : Items) (xss : List (List X)) → FirstsOfItems is_one is xss
      → together (masked_items (map h) is xss) ≡ masked_items h (weighed_items is (widths xss)) (together xss)
  masked_items_together h ended xss ones = refl
  masked_items_together h (item n c gap more) xss ones =
      let ws = widths xss in
      let first : together (head_with (map h) (masked (map h) c (take n xss))) ≡ head_with h (masked h (weighed c (take n ws)) (take (total (take n ws)) (together xss))) =
      head_together h (masked (map h) c (take n xss)) (masked_one h c (take n xss) ones.0 ones.1)
      ∙ ap (head_with h) (masked_together h c (take n xss) ones.2
      ∙ ap (λ (vs : List ℕ). masked h (weighed c vs) (together (take n xss))) (sym (take-map length n xss))
      ∙ ap (masked h (weighed c (take n ws))) (sym (cut_together n xss).0)) in
      let last : together (masked_items (map h) more (drop (n + gap) xss)) ≡ masked_items h (weighed_items more (drop (n + gap) ws)) (drop (total (take n ws) + total (take gap (drop n ws))) (together xss)) =
      masked_items_together h more (drop (n + gap) xss) ones.3
      ∙ ap (λ (vs : List ℕ). masked_items h (weighed_items more vs) (together (drop (n + gap) xss))) (sym (drop-map length (n + gap) xss))
      ∙ ap (masked_items h (weighed_items more (drop (n + gap) ws))) (sym (past_together n gap xss)) in
      together-append (head_with (map h) (masked (map h) c (take n xss))) (take gap (drop n xss) ++ masked_items (map h) more (drop (n + gap) xss))
      ∙ ap (λ (l : List _). l ++ together (take gap (drop n xss) ++ masked_items (map h) more (drop (n + gap) xss))) first
      ∙ ap (λ (l : List _). head_with h (masked h (weighed c (take n ws)) (take (total (take n ws)) (together xss))) ++ l)
      (together-append (take gap (drop n xss)) (masked_items (map h) more (drop (n + gap) xss))
      ∙ ap (λ (l : List _). l ++ together (masked_items (map h) more (drop (n + gap) xss))) (sym (gap_together n gap xss))
      ∙ ap (λ (l : List _). take (total (take gap (drop n ws))) (drop (total (take n ws)) (together xss)) ++ l) last)

  masked_one : {X : Type 0} (h : X → X) (c : Cut) (xss : List (List X)) → starts is_one xss ≡ true → IsLed c → starts is_one (masked (map h) c xss) ≡ true
  masked_one h c [] one led = absurd cc
  masked_one h done (xs ∷ xss) one led = one
  masked_one h (keep zero c) (xs ∷ xss) one led = absurd (omega (arith, led))
  masked_one h (keep (suc k) c) (xs ∷ xss) one led = one
  masked_one h (list is c) (xs ∷ xss) one led = absurd led
