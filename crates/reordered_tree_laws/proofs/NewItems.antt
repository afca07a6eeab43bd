-- The items of a list in the new order: each by itself is clear, and goes along with the item that it was.
use Rattle.std.proofs.Common.{ℕ, ◌+◌, ◌<◌, ◌≤◌, ◌≡◌, Bool, true, false, ◌||◌, not, List, [], ◌∷◌, length, map, refl, sym, ap, subst, ◌∙◌, arith}
use Rattle.std.specs.Prelude.{nat_lt}
use Rattle.std.specs.List.{All}
use Rattle.std.proofs.lemmas.Bool.{false≢true, and_from, le-ltb, lt-ltb}
use Rattle.std.proofs.lemmas.List.Elements.{All-head, All-tail}
use Rattle.cs_base.specs.Token.{Token}
use Rattle.c99_tree.specs.Tree.{Forest, none, token, node}
use Rattle.c99_tree.specs.declared.production.Label.{Label}
use Rattle.c_types.specs.Declarations.{Facts, is_in}
use Rattle.scope_bind.specs.Named.{Frame}
use Rattle.tree_laws.specs.TreesOfTexts.{token_count}
use Rattle.list_cuts.specs.Cuts.{IsOrder}
use Rattle.reordered_tree_laws.specs.Reordered.{is_among, permuted, numbered}
use Rattle.reordered_tree_laws.specs.Premises.{is_items}
use Rattle.scope_bind.specs.Moved.{AreMovedTexts}
use Rattle.reordered_tree_laws.specs.Moving.{AreMovedTo}
use Rattle.reordered_tree_laws.proofs.SameForms.{count-numbered}
use Rattle.reordered_tree_laws.proofs.MovedTrees.{AreSpans}
use Rattle.reordered_tree_laws.proofs.MovedHeads.{count_permuted}
use Rattle.reordered_tree_laws.proofs.MovedOrders.{spans_permuted}
use Rattle.reordered_tree_laws.specs.Siblings.{Gain, is_between, in_items, ItemsGain, AlonesClear}
use Rattle.reordered_tree_laws.proofs.Spots.{Spot, end_of, between_parts}
use Rattle.reordered_tree_laws.proofs.NewPlaces.{Fits, placed_items}
use Rattle.reordered_tree_laws.proofs.ItemGoes.{new_frame, IsItem, GoBefore, PairGoes, new_clean, new_fresh, pair_goes}

-- the relation holds of each item and of the gain at its number
abbrev pub EachSpot : (Spot → Gain → Type 0) → List Spot → List Gain → Type 0
EachSpot R [] [] = Unit {0}
EachSpot R (p ∷ ps) (b ∷ bs) = R p b × EachSpot R ps bs
EachSpot R _ _ = ⊥

module _ (m : ℕ → ℕ) (old new : List Token) (law : AreMovedTexts m old new) (order : List ℕ) (lists barred bar : ℕ → Bool) (is : IsOrder (length order) order)
    (lowest : lists 0 ≡ false) (l : Label) (keeps : Bool) (items : is_items l ≡ true) (lo there : ℕ) (fo fn : Frame) (f g behind : Facts) (limit : ℕ)
    (before : GoBefore m old new law order lists barred bar is lowest l keeps items lo there fo fn f g behind limit) where
  abbrev Item : Spot → Type 0
  Item p = IsItem m old new law order lists barred bar is lowest l keeps items lo there fo fn f g behind limit p

  abbrev start_frame : Frame
  start_frame = new_frame m old new law order lists barred bar is lowest l keeps items lo there fo fn f g behind limit

  abbrev pub Pair : ℕ → ℕ → Facts → Spot → Gain → Type 0
  Pair hi beyond behind' p b = PairGoes m old new law order lists barred bar is lowest l keeps items lo there fo fn f g behind limit before hi beyond behind' p b

  abbrev inner : Spot → Forest
  inner q = permuted order lists (is_among lists q.label q.under) q.under

  -- each item that is read alone is clear
  pub clear_new : (xs : List ℕ) → ((i : ℕ) → is_in xs i ≡ true → barred i ≡ true) → (h : Forest) (qs : List Spot) (at : ℕ) (gr : Frame) → Fits h qs → All Item qs
      → AreMovedTo m at (placed_items order lists h qs) → gr ≡ record start_frame { nth = gr.nth; token = gr.token } → gr.token + 1 ≤ at → there + 1 ≤ at
      → AlonesClear new (is_in (map m xs)) g gr (numbered at (placed_items order lists h qs))
  clear_new xs bars none [] at gr fits each w same low far = tt
  clear_new xs bars none (q ∷ qs) at gr fits each w same low far = absurd fits
  clear_new xs bars (token i rest) qs at gr fits each w same low far =
      clear_new xs bars rest qs (at + 1) (record gr { nth = gr.nth + 1; token = at }) fits each w.1 (ap (λ (x : Frame). record x { nth = gr.nth + 1; token = at }) same)
      (omega arith) (omega (arith, far))
  clear_new xs bars (node x first under rest) [] at gr fits each w same low far = absurd fits
  clear_new xs bars (node x first under rest) (q ∷ qs) at gr fits each w same low far =
      let c : Item q = All-head Item q qs each in
      let n : ℕ = token_count (inner q) in (
        (
          new_clean m old new law order lists barred bar is lowest l keeps items lo there fo fn f g behind limit before q at gr c far low same w.0,
          new_fresh m old new law order lists barred bar is lowest l keeps items lo there fo fn f g behind limit before q at gr c far low same w.0 xs bars,
        ),
        clear_new xs bars rest qs (at + n) (record gr { nth = gr.nth + 1 }) fits (All-tail Item q qs each) w.1 (ap (λ (y : Frame). record y { nth = gr.nth + 1 }) same)
            (omega (arith, low)) (omega (arith, far)),
      )

  -- and goes along with the item that it was
  pub each_new : (hi beyond : ℕ) (behind' : Facts) (h : Forest) (qs : List Spot) (at : ℕ) (gr : Frame) (bs : List Gain) → Fits h qs → All Item qs → limit + 1 ≤ hi
      → AreMovedTo m at (placed_items order lists h qs) → gr ≡ record start_frame { nth = gr.nth; token = gr.token } → gr.token + 1 ≤ at → there + 1 ≤ at
      → at + token_count (placed_items order lists h qs) + 1 ≤ beyond → ItemsGain new g behind' gr at (numbered at (placed_items order lists h qs)) bs
      → EachSpot (Pair hi beyond behind') qs bs
  each_new hi beyond behind' none [] at gr [] fits each short w same low far end gain = tt
  each_new hi beyond behind' none [] at gr (b ∷ bs) fits each short w same low far end gain = absurd gain
  each_new hi beyond behind' none (q ∷ qs) at gr bs fits each short w same low far end gain = absurd fits
  each_new hi beyond behind' (token i rest) qs at gr bs fits each short w same low far end gain =
      each_new hi beyond behind' rest qs (at + 1) (record gr { nth = gr.nth + 1; token = at }) bs fits each short w.1
      (ap (λ (x : Frame). record x { nth = gr.nth + 1; token = at }) same) (omega arith) (omega (arith, far)) (omega (arith, end)) gain
  each_new hi beyond behind' (node x first under rest) [] at gr bs fits each short w same low far end gain = absurd fits
  each_new hi beyond behind' (node x first under rest) (q ∷ qs) at gr [] fits each short w same low far end gain = absurd gain
  each_new hi beyond behind' (node x first under rest) (q ∷ qs) at gr (b ∷ bs) fits each short w same low far end gain =
      let c : Item q = All-head Item q qs each in
      let n : ℕ = token_count (inner q) in
      let more : Forest = placed_items order lists rest qs in
      let count : token_count (inner q) ≡ token_count q.under = count_permuted order lists is (is_among lists q.label q.under) q.under c.all in
      let later : ItemsGain new g behind' (record gr { nth = gr.nth + 1 }) (at + n) (numbered (at + n) more) bs =
      subst (λ (y : ℕ). ItemsGain new g behind' (record gr { nth = gr.nth + 1 }) (at + y) (numbered (at + n) more) bs) (count-numbered at (inner q)) gain.1 in (
        pair_goes m old new law order lists barred bar is lowest l keeps items lo there fo fn f g behind limit before q at gr c far low same w.0 hi beyond behind' b
            (omega (arith, c.high, short)) (omega (arith, end, count)) gain.0,
        each_new hi beyond behind' rest qs (at + n) (record gr { nth = gr.nth + 1 }) bs fits (All-tail Item q qs each) short w.1
            (ap (λ (y : Frame). record y { nth = gr.nth + 1 }) same) (omega (arith, low)) (omega (arith, far)) (omega (arith, end)) later,
      )

  -- what stands in no item stands in none at its new place
  pub outside_new : (i : ℕ) (h : Forest) (qs : List Spot) (at : ℕ) → Fits h qs → All Item qs → AreMovedTo m at (placed_items order lists h qs)
      → All (λ q. is_between q.at (end_of q) i ≡ false) qs → in_items at (numbered at (placed_items order lists h qs)) (m i) ≡ false
  outside_new i none [] at fits each w out = refl
  outside_new i none (q ∷ qs) at fits each w out = absurd fits
  outside_new i (token j rest) qs at fits each w out = outside_new i rest qs (at + 1) fits each w.1 out
  outside_new i (node x first under rest) [] at fits each w out = absurd fits
  outside_new i (node x first under rest) (q ∷ qs) at fits each w out =
      let c : Item q = All-head Item q qs each in
      let n : ℕ = token_count (inner q) in
      let many : token_count (numbered at (inner q)) ≡ n = count-numbered at (inner q) in
      let count : n ≡ token_count q.under = count_permuted order lists is (is_among lists q.label q.under) q.under c.all in
      let spans : AreSpans m q.at at (token_count q.under) =
      spans_permuted m old new law order lists is (is_among lists q.label q.under) q.under q.at at c.all c.from w.0 in
      let more : Forest = numbered (at + n) (placed_items order lists rest qs) in
      let here : is_between at (at + token_count (numbered at (inner q))) (m i) ≡ false =
      none_here (is_between at (at + token_count (numbered at (inner q))) (m i)) refl q.at (end_of q) (λ e.
      let k = between_parts at (at + token_count (numbered at (inner q))) (m i) e in
      spans.back i k.0 (omega (arith, k.1, many, count))) (All-head (λ p. is_between p.at (end_of p) i ≡ false) q qs out) in
      let there_more : in_items (at + token_count (numbered at (inner q))) more (m i) ≡ false =
      subst (λ (y : ℕ). in_items (at + y) more (m i) ≡ false) (sym many)
      (outside_new i rest qs (at + n) fits (All-tail Item q qs each) w.1 (All-tail (λ p. is_between p.at (end_of p) i ≡ false) q qs out)) in
      ap (λ (b : Bool). b || in_items (at + token_count (numbered at (inner q))) more (m i)) here ∙ there_more
    where
      none_here : (b : Bool) → is_between at (at + token_count (numbered at (inner q))) (m i) ≡ b → (a z : ℕ)
          → (is_between at (at + token_count (numbered at (inner q))) (m i) ≡ true → (a ≤ i) × (i < z)) → is_between a z i ≡ false
          → is_between at (at + token_count (numbered at (inner q))) (m i) ≡ false
      none_here false e a z back off = e
      none_here true e a z back off =
          let k = back e in
          absurd (false≢true (sym off ∙ and_from (not (nat_lt i a)) (nat_lt i z) (ap not (le-ltb i a k.0)) (lt-ltb i z k.1)))
