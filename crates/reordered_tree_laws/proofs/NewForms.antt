-- The node with the items of a list in the new order: they are items, ask for nothing of each other, and have their forms.
use Rattle.std.proofs.Common.{ℕ, ◌+◌, ◌≡◌, Bool, true, false, ◌&&◌, ◌||◌, not, ◌==◌, List, [], ◌∷◌, length, refl, ap, ◌∙◌}
use Rattle.std.specs.List.{All, list_all}
use Rattle.std.proofs.lemmas.Bool.{and_parts, and_from}
use Rattle.std.proofs.lemmas.List.Elements.{All-head, All-tail}
use Rattle.cs_base.specs.Token.{Token}
use Rattle.c99_tree.specs.Tree.{Forest, none, token, node, Node}
use Rattle.c99_tree.specs.declared.production.Label.{Label}
use Rattle.c99_tree.specs.declared.production.Production.TheVariants.{SuRest, EnRest}
use Rattle.c_types.specs.Trees.{is_node}
use Rattle.c_types.specs.Declarations.{Facts}
use Rattle.scope_bind.specs.Named.{Frame}
use Rattle.tree_laws.specs.TreesOfTexts.{token_count}
use Rattle.list_cuts.specs.Cuts.{done, IsOrder}
use Rattle.reordered_tree_laws.specs.Reordered.{nodes_in, is_among, permuted, numbered}
use Rattle.scope_bind.specs.Moved.{AreMovedTexts}
use Rattle.reordered_tree_laws.specs.Moving.{AreMovedTo}
use Rattle.reordered_tree_laws.specs.Premises.{is_items, is_spaced, lists_pass, is_item, are_two_apart, are_apart}
use Rattle.reordered_tree_laws.specs.Lasting.{tags_pass}
use Rattle.reordered_tree_laws.specs.Siblings.{tags_follow, has_signs}
use Rattle.reordered_tree_laws.proofs.Checks.{are_listed}
use Rattle.reordered_tree_laws.proofs.ItemsStay.{items_untagged}
use Rattle.reordered_tree_laws.proofs.ItemForms.{fit_listed, fit_follows, follows_permuted, follows_numbered, IsMovedItem, moved_item, item_moved, apart_moved, tags_moved}
use Rattle.reordered_tree_laws.proofs.Spots.{Spot, spot_node}
use Rattle.reordered_tree_laws.proofs.OldItems.{IsOldItem}
use Rattle.reordered_tree_laws.proofs.NewPlaces.{Fits, placed_items}

-- each item and each later one ask for nothing of each other
abbrev pub AllTwoApart : List Token → List Spot → Type 0
AllTwoApart toks [] = Unit {0}
AllTwoApart toks (q ∷ qs) = All (λ (r : Spot). are_two_apart toks (spot_node q) (spot_node r) ≡ true) qs × AllTwoApart toks qs

-- a token stands between two nodes as before
pub spaced_new : (order : List ℕ) (lists : ℕ → Bool) (h : Forest) (qs : List Spot) (at : ℕ) (passed : Bool) → Fits h qs → is_spaced passed h ≡ true
    → is_spaced passed (numbered at (placed_items order lists h qs)) ≡ true
spaced_new order lists none [] at passed fits e = refl
spaced_new order lists none (q ∷ qs) at passed fits e = absurd fits
spaced_new order lists (token i rest) qs at passed fits e = spaced_new order lists rest qs (at + 1) false fits e
spaced_new order lists (node x first under rest) [] at passed fits e = absurd fits
spaced_new order lists (node x first under rest) (q ∷ qs) at passed fits e =
    let p = and_parts (not passed) (is_spaced true rest) e in
    let own : Forest = permuted order lists (is_among lists q.label q.under) q.under in
    and_from (not passed) (is_spaced true (numbered (at + token_count own) (placed_items order lists rest qs))) p.0
    (spaced_new order lists rest qs (at + token_count own) true fits p.1)

module _ (order : List ℕ) (is : IsOrder (length order) order) (lists barred bar : ℕ → Bool) (m : ℕ → ℕ) (old new : List Token) (law : AreMovedTexts m old new)
    (l : Label) (keeps : Bool) (fr0 : Frame) (f g : Facts) (begin limit : ℕ) where
  abbrev IsOld : Spot → Type 0
  IsOld p = IsOldItem m old new order lists barred bar l keeps fr0 f g begin limit p

  abbrev placed : Forest → List Spot → Forest
  placed h qs = placed_items order lists h qs

  -- the children of an item, with lists in them in the new order
  abbrev inside : Spot → Forest
  inside q = permuted order lists (is_among lists q.label q.under) q.under

  abbrev there : Spot → ℕ → Node
  there q at = moved_item order is lists m old new law q.label at q.under

  -- an item at its new place
  moved_at : (q : Spot) (at : ℕ) → IsOld q → AreMovedTo m at (inside q) → IsMovedItem order is lists m old new law q.label q.first at q.under
  moved_at q at c w = record {
    after = done;
    all = c.all;
    fine = (and_parts (are_listed lists (is_among lists q.label q.under) q.under) true
        (fit_listed lists l false 0 fr0.scope keeps (node q.label q.first q.under none) c.fit)).0;
    moved = w;
  }

  pub items_new : (h : Forest) (qs : List Spot) (at : ℕ) → Fits h qs → All IsOld qs → AreMovedTo m at (placed h qs) → list_all is_item (nodes_in (numbered at (placed h qs))) ≡ true
  items_new none [] at fits each w = refl
  items_new none (q ∷ qs) at fits each w = absurd fits
  items_new (token i rest) qs at fits each w = items_new rest qs (at + 1) fits each w.1
  items_new (node x first under rest) [] at fits each w = absurd fits
  items_new (node x first under rest) (q ∷ qs) at fits each w =
      let c : IsOld q = All-head IsOld q qs each in
      and_from (is_item (there q at)) (list_all is_item (nodes_in (numbered (at + token_count (inside q)) (placed rest qs))))
      (item_moved order is lists m old new law q.label q.first at q.under (moved_at q at c w.0) ∙ c.item)
      (items_new rest qs (at + token_count (inside q)) fits (All-tail IsOld q qs each) w.1)

  signs_of : (q : Spot) (at : ℕ) → IsOld q → has_signs (there q at) ≡ true
  signs_of q at c =
      let sign : Bool = is_node q.label SuRest || is_node q.label EnRest in
      let follow = and_parts (false || not sign) (tags_follow false q.under && true)
      (fit_follows lists l false 0 fr0.scope keeps false (node q.label q.first q.under none) c.fit (λ e. e)) in
      let own = and_parts (tags_follow false q.under) true follow.1 in
      let pass = and_parts (lists_pass lists (list_all is_item) (is_among lists q.label q.under) q.under) true c.fine.items in
      follows_numbered false at (inside q) ∙ follows_permuted order is lists (is_among lists q.label q.under) false q.under done c.all pass.0 own.0

  pub signs_new : (h : Forest) (qs : List Spot) (at : ℕ) → Fits h qs → All IsOld qs → list_all has_signs (nodes_in (numbered at (placed h qs))) ≡ true
  signs_new none [] at fits each = refl
  signs_new none (q ∷ qs) at fits each = absurd fits
  signs_new (token i rest) qs at fits each = signs_new rest qs (at + 1) fits each
  signs_new (node x first under rest) [] at fits each = absurd fits
  signs_new (node x first under rest) (q ∷ qs) at fits each =
      and_from (has_signs (there q at)) (list_all has_signs (nodes_in (numbered (at + token_count (inside q)) (placed rest qs))))
      (signs_of q at (All-head IsOld q qs each)) (signs_new rest qs (at + token_count (inside q)) fits (All-tail IsOld q qs each))

  pub tags_new : is_items l ≡ true → (bar' : ℕ → Bool) → ((i : ℕ) → bar' (m i) ≡ bar i) → (h : Forest) (qs : List Spot) (at k : ℕ) → Fits h qs → All IsOld qs
      → AreMovedTo m at (placed h qs) → tags_pass bar' l k (numbered at (placed h qs)) ≡ true
  tags_new items bar' same none [] at k fits each w = refl
  tags_new items bar' same none (q ∷ qs) at k fits each w = absurd fits
  tags_new items bar' same (token i rest) qs at k fits each w =
      let more : Bool = tags_pass bar' l (k + 1) (numbered (at + 1) (placed rest qs)) in
      ap (λ (c : Bool). (not (c && (k == 0)) || bar' at) && more) (items_untagged l items) ∙ tags_new items bar' same rest qs (at + 1) (k + 1) fits each w.1
  tags_new items bar' same (node x first under rest) [] at k fits each w = absurd fits
  tags_new items bar' same (node x first under rest) (q ∷ qs) at k fits each w =
      let c : IsOld q = All-head IsOld q qs each in
      and_from (tags_pass bar' q.label 0 (numbered at (inside q))) (tags_pass bar' l (k + 1) (numbered (at + token_count (inside q)) (placed rest qs)))
      (tags_moved order is lists m old new law q.label q.first at q.under bar bar' 0 same (moved_at q at c w.0) ∙ c.tags)
      (tags_new items bar' same rest qs (at + token_count (inside q)) (k + 1) fits (All-tail IsOld q qs each) w.1)

  -- an item and those behind it
  apart_behind : (q : Spot) (begins : ℕ) → IsMovedItem order is lists m old new law q.label q.first begins q.under → (h : Forest) (qs : List Spot) (at : ℕ) → Fits h qs
      → All IsOld qs → AreMovedTo m at (placed h qs) → All (λ (r : Spot). are_two_apart old (spot_node q) (spot_node r) ≡ true) qs
      → list_all (are_two_apart new (there q begins)) (nodes_in (numbered at (placed h qs))) ≡ true
  apart_behind q begins y none [] at fits each w e = refl
  apart_behind q begins y none (r ∷ qs) at fits each w e = absurd fits
  apart_behind q begins y (token i rest) qs at fits each w e = apart_behind q begins y rest qs (at + 1) fits each w.1 e
  apart_behind q begins y (node x first under rest) [] at fits each w e = absurd fits
  apart_behind q begins y (node x first under rest) (r ∷ qs) at fits each w e =
      let A : Spot → Type 0 = λ (s : Spot). are_two_apart old (spot_node q) (spot_node s) ≡ true in
      let c : IsOld r = All-head IsOld r qs each in
      and_from (are_two_apart new (there q begins) (there r at))
      (list_all (are_two_apart new (there q begins)) (nodes_in (numbered (at + token_count (inside r)) (placed rest qs))))
      (apart_moved order is lists m old new law q.label r.label q.first r.first begins at q.under r.under y (moved_at r at c w.0) ∙ All-head A r qs e)
      (apart_behind q begins y rest qs (at + token_count (inside r)) fits (All-tail IsOld r qs each) w.1 (All-tail A r qs e))

  pub apart_new : (h : Forest) (qs : List Spot) (at : ℕ) → Fits h qs → All IsOld qs → AreMovedTo m at (placed h qs) → AllTwoApart old qs
      → are_apart new (nodes_in (numbered at (placed h qs))) ≡ true
  apart_new none [] at fits each w e = refl
  apart_new none (q ∷ qs) at fits each w e = absurd fits
  apart_new (token i rest) qs at fits each w e = apart_new rest qs (at + 1) fits each w.1 e
  apart_new (node x first under rest) [] at fits each w e = absurd fits
  apart_new (node x first under rest) (q ∷ qs) at fits each w e =
      let c : IsOld q = All-head IsOld q qs each in
      let more : Forest = numbered (at + token_count (inside q)) (placed rest qs) in
      and_from (list_all (are_two_apart new (there q at)) (nodes_in more)) (are_apart new (nodes_in more))
      (apart_behind q at (moved_at q at c w.0) rest qs (at + token_count (inside q)) fits (All-tail IsOld q qs each) w.1 e.0)
      (apart_new rest qs (at + token_count (inside q)) fits (All-tail IsOld q qs each) w.1 e.1)
