-- A text whose lists can get a new order binds alike, where each list goes along.
use Rattle.std.proofs.Common.{ℕ, ◌+◌, ◌≡◌, Bool, true, false, ◌&&◌, ◌==◌, List, [], ◌∷◌, length, map, reverse, inl, inr, refl, sym, ap, subst, ◌∙◌, arith}
use Rattle.std.specs.Prelude.{nat_lt}
use Rattle.std.specs.List.{All, list_all}
use Rattle.std.specs.Option.{option_map}
use Rattle.std.proofs.lemmas.Bool.{cases_Bool, ltb-false, ltb-true, eqb-false, and_from}
use Rattle.std.proofs.lemmas.List.{length-map}
use Rattle.std.proofs.lemmas.List.Elements.{All-nil, All-cons, All-head, All-tail}
use Rattle.std.proofs.lemmas.List.Sorted.{IsPermutation-reverse, IsPermutation-sym, All-permutation}
use Rattle.cs_base.specs.Token.{Token}
use Rattle.cs_base.proofs.BoolLemmas.{or_first, or_right as or_second}
use Rattle.cs_base.proofs.ListLemmas.{all_more}
use Rattle.c99_tree.specs.Tree.{Forest, Node}
use Rattle.c_types.specs.Declarations.{Facts, is_in}
use Rattle.name_chains.specs.Frames.{State, outermost, at_first}
use Rattle.scope_bind.specs.declared.bound.Name.{Name}
use Rattle.scope_bind.specs.Named.{Occurrence}
use Rattle.scope_bind.specs.Bound.{Bound, name_of, names_of, bound_of, facts_of}
use Rattle.scope_bind.specs.Names.{entity_at, declares_at, kind_at, linkage_at}
use Rattle.scope_bind.specs.Walk.{walked}
use Rattle.tree_laws.specs.TreesOfTexts.{token_count}
use Rattle.list_cuts.specs.Cuts.{Cut, moved, IsOrder}
use Rattle.list_cuts.proofs.CutLemmas.{length-arranged}
use Rattle.reordered_tree_laws.specs.Reordered.{permuted, numbered, reordered}
use Rattle.reordered_tree_laws.specs.Cuts.{cut_in}
use Rattle.scope_bind.specs.Moved.{AreMovedTexts}
use Rattle.reordered_tree_laws.specs.Moving.{GoTogether, StatesGo, AreMovedTo}
use Rattle.reordered_tree_laws.specs.Premises.{tags_in, ReorderedBindAlike}
use Rattle.reordered_tree_laws.proofs.MovedTrees.{AreSpans}
use Rattle.reordered_tree_laws.proofs.MovedHeads.{lowest_stays}
use Rattle.reordered_tree_laws.proofs.MovedPlaces.{moved-beyond, tokens_moved, texts_moved}
use Rattle.reordered_tree_laws.proofs.MovedResult.{entity_moved, declares_moved, kind_moved, linkage_moved}
use Rattle.reordered_tree_laws.proofs.MovedOrders.{spans_permuted}
use Rattle.reordered_tree_laws.proofs.MovedUnits.{clean_facts, bound_facts, no_some, starts_go, told_of}
use Rattle.reordered_tree_laws.specs.Going.{IsLow, IsToldMember, IsKnown, IsFineEnd, AreFineLists, ListsGo}
use Rattle.reordered_tree_laws.proofs.ListWalk.{walk}

-- ---- Lists

itself : (k : ℕ) → (k == k) ≡ true
itself k = elim (cases_Bool (k == k)) [
  | inl e ↦ e
  | inr e ↦ absurd (eqb-false k k e refl)
]

-- all numbers of a list are in it
all_in : (xs : List ℕ) → list_all (is_in xs) xs ≡ true
all_in [] = refl
all_in (x ∷ xs) =
    and_from (is_in (x ∷ xs) x) (list_all (is_in (x ∷ xs)) xs) (or_first (x == x) (is_in xs x) (itself x))
    (all_more (is_in xs) (is_in (x ∷ xs)) (λ k h. or_second (x == k) (is_in xs k) h) xs (all_in xs))

unmapped_all : {X Y : Type 0} (P : Y → Type 0) (f : X → Y) (xs : List X) → All P (map f xs) → All (λ (x : X). P (f x)) xs
unmapped_all P f [] h = All-nil (λ x. P (f x))
unmapped_all P f (x ∷ xs) h = All-cons (λ y. P (f y)) x xs (All-head P (f x) (map f xs) h) (unmapped_all P f xs (All-tail P (f x) (map f xs) h))

-- what is so of all names is so of all that are bound
noted_names : (barred : ℕ → Bool) (f : Facts) → All (λ (n : Name). (n.declares && barred n.index) ≡ false) (names_of f)
    → All (λ (o : Occurrence). (o.declares && barred o.index) ≡ false) f.occurrences
noted_names barred f h =
    let P : Name → Type 0 = λ (n : Name). (n.declares && barred n.index) ≡ false in
    let ns : List Name = map (name_of f) f.occurrences in
    unmapped_all P (name_of f) f.occurrences
    (All-permutation P (reverse ns) ns (IsPermutation-sym ns (reverse ns) (IsPermutation-reverse ns)) h)

-- ---- The beginning of a unit

nothing_low : (n : ℕ) → IsLow 0 (at_first n)
nothing_low n = record {
  declared = All-nil _;
  frame = record { base = refl; given = refl; found = refl; token = refl; owner = refl };
}

nothing_known : (n : ℕ) → IsKnown 0 0 (at_first n) (at_first n)
nothing_known n = record { low = nothing_low n; over = nothing_low n; members = All-nil IsToldMember; others = All-nil IsToldMember }

-- ---- A whole unit

module _ (goes : (m : ℕ → ℕ) (old new : List Token) (order : List ℕ) (lists barred : ℕ → Bool) → AreMovedTexts m old new → IsOrder (length order) order → lists 0 ≡ false
    → (f : Forest) → ListsGo m old new order lists barred f) where
  pub bind_alike : ReorderedBindAlike
  bind_alike old new order lists tree b of e c texts =
      let n : ℕ = length old in
      let cut : Cut = cut_in lists tree in
      let m : ℕ → ℕ = moved order cut n in
      let f : Forest = tree.under in
      let is : IsOrder (length order) order = c.many in
      let places : AreMovedTo m 0 (permuted order lists false f) = tokens_moved order lists tree n is c.each of in
      let stays : m 0 ≡ 0 = elim (cases_Bool (nat_lt 0 n)) [
        | inl full ↦
            lowest_stays order lists is m f 0 0 (outermost n).label true 0 (outermost n).scope true of.tokens places c.formed c.each (omega (arith, of.all, ltb-true 0 n full))
        | inr empty ↦ moved-beyond n order cut is c.each 0 (ltb-false 0 n empty)
      ] in
      let law : AreMovedTexts m old new = texts_moved order cut old new is c.each texts stays in
      let spans0 : AreSpans m 0 0 (token_count f) = spans_permuted m old new law order lists is false f 0 0 c.each of.tokens places in
      let spans : AreSpans m 0 0 n = subst (λ (x : ℕ). AreSpans m 0 0 x) of.all spans0 in
      let s : State = at_first n in
      let facts : Facts = facts_of old f in
      let names : b.names ≡ names_of facts = ap (λ (x : Bound). x.names) (bound_facts old tree b e) in
      let tags : List ℕ = tags_in lists false false (outermost 0).label 0 f in
      let barred : ℕ → Bool = is_in tags in
      let fine : AreFineLists old lists barred false false s.frame.label 0 f = record { items = c.items; apart = c.apart; tags = all_in tags } in
      let end : IsFineEnd barred (walked old f s) =
      record {
        clean = clean_facts old tree b e;
        fresh = noted_names barred facts (subst (λ (ns : List Name). All (λ (x : Name). (x.declares && barred x.index) ≡ false) ns) names c.fresh);
      } in
      let after : StatesGo m old new false false (0 + token_count f) (0 + token_count f) (walked old f s) (walked new (numbered 0 (permuted order lists false f)) s) =
      walk m old new law order lists barred is c.first f true true false 0 0 s s of.tokens places of.forms c.formed c.each fine
      (goes m old new order lists barred law is c.first f) (nothing_known n) end (starts_go m old new law n spans) in
      let text : Token → List ℕ = λ (t : Token). t.text in
      let long : length new ≡ n =
      sym (length-map new text) ∙ (ap (λ (xs : List (List ℕ)). length xs) texts ∙ (length-arranged (length order) order cut (map text old) is c.each ∙ length-map old text)) in
      let tree' : Node = reordered order lists tree in
      let g : Facts = facts_of new tree'.under in
      let together : GoTogether m old new (0 + token_count f) (0 + token_count f) facts g =
      subst (λ (x : ℕ). GoTogether m old new (0 + token_count f) (0 + token_count f) facts (walked new (numbered 0 (permuted order lists false f)) (at_first x)).facts) (sym long)
      after.facts in
      record {
        bound = bound_of tree'.under g;
        told = told_of new tree' (no_some facts.fault g.fault together.fault (clean_facts old tree b e));
        named = λ i less.
            entity_moved m old new law (0 + token_count f) (0 + token_count f) facts g together i ∙ ap (λ (ns : List Name). option_map m (entity_at ns i)) (sym names);
        declared = λ i less.
            declares_moved m old new law (0 + token_count f) (0 + token_count f) facts g together i ∙ ap (λ (ns : List Name). declares_at ns i) (sym names);
        kinds = λ i less. kind_moved m old new law (0 + token_count f) (0 + token_count f) facts g together i ∙ ap (λ (ns : List Name). kind_at ns i) (sym names);
        linked = λ i less. linkage_moved m old new law (0 + token_count f) (0 + token_count f) facts g together i ∙ ap (λ (ns : List Name). linkage_at ns i) (sym names);
      }
