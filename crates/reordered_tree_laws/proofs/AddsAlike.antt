-- An item adds the same declarations whatever stands beside it.
use Rattle.std.proofs.Common.{ℕ, ◌+◌, ◌≡◌, Bool, true, false, not, cond, List, [], ◌∷◌, ◌++◌, length, refl, sym, ap, subst, ◌∙◌, arith, length-append}
use Rattle.std.specs.Prelude.{filter}
use Rattle.scope_bind.specs.Named.{Declaration, Frame}
use Rattle.scope_bind.specs.Walk.{walked}
use Rattle.tree_laws.specs.TreesOfTexts.{token_count}
use Rattle.reordered_tree_laws.specs.Beside.{is_beside, beside_of, seen_of, StandBeside}
use Rattle.reordered_tree_laws.specs.Adding.{is_adding, IsAddedIn}
use Rattle.reordered_tree_laws.specs.Lasting.{ItemsAddAlike}
use Rattle.reordered_tree_laws.proofs.BesideWalk.{walk_beside}
use Rattle.reordered_tree_laws.proofs.OnlyAdding.{parts_only_add}

-- ---- Lists

module _ {X : Type 0} where
  pub nothing_more : (xs ys : List X) → xs ++ ys ≡ ys → xs ≡ []
  nothing_more [] ys e = refl
  nothing_more (x ∷ xs) ys e =
      let longer : length (x ∷ (xs ++ ys)) ≡ length ys = ap (λ (zs : List X). length zs) e in
      absurd (omega (arith, longer, length-append xs ys))

  abbrev first_or : X → List X → X
  first_or x [] = x
  first_or x (y ∷ ys) = y

  abbrev behind_first : List X → List X
  behind_first [] = []
  behind_first (y ∷ ys) = ys

  pub same_front : (xs ys zs : List X) → xs ++ zs ≡ ys ++ zs → xs ≡ ys
  same_front [] [] zs e = refl
  same_front [] (y ∷ ys) zs e = sym (nothing_more (y ∷ ys) zs (sym e))
  same_front (x ∷ xs) [] zs e = nothing_more (x ∷ xs) zs e
  same_front (x ∷ xs) (y ∷ ys) zs e =
      let here : x ≡ y = ap (λ (l : List X). first_or x l) e in
      let more : xs ≡ ys = same_front xs ys zs (ap (λ (l : List X). behind_first l) e) in
      ap (λ (z : X). z ∷ xs) here ∙ ap (λ (l : List X). y ∷ l) more

  pub filter_append : (q : X → Bool) (xs ys : List X) → filter q (xs ++ ys) ≡ filter q xs ++ filter q ys
  filter_append q [] ys = refl
  filter_append q (x ∷ xs) ys = step (q x) (filter_append q xs ys)
    where
      step : (c : Bool) → filter q (xs ++ ys) ≡ filter q xs ++ filter q ys
          → cond c (x ∷ filter q (xs ++ ys)) (filter q (xs ++ ys)) ≡ cond c (x ∷ filter q xs) (filter q xs) ++ filter q ys
      step true e = ap (λ (l : List X). x ∷ l) e
      step false e = e

  -- of which none passes, all are left
  pub all_left : (q : X → Bool) (xs : List X) → filter q xs ≡ [] → filter (λ x. not (q x)) xs ≡ xs
  all_left q [] e = refl
  all_left q (x ∷ xs) e = step (q x) e (all_left q xs)
    where
      step : (c : Bool) → cond c (x ∷ filter q xs) (filter q xs) ≡ [] → (filter q xs ≡ [] → filter (λ y. not (q y)) xs ≡ xs)
          → cond (not c) (x ∷ filter (λ y. not (q y)) xs) (filter (λ y. not (q y)) xs) ≡ x ∷ xs
      step true w rest = absurd cc
      step false w rest = ap (λ (l : List X). x ∷ l) (rest w)

-- what is added to the same but for what stands beside is the same, where it does not
same_adds : (foreign : ℕ → Bool) (xs ys fs gs : List Declaration) → beside_of foreign (xs ++ fs) ≡ beside_of foreign fs
    → beside_of foreign (ys ++ gs) ≡ beside_of foreign gs → seen_of foreign (ys ++ gs) ≡ seen_of foreign (xs ++ fs) → seen_of foreign gs ≡ seen_of foreign fs
    → ys ≡ xs
same_adds foreign xs ys fs gs first second same before =
    let h : Declaration → Bool = λ d. is_beside foreign d in
    let s : Declaration → Bool = λ d. not (is_beside foreign d) in
    let none : filter h xs ≡ [] = nothing_more (filter h xs) (filter h fs) (sym (filter_append h xs fs) ∙ first) in
    let free : filter h ys ≡ [] = nothing_more (filter h ys) (filter h gs) (sym (filter_append h ys gs) ∙ second) in
    let both : filter s ys ++ filter s gs ≡ filter s xs ++ filter s fs = sym (filter_append s ys gs) ∙ (same ∙ filter_append s xs fs) in
    let ends : filter s ys ++ filter s gs ≡ filter s xs ++ filter s gs = both ∙ ap (λ (l : List Declaration). filter s xs ++ l) (sym before) in
    sym (all_left h ys free) ∙ (same_front (filter s ys) (filter s xs) (filter s gs) ends ∙ all_left h xs none)

pub items_add_alike : ItemsAddAlike
items_add_alike toks foreign ds es bs cs f within lo s t zero_own k d e w forms adds =
    let after : StandBeside foreign ds es bs cs (walked toks f s) (walked toks f t) = walk_beside toks foreign zero_own ds es bs cs f s t k d e in
    let hi : ℕ = lo + token_count f in
    let one : IsAddedIn lo hi s.facts (walked toks f s).facts = parts_only_add toks f within lo s w forms adds in
    let two : IsAddedIn lo hi t.facts (walked toks f t).facts =
    parts_only_add toks f within lo t w forms (subst (λ (x : Frame). is_adding (λ i. true) within x.label f ≡ true) (sym k.frame) adds) in
    let B : List Declaration → List Declaration = beside_of foreign in
    let S : List Declaration → List Declaration = seen_of foreign in
    let same : two.declared ≡ one.declared =
    same_adds foreign one.declared two.declared s.facts.declared t.facts.declared
    (ap B (sym one.front) ∙ (after.facts.first ∙ sym k.facts.first))
    (ap B (sym two.front) ∙ (after.facts.second ∙ sym k.facts.second))
    (ap S (sym two.front) ∙ (after.facts.seen ∙ ap S one.front)) k.facts.seen in
    record {
      declared = one.declared;
      first = one.front;
      second = two.front ∙ ap (λ (l : List Declaration). l ++ t.facts.declared) same;
    }
