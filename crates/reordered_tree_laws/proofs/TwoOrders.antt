-- What is known behind a list in two orders of its items goes together, where each item by itself does and no question is
-- answered by two of them.
use Rattle.std.proofs.Common.{ℕ, ◌+◌, ◌-◌, ◌≤◌, ◌≡◌, Bool, List, [], ◌∷◌, ◌++◌, length, map, get_or, refl, sym, ap, subst, ◌∙◌, arith}
use Rattle.std.specs.Prelude.{filter}
use Rattle.std.specs.List.{All}
use Rattle.std.proofs.lemmas.List.{map-append, get_or_past}
use Rattle.std.proofs.lemmas.List.Elements.{filter-append, All-head, All-tail}
use Rattle.cs_base.specs.Token.{Token}
use Rattle.scope_bind.specs.Named.{Declaration, Occurrence}
use Rattle.list_cuts.specs.Cuts.{numbers, IsOrder}
use Rattle.scope_bind.specs.Moved.{moved_occurrence}
use Rattle.reordered_tree_laws.specs.Moving.{AreMoved}
use Rattle.reordered_tree_laws.proofs.MovedLists.{append_moved}
use Rattle.reordered_tree_laws.specs.Siblings.{Gain, gained, noted}
use Rattle.reordered_tree_laws.proofs.Stacks.{stacked, IsOneAtMost, in_order, numbered_all}

abbrev pub no_gain : Gain
no_gain = record { declared = []; occurrences = [] }

-- item number k; they count from 1
abbrev pub gain_at : List Gain → ℕ → Gain
gain_at gs k = get_or gs (k - 1) no_gain

-- the relation holds of each number and of the one beside it
abbrev pub Each : (ℕ → Gain → Type 0) → List ℕ → List Gain → Type 0
Each R [] [] = Unit {0}
Each R (k ∷ ks) (b ∷ bs) = R k b × Each R ks bs
Each R _ _ = ⊥

pub each_weaker : (R S : ℕ → Gain → Type 0) → ((k : ℕ) (b : Gain) → R k b → S k b) → (ks : List ℕ) (bs : List Gain) → Each R ks bs → Each S ks bs
each_weaker R S f [] [] h = tt
each_weaker R S f (k ∷ ks) (b ∷ bs) h = (f k b h.0, each_weaker R S f ks bs h.1)
each_weaker R S f [] (b ∷ bs) h = absurd h
each_weaker R S f (k ∷ ks) [] h = absurd h

-- .. where something is told of the numbers
pub each_along : (T : ℕ → Type 0) (R S : ℕ → Gain → Type 0) → ((k : ℕ) (b : Gain) → T k → R k b → S k b) → (ks : List ℕ) (bs : List Gain) → All T ks → Each R ks bs → Each S ks bs
each_along T R S f [] [] a h = tt
each_along T R S f (k ∷ ks) (b ∷ bs) a h = (f k b (All-head T k ks a) h.0, each_along T R S f ks bs (All-tail T k ks a) h.1)
each_along T R S f [] (b ∷ bs) a h = absurd h
each_along T R S f (k ∷ ks) [] a h = absurd h

-- ---- Gains

pub gains_past : (gs : List Gain) (k : ℕ) → length gs + 1 ≤ k → gain_at gs k ≡ no_gain
gains_past gs k far = get_or_past gs (k - 1) no_gain (omega (arith, far))

filter_gained : (q : Declaration → Bool) (gs : List Gain) (ks : List ℕ) → filter q (gained (map (gain_at gs) ks)) ≡ stacked (λ k. filter q (gain_at gs k).declared) ks
filter_gained q gs [] = refl
filter_gained q gs (k ∷ ks) =
    filter-append q (gained (map (gain_at gs) ks)) (gain_at gs k).declared
    ∙ ap (λ (xs : List Declaration). xs ++ filter q (gain_at gs k).declared) (filter_gained q gs ks)

filter_noted : (q : Occurrence → Bool) (gs : List Gain) (ks : List ℕ) → filter q (noted (map (gain_at gs) ks)) ≡ stacked (λ k. filter q (gain_at gs k).occurrences) ks
filter_noted q gs [] = refl
filter_noted q gs (k ∷ ks) =
    filter-append q (noted (map (gain_at gs) ks)) (gain_at gs k).occurrences
    ∙ ap (λ (xs : List Occurrence). xs ++ filter q (gain_at gs k).occurrences) (filter_noted q gs ks)

module _ (gs : List Gain) (order : List ℕ) (is : IsOrder (length gs) order) where
  -- what is answered once is answered so in each order
  pub gained_in_order : (q : Declaration → Bool) → IsOneAtMost (λ k. filter q (gain_at gs k).declared)
      → stacked (λ k. filter q (gain_at gs k).declared) order ≡ filter q (gained gs)
  gained_in_order q most =
      in_order (λ k. filter q (gain_at gs k).declared) (length gs) order is most (λ k far. ap (λ (g : Gain). filter q g.declared) (gains_past gs k far))
      ∙ (sym (filter_gained q gs (numbers 1 (length gs))) ∙ ap (λ (hs : List Gain). filter q (gained hs)) (numbered_all no_gain gs))

  pub noted_in_order : (q : Occurrence → Bool) → IsOneAtMost (λ k. filter q (gain_at gs k).occurrences)
      → stacked (λ k. filter q (gain_at gs k).occurrences) order ≡ filter q (noted gs)
  noted_in_order q most =
      in_order (λ k. filter q (gain_at gs k).occurrences) (length gs) order is most (λ k far. ap (λ (g : Gain). filter q g.occurrences) (gains_past gs k far))
      ∙ (sym (filter_noted q gs (numbers 1 (length gs))) ∙ ap (λ (hs : List Gain). filter q (noted hs)) (numbered_all no_gain gs))

-- ---- Beside one another

gained_beside : (m : ℕ → ℕ) (q r : Declaration → Bool) (gs : List Gain) (ks : List ℕ) (bs : List Gain)
    → Each (λ k b. AreMoved m (filter q (gain_at gs k).declared) (filter r b.declared)) ks bs
    → AreMoved m (stacked (λ k. filter q (gain_at gs k).declared) ks) (filter r (gained bs))
gained_beside m q r gs [] [] h = tt
gained_beside m q r gs (k ∷ ks) (b ∷ bs) h =
    subst (λ (xs : List Declaration). AreMoved m (stacked (λ j. filter q (gain_at gs j).declared) ks ++ filter q (gain_at gs k).declared) xs)
    (sym (filter-append r (gained bs) b.declared))
    (append_moved m (stacked (λ j. filter q (gain_at gs j).declared) ks) (filter r (gained bs)) (filter q (gain_at gs k).declared) (filter r b.declared)
    (gained_beside m q r gs ks bs h.1) h.0)
gained_beside m q r gs [] (b ∷ bs) h = absurd h
gained_beside m q r gs (k ∷ ks) [] h = absurd h

noted_beside : (h : Occurrence → Occurrence) (q r : Occurrence → Bool) (gs : List Gain) (ks : List ℕ) (bs : List Gain)
    → Each (λ k b. filter r b.occurrences ≡ map h (filter q (gain_at gs k).occurrences)) ks bs
    → filter r (noted bs) ≡ map h (stacked (λ k. filter q (gain_at gs k).occurrences) ks)
noted_beside h q r gs [] [] w = refl
noted_beside h q r gs (k ∷ ks) (b ∷ bs) w =
    filter-append r (noted bs) b.occurrences
    ∙ (ap (λ (xs : List Occurrence). xs ++ filter r b.occurrences) (noted_beside h q r gs ks bs w.1)
    ∙ (ap (λ (xs : List Occurrence). map h (stacked (λ j. filter q (gain_at gs j).occurrences) ks) ++ xs) w.0
    ∙ sym (map-append h (stacked (λ j. filter q (gain_at gs j).occurrences) ks) (filter q (gain_at gs k).occurrences))))
noted_beside h q r gs [] (b ∷ bs) w = absurd w
noted_beside h q r gs (k ∷ ks) [] w = absurd w

module _ (m : ℕ → ℕ) (old new : List Token) (order : List ℕ) (gs bs : List Gain) (is : IsOrder (length gs) order) where
  -- a question has the same answer behind all, at the moved places
  pub asked_behind : (q r : Declaration → Bool) (ds es : List Declaration) → IsOneAtMost (λ k. filter q (gain_at gs k).declared)
      → Each (λ k b. AreMoved m (filter q (gain_at gs k).declared) (filter r b.declared)) order bs → AreMoved m (filter q ds) (filter r es)
      → AreMoved m (filter q (gained gs ++ ds)) (filter r (gained bs ++ es))
  asked_behind q r ds es most each before =
      let front : AreMoved m (filter q (gained gs)) (filter r (gained bs)) =
      subst (λ (xs : List Declaration). AreMoved m xs (filter r (gained bs))) (gained_in_order gs order is q most) (gained_beside m q r gs order bs each) in
      subst (λ (xs : List Declaration). AreMoved m xs (filter r (gained bs ++ es))) (sym (filter-append q (gained gs) ds))
      (subst (λ (ys : List Declaration). AreMoved m (filter q (gained gs) ++ filter q ds) ys) (sym (filter-append r (gained bs) es))
      (append_moved m (filter q (gained gs)) (filter r (gained bs)) (filter q ds) (filter r es) front before))

  -- a token has been bound to the same entities
  pub noted_behind : (q r : Occurrence → Bool) (os ps : List Occurrence) → IsOneAtMost (λ k. filter q (gain_at gs k).occurrences)
      → Each (λ k b. filter r b.occurrences ≡ map (moved_occurrence m) (filter q (gain_at gs k).occurrences)) order bs
      → filter r ps ≡ map (moved_occurrence m) (filter q os)
      → filter r (noted bs ++ ps) ≡ map (moved_occurrence m) (filter q (noted gs ++ os))
  noted_behind q r os ps most each before =
      let h : Occurrence → Occurrence = moved_occurrence m in
      filter-append r (noted bs) ps
      ∙ (ap (λ (xs : List Occurrence). xs ++ filter r ps)
      (noted_beside h q r gs order bs each ∙ ap (λ (xs : List Occurrence). map h xs) (noted_in_order gs order is q most))
      ∙ (ap (λ (xs : List Occurrence). map h (filter q (noted gs)) ++ xs) before
      ∙ (sym (map-append h (filter q (noted gs)) (filter q os)) ∙ ap (λ (xs : List Occurrence). map h xs) (sym (filter-append q (noted gs) os)))))
