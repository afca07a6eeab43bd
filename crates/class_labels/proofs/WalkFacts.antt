-- What a whole join does to the labels.
use Rattle.std.proofs.Common.{◌≡◌, ℕ, ◌+◌, ◌<◌, ◌⊎◌, List, [], ◌∷◌, zero, suc, length, ap, sym, ◌∙◌, inl, inr, arith, subst, Some}
use Rattle.std.specs.Prelude.{slice_get}
use Rattle.std.proofs.lemmas.Option.{none-some, same_Some, slice_get_within}
use Rattle.class_labels.specs.declared.spots.Spot.{Spot}
use Rattle.class_labels.specs.Chain.{Chain}
use Rattle.class_labels.specs.Chain.Chain.{here, along, back}
use Rattle.class_labels.specs.Labels.{Labels, spot, step, common, length_at}
use Rattle.class_labels.specs.Walk.{Walk}
use Rattle.class_labels.specs.Runs.{IsEnd, Follows}
use Rattle.class_labels.proofs.LookFacts.{look_below}
use Rattle.class_labels.proofs.StepFacts.{step_laws}
use Rattle.class_labels.proofs.StepFacts.AlikeNow.{before as alike_before, across, across_back}
use Rattle.class_labels.proofs.StepFacts.BegunNow.{before as was_before, in_first, in_second}

pub then : {A : Type 0} (R : A → A → Type 0) (p q r : A) → Chain R p q → Chain R q r → Chain R p r
then R p q r here d = d
then R p q r (along s c) d = along s (then R _ q r c d)
then R p q r (back s c) d = back s (then R _ q r c d)

pub turned : {A : Type 0} (R : A → A → Type 0) (p q : A) → Chain R p q → Chain R q p
turned R p q here = here
turned R p q (along s c) = then R _ _ _ (turned R _ q c) (back s here)
turned R p q (back s c) = then R _ _ _ (turned R _ q c) (along s here)

linked_alike : (Begins : ℕ → Type 0) (R : ℕ → ℕ → Type 0) (t : Labels) → Walk Begins R t → (p q : ℕ) → p < length t.spots → slice_get t.spots p ≡ slice_get t.spots q → Chain R p q
linked_alike Begins R t walk p q held e = let s = look_below t.spots p held in walk.least p q s.0 s.1 (sym e ∙ s.1)

within_from : (t u : Labels) (p : ℕ) (s : Spot) → length u.spots ≡ length t.spots → slice_get u.spots p ≡ Some s → p < length t.spots
within_from t u p s long at = let below : p < length u.spots = slice_get_within u.spots p s at in omega arith

-- a step where the characters to be joined are forced together
pub walk_step : (Begins : ℕ → Type 0) (R : ℕ → ℕ → Type 0) (t : Labels) (c d x y : ℕ) → Walk Begins R t
    → slice_get t.spots x ≡ Some (spot c 0) → slice_get t.spots y ≡ Some (spot d 0)
    → ((o : ℕ) → o < common t c d → R (x + o) (y + o))
    → (common t c d < length_at t c → (z : ℕ) × (e : ℕ) × R (x + common t c d) z × (slice_get t.spots z ≡ Some (spot e 0)))
    → (common t c d < length_at t d → (z : ℕ) × (e : ℕ) × R z (y + common t c d) × (slice_get t.spots z ≡ Some (spot e 0)))
    → Walk Begins R (step c d t)
walk_step Begins R t c d x y walk at_x at_y pairs next_x next_y =
    let l = common t c d in
    let u = step c d t in
    let laws = step_laws c d x y t walk.table at_x at_y in
    let linked = linked_alike Begins R t walk in
    record {
      table = laws.table;
      opens = λ i s begins at.
          let was = look_below t.spots i (within_from t u i s laws.as_long at) in
          let none : was.0.offset ≡ 0 = walk.opens i was.0 begins was.1 in
          let same : was.0 ≡ spot was.0.class 0 = λ j. record { class = was.0.class; offset = none j } in
          let now = laws.begins i was.0.class (was.1 ∙ ap Some same) in
          ap (λ (r : Spot). r.offset) (same_Some s (spot now.0 0) (sym at ∙ now.1));
      least = λ p q s at_p at_q.
          let held_p = within_from t u p s laws.as_long at_p in
          let held_q = within_from t u q s laws.as_long at_q in
          elim (laws.back p q s at_p at_q) [
            | alike_before e ↦ linked p q held_p e
            | across o less e f ↦ then R p (x + o) q (linked p (x + o) held_p e) (along (pairs o less) (turned R q (y + o) (linked q (y + o) held_q f)))
            | across_back o less e f ↦ then R p (y + o) q (linked p (y + o) held_p e) (back (pairs o less) (turned R q (x + o) (linked q (x + o) held_q f)))
          ];
      opened = λ i e at.
          let held = within_from t u i (spot e 0) laws.as_long at in
          elim (laws.begun i e at) [
            | was_before f was ↦ walk.opened i f was
            | in_first less e ↦
                let n = next_x less in
                let o = walk.opened n.0 n.1 n.3 in
                (o.0, o.1, then R i (x + l) o.0 (linked i (x + l) held e) (along n.2 o.2))
            | in_second less e ↦
                let n = next_y less in
                let o = walk.opened n.0 n.1 n.3 in
                (o.0, o.1, then R i (y + l) o.0 (linked i (y + l) held e) (back n.2 o.2))
          ];
    }

-- what follows the character at offset o of a part of l characters: the part goes on, and behind it another begins
pub record PartRun (Begins : ℕ → Type 0) (n x o m l : ℕ) (xs : List ℕ) : Type 0 where
  pub inside : (k p : ℕ) → k < m → p ≡ o + suc k → slice_get xs k ≡ Some (x + p)
  pub next : (z : ℕ) → slice_get xs m ≡ Some z → (z < n) × ((z ≡ x + l) ⊎ Begins z)

-- a part of l characters from x on, none of which but the first begins a token
pub record PartAt (Begins : ℕ → Type 0) (n x l : ℕ) : Type 0 where
  pub held : (o : ℕ) → o < l → x + o < n
  pub closed : (o : ℕ) → 0 < o → o < l → Begins (x + o) → ⊥

not_end : (Begins : ℕ → Type 0) (n x o l : ℕ) → PartAt Begins n x l → suc o < l → IsEnd Begins n (x + o) → ⊥
not_end Begins n x o l part less end = elim end [
  | inl e ↦ let held : x + suc o < n = part.held (suc o) less in omega arith
  | inr b ↦ let P : ℕ → Type 0 = λ v. Begins v in part.closed (suc o) (omega arith) less (let e : x + o + 1 ≡ x + suc o = omega arith in subst P e b)
]

part_run_inside : (x o m z : ℕ) (zs : List ℕ) → z ≡ x + suc o → ((k p : ℕ) → k < m → p ≡ suc o + suc k → slice_get zs k ≡ Some (x + p)) → (k p : ℕ) → k < suc m → p ≡ o + suc k → slice_get (z ∷ zs) k ≡ Some (x + p)
part_run_inside x o m z zs there rest zero p less is = ap Some (let e : z ≡ x + p = omega arith in e)
part_run_inside x o m z zs there rest (suc k) p less is = rest k p (omega arith) (omega arith)

pub part_run : (Begins : ℕ → Type 0) (n x l : ℕ) → PartAt Begins n x l → (xs : List ℕ) (o m : ℕ) → o + suc m ≡ l → Follows Begins n (x + o) xs → PartRun Begins n x o m l xs
part_run Begins n x l part [] o zero whole follows = record {
  inside = λ k p less is. absurd (omega arith);
  next = λ z at. absurd (none-some z at);
}
part_run Begins n x l part [] o (suc m) whole follows = absurd (not_end Begins n x o l part (omega arith) follows)
part_run Begins n x l part (z ∷ zs) o zero whole follows = record {
  inside = λ k p less is. absurd (omega arith);
  next = λ y at.
      let e : z ≡ y = same_Some z y at in
      let P : ℕ → Type 0 = λ v. (v < n) × ((v ≡ x + l) ⊎ Begins v) in
      subst P e (follows.0.held, elim follows.0.next [ inl f ↦ inl (omega arith) | inr f ↦ inr f.1 ]);
}
part_run Begins n x l part (z ∷ zs) o (suc m) whole follows = elim follows.0.next [
  | inl e ↦
      let there : z ≡ x + suc o = omega arith in
      let P : ℕ → Type 0 = λ v. Follows Begins n v zs in
      let rest = part_run Begins n x l part zs (suc o) m (omega arith) (subst P there follows.1) in
      record {
        inside = λ k p less is. part_run_inside x o m z zs there rest.inside k p less is;
        next = rest.next;
      }
  | inr f ↦ absurd (not_end Begins n x o l part (omega arith) f.0)
]
