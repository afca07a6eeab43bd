-- A run has one cut for that of what it is expanded to.
use Rattle.std.proofs.Common.{◌≡◌, ℕ, zero, suc, ◌+◌, Bool, List, take, drop, Some, refl, ap, sym, subst, ◌∙◌}
use Rattle.std.proofs.lemmas.Option.{same_Some}
use Rattle.cs_base.specs.Token.{Token}
use Rattle.line_shape.specs.Signs.{is_open, is_close, is_comma}
use Rattle.list_cuts.specs.Cuts.{Cut, done, keep, list, Items, ended, item, span_of}
use Rattle.expansion_laws.specs.Arranging.{IsMark, EndsItem, MarksStand, ItemsStand, AreDistinct, CutsAreOne}
use Rattle.expansion_laws.proofs.MarkLemmas.{distinct_take, distinct_drop}

-- one place of a run for one of its expansion
place_one : (sign : Token → Bool) (run out : List Token) (k k2 m : ℕ) → AreDistinct run → IsMark sign run out k m → IsMark sign run out k2 m → k ≡ k2
place_one sign run out k k2 m dis a b =
    let same : a.mark ≡ b.mark = same_Some a.mark b.mark (sym a.out_has ∙ b.out_has) in
    dis k k2 b.mark (a.run_has ∙ ap (λ (t : Token). Some t) same) b.run_has

none_one : (c : Cut) (run out : List Token) → MarksStand c done run out → c ≡ done
none_one done run out h = refl
none_one (keep zero c) run out h = absurd h
none_one (keep (suc k) done) run out h = absurd h
none_one (keep (suc k) (keep m c)) run out h = absurd h
none_one (keep (suc k) (list is c)) run out h = absurd h
none_one (list is c) run out h = absurd h

-- the parts of a cut that begins with a list
record KeptParts (c2 : Cut) (m : ℕ) (js : Items) (d : Cut) (run out : List Token) : Type 0 where
  k : ℕ
  is : Items
  c : Cut
  same : c2 ≡ keep (suc k) (list is c)
  mark : IsMark is_open run out k m
  items : ItemsStand is js (drop (suc k) run) (drop (suc m) out)
  rest : MarksStand c d (drop (span_of is) (drop (suc k) run)) (drop (span_of js) (drop (suc m) out))

kept_parts : (c2 : Cut) (m : ℕ) (js : Items) (d : Cut) (run out : List Token) → MarksStand c2 (keep (suc m) (list js d)) run out → KeptParts c2 m js d run out
kept_parts done m js d run out h = absurd h
kept_parts (keep zero c) m js d run out h = absurd h
kept_parts (keep (suc k) done) m js d run out h = absurd h
kept_parts (keep (suc k) (keep n c)) m js d run out h = absurd h
kept_parts (keep (suc k) (list is c)) m js d run out h = record { k = k; is = is; c = c; same = refl; mark = h.0; items = h.2; rest = h.3 }
kept_parts (list is c) m js d run out h = absurd h

ended_one : (is : Items) (run out : List Token) → ItemsStand is ended run out → is ≡ ended
ended_one ended run out h = refl
ended_one (item n c gap more) run out h = absurd h

-- the parts of items
record ItemParts (is2 : Items) (m : ℕ) (d : Cut) (gap2 : ℕ) (more2 : Items) (run out : List Token) : Type 0 where
  n : ℕ
  c : Cut
  gap : ℕ
  more : Items
  same : is2 ≡ item n c gap more
  first : MarksStand c d (take n run) (take m out)
  ends : EndsItem more more2 gap gap2 run out n m
  rest : ItemsStand more more2 (drop (n + gap) run) (drop (m + gap2) out)

item_parts : (is2 : Items) (m : ℕ) (d : Cut) (gap2 : ℕ) (more2 : Items) (run out : List Token) → ItemsStand is2 (item m d gap2 more2) run out → ItemParts is2 m d gap2 more2 run out
item_parts ended m d gap2 more2 run out h = absurd h
item_parts (item n c gap more) m d gap2 more2 run out h = record { n = n; c = c; gap = gap; more = more; same = refl; first = h.0; ends = h.1; rest = h.2 }

ends_one : (more more3 more2 : Items) (gap gap3 gap2 : ℕ) (run out : List Token) (n n3 m : ℕ) → AreDistinct run → EndsItem more more2 gap gap2 run out n m → EndsItem more3 more2 gap3 gap2 run out n3 m
    → (n ≡ n3) × (gap ≡ gap3)
ends_one ended ended ended gap gap3 gap2 run out n n3 m dis a b = (place_one is_close run out n n3 m dis a.2 b.2, a.0 ∙ sym b.0)
ends_one ended (item n5 c5 g5 r5) ended gap gap3 gap2 run out n n3 m dis a b = absurd b
ends_one ended ended (item n4 c4 g4 r4) gap gap3 gap2 run out n n3 m dis a b = absurd a
ends_one ended (item n5 c5 g5 r5) (item n4 c4 g4 r4) gap gap3 gap2 run out n n3 m dis a b = absurd a
ends_one (item n6 c6 g6 r6) ended ended gap gap3 gap2 run out n n3 m dis a b = absurd a
ends_one (item n6 c6 g6 r6) (item n5 c5 g5 r5) ended gap gap3 gap2 run out n n3 m dis a b = absurd a
ends_one (item n6 c6 g6 r6) ended (item n4 c4 g4 r4) gap gap3 gap2 run out n n3 m dis a b = absurd b
ends_one (item n6 c6 g6 r6) (item n5 c5 g5 r5) (item n4 c4 g4 r4) gap gap3 gap2 run out n n3 m dis a b = (place_one is_comma run out n n3 m dis a.2 b.2, a.0 ∙ sym b.0)

mutual
  cut_one : (c c2 d : Cut) (run out : List Token) → AreDistinct run → MarksStand c d run out → MarksStand c2 d run out → c ≡ c2
  cut_one done c2 done run out dis s t = sym (none_one c2 run out t)
  cut_one (keep (suc k) (list is c)) c2 (keep (suc m) (list js d)) run out dis s t =
      let p = kept_parts c2 m js d run out t in
      let k_is : k ≡ p.k = place_one is_open run out k p.k m dis s.0 p.mark in
      let there : ItemsStand p.is js (drop (suc k) run) (drop (suc m) out) = subst (λ (i : ℕ). ItemsStand p.is js (drop (suc i) run) (drop (suc m) out)) (sym k_is) p.items in
      let is_is : is ≡ p.is = items_one is p.is js (drop (suc k) run) (drop (suc m) out) (distinct_drop (suc k) run dis) s.2 there in
      let rest1 : MarksStand p.c d (drop (span_of p.is) (drop (suc k) run)) (drop (span_of js) (drop (suc m) out)) =
      subst (λ (i : ℕ). MarksStand p.c d (drop (span_of p.is) (drop (suc i) run)) (drop (span_of js) (drop (suc m) out))) (sym k_is) p.rest in
      let rest2 : MarksStand p.c d (drop (span_of is) (drop (suc k) run)) (drop (span_of js) (drop (suc m) out)) =
      subst (λ (i : Items). MarksStand p.c d (drop (span_of i) (drop (suc k) run)) (drop (span_of js) (drop (suc m) out))) (sym is_is) rest1 in
      let c_is : c ≡ p.c = cut_one c p.c d (drop (span_of is) (drop (suc k) run)) (drop (span_of js) (drop (suc m) out)) (distinct_drop (span_of is) (drop (suc k) run) (distinct_drop (suc k) run dis)) s.3 rest2 in
      ap (λ (i : ℕ). keep (suc i) (list is c)) k_is ∙ ap (λ (i : Items). keep (suc p.k) (list i c)) is_is ∙ ap (λ (x : Cut). keep (suc p.k) (list p.is x)) c_is ∙ sym p.same
  cut_one c c2 d run out dis s t = absurd s

  items_one : (is is2 js : Items) (run out : List Token) → AreDistinct run → ItemsStand is js run out → ItemsStand is2 js run out → is ≡ is2
  items_one ended is2 ended run out dis s t = sym (ended_one is2 run out t)
  items_one (item n c gap more) is2 (item m d gap2 more2) run out dis s t =
      let p = item_parts is2 m d gap2 more2 run out t in
      let e = ends_one more p.more more2 gap p.gap gap2 run out n p.n m dis s.1 p.ends in
      let first : MarksStand p.c d (take n run) (take m out) = subst (λ (i : ℕ). MarksStand p.c d (take i run) (take m out)) (sym e.0) p.first in
      let c_is : c ≡ p.c = cut_one c p.c d (take n run) (take m out) (distinct_take n run dis) s.0 first in
      let rest1 : ItemsStand p.more more2 (drop (n + p.gap) run) (drop (m + gap2) out) = subst (λ (i : ℕ). ItemsStand p.more more2 (drop (i + p.gap) run) (drop (m + gap2) out)) (sym e.0) p.rest in
      let rest2 : ItemsStand p.more more2 (drop (n + gap) run) (drop (m + gap2) out) = subst (λ (i : ℕ). ItemsStand p.more more2 (drop (n + i) run) (drop (m + gap2) out)) (sym e.1) rest1 in
      let more_is : more ≡ p.more = items_one more p.more more2 (drop (n + gap) run) (drop (m + gap2) out) (distinct_drop (n + gap) run dis) s.2 rest2 in
      ap (λ (i : ℕ). item i c gap more) e.0 ∙ ap (λ (x : Cut). item p.n x gap more) c_is ∙ ap (λ (i : ℕ). item p.n p.c i more) e.1 ∙ ap (λ (x : Items). item p.n p.c p.gap x) more_is ∙ sym p.same
  items_one is is2 js run out dis s t = absurd s

pub cuts_are_one : CutsAreOne
cuts_are_one = λ c c2 d run out dis s t. cut_one c c2 d run out dis s t
