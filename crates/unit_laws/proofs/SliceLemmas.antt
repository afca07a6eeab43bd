-- Tokens that stand for others do so in each part of a cut.
use Rattle.std.proofs.Common.{◌≡◌, ℕ, suc, ◌+◌, ◌-◌, ◌≤◌, Bool, true, false, cond, List, [], ◌++◌, length, take, drop, refl, ap, sym, subst, ◌∙◌, arith, take-append-drop, length-drop, length-take-le}
use Rattle.std.specs.Prelude.{nat_le, ◌==◌, ◌||◌}
use Rattle.std.proofs.lemmas.Bool.{leb-true, leb-false, eqb-true}
use Rattle.std.proofs.lemmas.List.{nil_from_length, drop-drop, drop-take, take-take, take-append-le}
use Rattle.std.proofs.Math.Seq.{take-length, drop-append-add}
use Rattle.cs_base.specs.Token.{Token}
use Rattle.list_cuts.specs.Cuts.{Cut, done, keep, list, Items, ended, item, span_of, IsOrder, arranged, AreOf}
use Rattle.list_cuts.specs.CutOf.{front, back, is_between, is_free}
use Rattle.list_cuts.proofs.CutLemmas.{length-arranged}
use Rattle.expansion_laws.specs.Arranging.{labels, IsLike, AreLike, StandFor, MarksStand, ItemsStand}
use Rattle.unit_laws.specs.Files.{still, IsLoose, AreLoose, StandsFor}
use Rattle.unit_laws.proofs.ReorderedPartLemmas.{or_false, of_front, behind, falls}
use Rattle.unit_laws.proofs.ReorderedUnitLemmas.{of_back, arranged_none}

-- ---- what is behind

drop_short : {X : Type 0} (b k : ℕ) (xs : List X) → k ≤ b → drop (b - k) (drop k xs) ≡ drop b xs
drop_short b k xs le = let same : k + (b - k) ≡ b = omega (arith, le) in drop-drop (b - k) k xs ∙ ap (λ (i : ℕ). drop i xs) same

drop_long : {X : Type 0} (b k : ℕ) (xs : List X) → b ≤ k → drop (k - b) (drop b xs) ≡ drop k xs
drop_long b k xs le = let same : b + (k - b) ≡ k = omega (arith, le) in drop-drop (k - b) b xs ∙ ap (λ (i : ℕ). drop i xs) same

take_drop : {X : Type 0} (b k : ℕ) (xs : List X) → b ≤ k → take (k - b) (drop b xs) ≡ drop b (take k xs)
take_drop b k xs le = let same : b + (k - b) ≡ k = omega (arith, le) in sym (drop-take b (k - b) xs) ∙ ap (λ (i : ℕ). drop b (take i xs)) same

keep_back : (b k : ℕ) (c : Cut) (new run : List Token) → (is_between (b - k) c ≡ true → StandsFor (back (b - k) c) (drop (b - k) (drop k new)) (drop (b - k) (drop k run)))
    → take k new ≡ take k run → StandsFor c (drop k new) (drop k run) → (nat_le b k || is_between (b - k) c) ≡ true → (x : Bool) → nat_le b k ≡ x
    → StandsFor (cond x (keep (k - b) c) (back (b - k) c)) (drop b new) (drop b run)
keep_back b k c new run later first rest h true x_is =
    let le : b ≤ k = leb-true b k x_is in (
      take_drop b k new le ∙ ap (drop b) first ∙ sym (take_drop b k run le),
      subst (λ (l : List Token). StandsFor c l (drop (k - b) (drop b run))) (sym (drop_long b k new le)) (subst (λ (l : List Token). StandsFor c (drop k new) l) (sym (drop_long b k run le)) rest),
    )
keep_back b k c new run later first rest h false x_is =
    let lt = leb-false b k x_is in
    let le : k ≤ b = omega (arith, lt) in
    subst (λ (l : List Token). StandsFor (back (b - k) c) l (drop b run)) (drop_short b k new le)
    (subst (λ (l : List Token). StandsFor (back (b - k) c) (drop (b - k) (drop k new)) l) (drop_short b k run le) (later (or_false (nat_le b k) (is_between (b - k) c) x_is h)))

list_back : (b : ℕ) (is : Items) (c : Cut) (new run : List Token)
    → (is_between (b - span_of is) c ≡ true → StandsFor (back (b - span_of is) c) (drop (b - span_of is) (drop (span_of is) new)) (drop (b - span_of is) (drop (span_of is) run)))
    → StandsFor (list is c) new run → (x : Bool) → nat_le (span_of is) b ≡ x → cond x (is_between (b - span_of is) c) (b == 0) ≡ true
    → StandsFor (cond x (back (b - span_of is) c) (list is c)) (drop b new) (drop b run)
list_back b is c new run later h true x_is e =
    let le : span_of is ≤ b = leb-true (span_of is) b x_is in
    subst (λ (l : List Token). StandsFor (back (b - span_of is) c) l (drop b run)) (drop_short b (span_of is) new le)
    (subst (λ (l : List Token). StandsFor (back (b - span_of is) c) (drop (b - span_of is) (drop (span_of is) new)) l) (drop_short b (span_of is) run le) (later e))
list_back b is c new run later h false x_is e =
    let none : b ≡ 0 = eqb-true b 0 e in
    subst (λ (i : ℕ). StandsFor (list is c) (drop i new) (drop i run)) (sym none) h

pub stands_back : (b : ℕ) (c : Cut) (new run : List Token) → is_between b c ≡ true → StandsFor c new run → StandsFor (back b c) (drop b new) (drop b run)
unfolding back is_between
stands_back b done new run h s = ap (drop b) s
stands_back b (keep k c) new run h s =
    keep_back b k c new run (λ e. stands_back (b - k) c (drop k new) (drop k run) e s.1) s.0 s.1 h (nat_le b k) refl
stands_back b (list is c) new run h s =
    list_back b is c new run (λ e. stands_back (b - span_of is) c (drop (span_of is) new) (drop (span_of is) run) e s.1) s (nat_le (span_of is) b) refl h

-- ---- what is in front

drop_front : {X : Type 0} (n k : ℕ) (xs : List X) → k ≤ n → drop k (take n xs) ≡ take (n - k) (drop k xs)
drop_front n k xs le = let same : n ≡ k + (n - k) = omega (arith, le) in ap (λ (i : ℕ). drop k (take i xs)) same ∙ drop-take k (n - k) xs

take_front : {X : Type 0} (n k m : ℕ) (xs : List X) → k + m ≤ n → take m (drop k (take n xs)) ≡ take m (drop k xs)
take_front n k m xs le = ap (take m) (drop_front n k xs (omega (arith, le))) ∙ take-take m (n - k) (drop k xs) (omega (arith, le))

like_take : (loose : Bool) (is : Items) (new run : List Token) (n : ℕ) → span_of is ≤ n → AreLoose loose is new run → AreLoose loose is (take n new) (take n run)
unfolding span_of
like_take loose ended new run n le h = tt
like_take loose (item m d gap more) new run n le h =
    let far : m + gap ≤ n = omega (arith, le) in
    let first : (xs : List Token) → take m (take n xs) ≡ take m xs = λ xs. take-take m n xs (omega (arith, le)) in (
      subst (λ (l : List Token). IsLoose true d l (take m (take n run))) (sym (first new)) (subst (λ (l : List Token). IsLoose true d (take m new) l) (sym (first run)) h.0),
      ap (labels (still loose m)) (take_front n m gap new far) ∙ h.1 ∙ sym (ap (labels (still loose m)) (take_front n m gap run far)),
      subst (λ (l : List Token). AreLoose (still (still loose m) gap) more l (drop (m + gap) (take n run))) (sym (drop_front n (m + gap) new far))
          (subst (λ (l : List Token). AreLoose (still (still loose m) gap) more (take (n - (m + gap)) (drop (m + gap) new)) l) (sym (drop_front n (m + gap) run far))
          (like_take (still (still loose m) gap) more (drop (m + gap) new) (drop (m + gap) run) (n - (m + gap)) (omega (arith, le)) h.2)),
    )

keep_front : (n k : ℕ) (c : Cut) (new run : List Token) → (is_between (n - k) c ≡ true → StandsFor (front (n - k) c) (take (n - k) (drop k new)) (take (n - k) (drop k run)))
    → take k new ≡ take k run → (nat_le n k || is_between (n - k) c) ≡ true → (x : Bool) → nat_le n k ≡ x
    → StandsFor (cond x done (keep k (front (n - k) c))) (take n new) (take n run)
keep_front n k c new run later first h true x_is =
    let le : n ≤ k = leb-true n k x_is in
    sym (take-take n k new le) ∙ ap (take n) first ∙ take-take n k run le
keep_front n k c new run later first h false x_is =
    let lt = leb-false n k x_is in
    let le : k ≤ n = omega (arith, lt) in (
      take-take k n new le ∙ first ∙ sym (take-take k n run le),
      subst (λ (l : List Token). StandsFor (front (n - k) c) l (drop k (take n run))) (sym (drop_front n k new le))
          (subst (λ (l : List Token). StandsFor (front (n - k) c) (take (n - k) (drop k new)) l) (sym (drop_front n k run le)) (later (or_false (nat_le n k) (is_between (n - k) c) x_is h))),
    )

list_front : (n : ℕ) (is : Items) (c : Cut) (new run : List Token)
    → (is_between (n - span_of is) c ≡ true → StandsFor (front (n - span_of is) c) (take (n - span_of is) (drop (span_of is) new)) (take (n - span_of is) (drop (span_of is) run)))
    → AreLoose false is new run → (x : Bool) → nat_le (span_of is) n ≡ x → cond x (is_between (n - span_of is) c) (n == 0) ≡ true
    → StandsFor (cond x (list is (front (n - span_of is) c)) done) (take n new) (take n run)
list_front n is c new run later like true x_is e =
    let le : span_of is ≤ n = leb-true (span_of is) n x_is in (
      like_take false is new run n le like,
      subst (λ (l : List Token). StandsFor (front (n - span_of is) c) l (drop (span_of is) (take n run))) (sym (drop_front n (span_of is) new le))
          (subst (λ (l : List Token). StandsFor (front (n - span_of is) c) (take (n - span_of is) (drop (span_of is) new)) l) (sym (drop_front n (span_of is) run le)) (later e)),
    )
list_front n is c new run later like false x_is e =
    let none : n ≡ 0 = eqb-true n 0 e in
    ap (λ (i : ℕ). take i new) none ∙ sym (ap (λ (i : ℕ). take i run) none)

pub stands_front : (n : ℕ) (c : Cut) (new run : List Token) → is_between n c ≡ true → StandsFor c new run → StandsFor (front n c) (take n new) (take n run)
unfolding front is_between
stands_front n done new run h s = ap (take n) s
stands_front n (keep k c) new run h s =
    keep_front n k c new run (λ e. stands_front (n - k) c (drop k new) (drop k run) e s.1) s.0 h (nat_le n k) refl
stands_front n (list is c) new run h s =
    list_front n is c new run (λ e. stands_front (n - span_of is) c (drop (span_of is) new) (drop (span_of is) run) e s.1) s.0 (nat_le (span_of is) n) refl h

-- ---- parts without lists

-- so many stay where no list stands among them
free_stays : {X : Type 0} (n : ℕ) (order : List ℕ) (m : ℕ) (c : Cut) (xs : List X) → IsOrder n order → AreOf n c → is_free m c ≡ true → length xs ≡ m → arranged order (front m c) xs ≡ xs
unfolding front is_free arranged
free_stays n order m done xs is of h long = refl
free_stays n order m (keep k c) xs is of h long =
    by (λ e. free_stays n order (m - k) c (drop k xs) is of e (length-drop k xs ∙ ap (λ (i : ℕ). i - k) long)) (nat_le m k) refl
  where
    by : (is_free (m - k) c ≡ true → arranged order (front (m - k) c) (drop k xs) ≡ drop k xs) → (x : Bool) → nat_le m k ≡ x → arranged order (cond x done (keep k (front (m - k) c))) xs ≡ xs
    by later true e = refl
    by later false e = ap (λ (l : List _). take k xs ++ l) (later (or_false (nat_le m k) (is_free (m - k) c) e h)) ∙ take-append-drop k xs
free_stays n order m (list js c) xs is of h long =
    let none : xs ≡ [] = nil_from_length xs (long ∙ eqb-true m 0 h) in
    ap (arranged order (front m (list js c))) none ∙ arranged_none n order (front m (list js c)) is (of_front n m (list js c) of) ∙ sym none

free_same : (m : ℕ) (c : Cut) (new run : List Token) → is_free m c ≡ true → length new ≡ m → length run ≡ m → StandsFor (front m c) new run → new ≡ run
unfolding front is_free
free_same m done new run h long long2 s = s
free_same m (keep k c) new run h long long2 s =
    by (λ e st. free_same (m - k) c (drop k new) (drop k run) e (length-drop k new ∙ ap (λ (i : ℕ). i - k) long) (length-drop k run ∙ ap (λ (i : ℕ). i - k) long2) st) (nat_le m k) refl s
  where
    by : (is_free (m - k) c ≡ true → StandsFor (front (m - k) c) (drop k new) (drop k run) → drop k new ≡ drop k run) → (x : Bool) → nat_le m k ≡ x
        → StandsFor (cond x done (keep k (front (m - k) c))) new run → new ≡ run
    by later true e s = s
    by later false e s =
        sym (take-append-drop k new) ∙ ap (λ (l : List Token). l ++ drop k new) s.0
        ∙ ap (λ (l : List Token). take k run ++ l) (later (or_false (nat_le m k) (is_free (m - k) c) e h) s.1)
        ∙ take-append-drop k run
free_same m (list js c) new run h long long2 s =
    let none : m ≡ 0 = eqb-true m 0 h in
    nil_from_length new (long ∙ none) ∙ sym (nil_from_length run (long2 ∙ none))

-- ---- lists with marks

-- where a `(` stands before each list, white space may differ before the first token of each item alone
mutual
  is_like : (loose : Bool) (c d : Cut) (run out new ts : List Token) → MarksStand c d run out → IsLoose loose c new ts → IsLike loose c new ts
  is_like loose done done run out new ts m h = h
  is_like false (keep (suc k) (list is c)) (keep (suc n) (list js d)) run out new ts m h = (
    h.0,
    (
      are_like is js (drop (suc k) run) (drop (suc n) out) (drop (suc k) new) (drop (suc k) ts) m.2 h.1.0,
      is_like false c d (drop (span_of is) (drop (suc k) run)) (drop (span_of js) (drop (suc n) out)) (drop (span_of is) (drop (suc k) new)) (drop (span_of is) (drop (suc k) ts)) m.3 h.1.1,
    ),
  )
  is_like true (keep (suc k) (list is c)) (keep (suc n) (list js d)) run out new ts m h = (
    h.0,
    (
      are_like is js (drop (suc k) run) (drop (suc n) out) (drop (suc k) new) (drop (suc k) ts) m.2 h.1.0,
      is_like false c d (drop (span_of is) (drop (suc k) run)) (drop (span_of js) (drop (suc n) out)) (drop (span_of is) (drop (suc k) new)) (drop (span_of is) (drop (suc k) ts)) m.3 h.1.1,
    ),
  )
  is_like loose c d run out new ts m h = absurd m

  are_like : (is js : Items) (run out new ts : List Token) → ItemsStand is js run out → AreLoose false is new ts → AreLike is new ts
  are_like ended ended run out new ts m h = tt
  are_like (item n c gap more) (item n2 d gap2 more2) run out new ts m h = (
    is_like true c d (take n run) (take n2 out) (take n new) (take n ts) m.0 h.0,
    h.1,
    are_like more more2 (drop (n + gap) run) (drop (n2 + gap2) out) (drop (n + gap) new) (drop (n + gap) ts) m.2 h.2,
  )
  are_like is js run out new ts m h = absurd m

pub stand_for : (c d : Cut) (run out new ts : List Token) → MarksStand c d run out → StandsFor c new ts → StandFor c new ts
stand_for done done run out new ts m h = h
stand_for (keep (suc k) (list is c)) (keep (suc n) (list js d)) run out new ts m h = (
  h.0,
  (
    are_like is js (drop (suc k) run) (drop (suc n) out) (drop (suc k) new) (drop (suc k) ts) m.2 h.1.0,
    stand_for c d (drop (span_of is) (drop (suc k) run)) (drop (span_of js) (drop (suc n) out)) (drop (span_of is) (drop (suc k) new)) (drop (span_of is) (drop (suc k) ts)) m.3 h.1.1,
  ),
)
stand_for c d run out new ts m h = absurd m

-- ---- a part in the new order

-- so many elements behind so many others
part_falls : {X : Type 0} (n : ℕ) (order : List ℕ) (b m : ℕ) (c : Cut) (xs : List X) → IsOrder n order → AreOf n c → b + m ≤ length xs → is_between b c ≡ true → is_between m (back b c) ≡ true
    → take m (drop b (arranged order c xs)) ≡ arranged order (front m (back b c)) (take m (drop b xs))
part_falls {X} n order b m c xs is of within first second =
    let A : List X = take b xs in
    let B : List X = take m (drop b xs) in
    let C : List X = drop m (drop b xs) in
    let D : Cut = back b c in
    let small = length-drop b xs in
    let long : length A ≡ b = length-take-le b xs (omega (arith, within)) in
    let long2 : length B ≡ m = length-take-le m (drop b xs) (omega (arith, within, small)) in
    let one : arranged order c (A ++ drop b xs) ≡ arranged order (front b c) A ++ arranged order D (drop b xs) = falls order b c A (drop b xs) long first in
    let two : arranged order D (B ++ C) ≡ arranged order (front m D) B ++ arranged order (back m D) C = falls order m D B C long2 second in
    let size : length (arranged order (front b c) A) ≡ b = length-arranged n order (front b c) A is (of_front n b c of) ∙ long in
    let size2 : length (arranged order (front m D) B) ≡ m = length-arranged n order (front m D) B is (of_front n m D (of_back n b c of)) ∙ long2 in
    ap (λ (l : List X). take m (drop b (arranged order c l))) (sym (take-append-drop b xs))
    ∙ ap (λ (l : List X). take m (drop b l)) one
    ∙ ap (take m) (past b (arranged order (front b c) A) (arranged order D (drop b xs)) size)
    ∙ ap (λ (l : List X). take m (arranged order D l)) (sym (take-append-drop m (drop b xs)))
    ∙ ap (take m) two
    ∙ up_to m (arranged order (front m D) B) (arranged order (back m D) C) size2
  where
    past : (k : ℕ) (ys zs : List X) → length ys ≡ k → drop k (ys ++ zs) ≡ zs
    past k ys zs e = let same : k ≡ length ys + 0 = omega (arith, e) in ap (λ (i : ℕ). drop i (ys ++ zs)) same ∙ drop-append-add ys zs 0

    up_to : (k : ℕ) (ys zs : List X) → length ys ≡ k → take k (ys ++ zs) ≡ ys
    up_to k ys zs e = take-append-le k ys zs (omega (arith, e)) ∙ ap (λ (i : ℕ). take i ys) (sym e) ∙ take-length ys

-- What is so of a part in which no list goes on from one side to the other.
pub record PartStands (order : List ℕ) (b m : ℕ) (c : Cut) (new run : List Token) : Type 0 where
  pub stands : StandsFor (front m (back b c)) (take m (drop b new)) (take m (drop b run))
  pub falls : take m (drop b (arranged order c new)) ≡ arranged order (front m (back b c)) (take m (drop b new))
  pub free : is_free m (back b c) ≡ true → take m (drop b (arranged order c new)) ≡ take m (drop b run)

pub part_stands : (n : ℕ) (order : List ℕ) (b m : ℕ) (c : Cut) (new run : List Token) → IsOrder n order → AreOf n c → length new ≡ length run → b + m ≤ length run → is_between b c ≡ true
    → is_between (b + m) c ≡ true → StandsFor c new run → PartStands order b m c new run
part_stands n order b m c new run is of long within first last s =
    let second : is_between m (back b c) ≡ true = (behind b m c first).1 last in
    let st : StandsFor (front m (back b c)) (take m (drop b new)) (take m (drop b run)) = stands_front m (back b c) (drop b new) (drop b run) second (stands_back b c new run first s) in
    let small = length-drop b run in
    let small2 = length-drop b new in
    let size : length (take m (drop b run)) ≡ m = length-take-le m (drop b run) (omega (arith, within, small)) in
    let size2 : length (take m (drop b new)) ≡ m = length-take-le m (drop b new) (omega (arith, within, small2, long)) in
    let fall = part_falls n order b m c new is of (omega (arith, within, long)) first second in
    record {
      stands = st;
      falls = fall;
      free = λ f.
          fall ∙ free_stays n order m (back b c) (take m (drop b new)) is (of_back n b c of) f size2 ∙ free_same m (back b c) (take m (drop b new)) (take m (drop b run)) f size2 size st;
    }
