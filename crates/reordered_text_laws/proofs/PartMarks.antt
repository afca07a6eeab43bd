-- The marks of a part of a cut, and lists of marks in order.
use Rattle.std.proofs.Common.{◌≡◌, ℕ, zero, suc, ◌+◌, ◌-◌, ◌<◌, ◌≤◌, ◌⊎◌, inl, inr, Bool, true, false, ◌&&◌, ◌||◌, List, [], ◌∷◌, ◌++◌, map, refl, ap, sym, subst, ◌∙◌, arith}
use Rattle.std.specs.Prelude.{nat_le}
use Rattle.std.proofs.lemmas.Bool.{leb-false}
use Rattle.std.proofs.lemmas.List.{map-append}
use Rattle.list_cuts.specs.Cuts.{Cut, done, keep, list, Items, ended, item, span_of}
use Rattle.list_cuts.specs.CutOf.{front, back}
use Rattle.expansion_laws.specs.Arranging.{in_lists}
use Rattle.reordered_text_laws.specs.Marks.{ends_of, marks_of, marks_in, first_of, last_of, IsMarked, AreMarked, Each, AreOfList, StandBy, AreNested}
use Rattle.reordered_text_laws.specs.MarkedCuts.{IsBeside}
use Rattle.reordered_text_laws.proofs.EachLemmas.{each_map, each_join, each_later}
use Rattle.reordered_text_laws.proofs.MarkLemmas.{Within, items_last, cut_within, items_within}
use Rattle.reordered_text_laws.proofs.SplitLemmas.{marked_cuts_split}
use Rattle.reordered_text_laws.proofs.OfLemmas.{behind_mark as by_first}
use Rattle.reordered_text_laws.specs.Trees.{IsAmong}

-- ---- marks from another element on

abbrev pub later_by : ℕ → List ℕ → List ℕ
later_by p ms = map (λ m. p + m) ms

ends_shift : (p at : ℕ) (is : Items) → ends_of (p + at) is ≡ later_by p (ends_of at is)
unfolding ends_of
ends_shift p at ended = refl
ends_shift p at (item n c gap more) =
    let here : p + at + n ≡ p + (at + n) = omega arith in
    let next : p + at + (n + gap) ≡ p + (at + (n + gap)) = omega arith in
    ap (λ (i : ℕ). i ∷ ends_of (p + at + (n + gap)) more) here ∙ ap (λ (i : ℕ). (p + (at + n)) ∷ ends_of i more) next ∙ ap (λ (ms : List ℕ). (p + (at + n)) ∷ ms) (ends_shift p (at + (n + gap)) more)

mutual
  unfolding marks_of marks_in span_of

  pub marks_shift : (p from at limit : ℕ) (c : Cut) → IsMarked from at limit c → marks_of (p + at) c ≡ map (later_by p) (marks_of at c)
  marks_shift p from at limit done w = refl
  marks_shift p from at limit (keep (suc k) (list is c)) w =
      let place : p + at + suc k ≡ p + (at + suc k) = omega arith in
      let less : p + (at + suc k) - 1 ≡ p + (at + suc k - 1) = omega arith in
      let far : p + (at + suc k) + span_of is ≡ p + (at + suc k + span_of is) = omega arith in
      ap (λ (i : ℕ). marks_of i (list is c)) place
      ∙ ap (λ (i : ℕ). (i ∷ ends_of (p + (at + suc k)) is) ∷ (marks_in (p + (at + suc k)) is ++ marks_of (p + (at + suc k) + span_of is) c)) less
      ∙ ap (λ (ms : List ℕ). ((p + (at + suc k - 1)) ∷ ms) ∷ (marks_in (p + (at + suc k)) is ++ marks_of (p + (at + suc k) + span_of is) c)) (ends_shift p (at + suc k) is)
      ∙ ap (λ (ls : List (List ℕ)). later_by p ((at + suc k - 1) ∷ ends_of (at + suc k) is) ∷ (ls ++ marks_of (p + (at + suc k) + span_of is) c)) (items_shift p (at + suc k) is w.2)
      ∙ ap (λ (i : ℕ). later_by p ((at + suc k - 1) ∷ ends_of (at + suc k) is) ∷ (map (later_by p) (marks_in (at + suc k) is) ++ marks_of i c)) far
      ∙ ap (λ (ls : List (List ℕ)). later_by p ((at + suc k - 1) ∷ ends_of (at + suc k) is) ∷ (map (later_by p) (marks_in (at + suc k) is) ++ ls))
      (marks_shift p (at + suc k + span_of is + 1) (at + suc k + span_of is) limit c w.4)
      ∙ ap (λ (ls : List (List ℕ)). later_by p ((at + suc k - 1) ∷ ends_of (at + suc k) is) ∷ ls) (sym (map-append (later_by p) (marks_in (at + suc k) is) (marks_of (at + suc k + span_of is) c)))
  marks_shift p from at limit (keep zero c) w = absurd w
  marks_shift p from at limit (keep (suc k) done) w = absurd w
  marks_shift p from at limit (keep (suc k) (keep m c)) w = absurd w
  marks_shift p from at limit (list is c) w = absurd w

  items_shift : (p at : ℕ) (is : Items) → AreMarked at is → marks_in (p + at) is ≡ map (later_by p) (marks_in at is)
  items_shift p at ended w = refl
  items_shift p at (item n c gap more) w =
      let next : p + at + (n + gap) ≡ p + (at + (n + gap)) = omega arith in
      ap (λ (ls : List (List ℕ)). ls ++ marks_in (p + at + (n + gap)) more) (marks_shift p at at (at + n) c w.0)
      ∙ ap (λ (i : ℕ). map (later_by p) (marks_of at c) ++ marks_in i more) next
      ∙ ap (λ (ls : List (List ℕ)). map (later_by p) (marks_of at c) ++ ls) (items_shift p (at + (n + gap)) more w.2)
      ∙ sym (map-append (later_by p) (marks_of at c) (marks_in (at + (n + gap)) more))

mutual
  unfolding span_of

  marked_down : (p from at limit from2 at2 limit2 : ℕ) (c : Cut) → from2 ≡ p + from → at2 ≡ p + at → limit2 ≡ p + limit → IsMarked from2 at2 limit2 c → IsMarked from at limit c
  marked_down p from at limit from2 at2 limit2 done a b e w = tt
  marked_down p from at limit from2 at2 limit2 (keep (suc k) (list is c)) a b e w =
      let low = w.0 in
      let high = w.3 in (
        omega (arith, low, a, b),
        w.1,
        are_down p (at + suc k) (at2 + suc k) is (omega (arith, b)) w.2,
        omega (arith, high, b, e),
        marked_down p (at + suc k + span_of is + 1) (at + suc k + span_of is) limit (at2 + suc k + span_of is + 1) (at2 + suc k + span_of is) limit2 c (omega (arith, b)) (omega (arith, b)) e w.4,
      )
  marked_down p from at limit from2 at2 limit2 (keep zero c) a b e w = absurd w
  marked_down p from at limit from2 at2 limit2 (keep (suc k) done) a b e w = absurd w
  marked_down p from at limit from2 at2 limit2 (keep (suc k) (keep m c)) a b e w = absurd w
  marked_down p from at limit from2 at2 limit2 (list is c) a b e w = absurd w

  are_down : (p at at2 : ℕ) (is : Items) → at2 ≡ p + at → AreMarked at2 is → AreMarked at is
  are_down p at at2 ended b w = tt
  are_down p at at2 (item n c gap more) b w =
      (marked_down p at at (at + n) at2 at2 (at2 + n) c b b (omega (arith, b)) w.0, w.1, are_down p (at + (n + gap)) (at2 + (n + gap)) more (omega (arith, b)) w.2)

-- ---- no list goes on

-- where no list stands, each stands on one side
pub beside_of : (from at limit p : ℕ) (c : Cut) → IsMarked from at limit c → in_lists at c p ≡ false → Each (IsBeside p) (marks_of at c)
unfolding marks_of in_lists
beside_of from at limit p done w h = tt
beside_of from at limit p (keep (suc k) (list is c)) w h =
    let last = items_last (at + suc k - 1) (at + suc k) is w.1 w.2 in
    let parts = neither (nat_le (at + suc k) p && nat_le p (at + suc k + span_of is)) (in_lists (at + suc k + span_of is) c p) h in
    let inner = items_within (at + suc k) is w.2 in
    let rest = beside_of (at + suc k + span_of is + 1) (at + suc k + span_of is) limit p c w.4 parts.1 in
    elim (outside (at + suc k) (at + suc k + span_of is) p parts.0) [
      | inl before ↦ (
        inr (omega (arith, before)),
        each_join (IsBeside p) (marks_in (at + suc k) is) (marks_of (at + suc k + span_of is) c)
            (each_map (Within (at + suc k) (at + suc k + span_of is)) (IsBeside p) (marks_in (at + suc k) is) (λ l v. let a = v.from in inr (omega (arith, a, before))) inner) rest,
      )
      | inr after ↦ (
        inl (omega (arith, last, after)),
        each_join (IsBeside p) (marks_in (at + suc k) is) (marks_of (at + suc k + span_of is) c)
            (each_map (Within (at + suc k) (at + suc k + span_of is)) (IsBeside p) (marks_in (at + suc k) is) (λ l v. let a = v.before in inl (omega (arith, a, after))) inner) rest,
      )
    ]
  where
    neither : (a b : Bool) → (a || b) ≡ false → (a ≡ false) × (b ≡ false)
    neither true b e = absurd (cc)
    neither false b e = (refl, e)

    outside : (low high p : ℕ) → (nat_le low p && nat_le p high) ≡ false → (p < low) ⊎ (high < p)
    outside low high p e = by (nat_le low p) refl (nat_le p high) refl e
      where
        by : (a : Bool) → nat_le low p ≡ a → (b : Bool) → nat_le p high ≡ b → (a && b) ≡ false → (p < low) ⊎ (high < p)
        by false x b y f = inl (leb-false low p x)
        by true x false y f = inr (leb-false p high y)
        by true x true y f = absurd (cc)
beside_of from at limit p c w h = absurd w

-- ---- a part

-- The lists of the part of a cut: those that stand between two elements.
pub record HasPart (limit b n : ℕ) (c : Cut) : Type 0 where
  pub first : List (List ℕ)
  pub last : List (List ℕ)
  pub marks : marks_of 0 c ≡ first ++ (map (later_by b) (marks_of 0 (front n (back b c))) ++ last)
  pub before : Each (λ l. last_of l < b) first
  pub behind : Each (λ l. b + n ≤ first_of l) last
  pub marked : IsMarked 0 0 n (front n (back b c))

pub part_marks : (limit b n : ℕ) (c : Cut) → IsMarked 0 0 limit c → Each (IsBeside b) (marks_of 0 c) → Each (IsBeside (b + n)) (marks_of 0 c) → HasPart limit b n c
part_marks limit b n c w one two =
    let none : b - 0 ≡ b = omega arith in
    let some : b + n - b ≡ n = omega arith in
    let zero_ : b + 0 ≡ b = omega arith in
    let s = marked_cuts_split 0 0 limit b c w (omega arith) one in
    let d : Cut = back b c in
    let marks1 : marks_of 0 c ≡ marks_of 0 (front b c) ++ marks_of b d = s.marks ∙ ap (λ (i : ℕ). marks_of 0 (front i c) ++ marks_of b (back i c)) none in
    let second : IsMarked b b limit d = subst (λ (i : ℕ). IsMarked b b limit (back i c)) none s.second in
    let front_marked : IsMarked 0 0 b (front b c) = subst (λ (i : ℕ). IsMarked 0 0 b (front i c)) none s.first in
    let two2 = each_later (IsBeside (b + n)) (marks_of 0 (front b c)) (marks_of b d) (subst (λ (ls : List (List ℕ)). Each (IsBeside (b + n)) ls) marks1 two) in
    let t = marked_cuts_split b b limit (b + n) d second (omega arith) two2 in
    let marks2 : marks_of b d ≡ marks_of b (front n d) ++ marks_of (b + n) (back n d) = t.marks ∙ ap (λ (i : ℕ). marks_of b (front i d) ++ marks_of (b + n) (back i d)) some in
    let middle : IsMarked b b (b + n) (front n d) = subst (λ (i : ℕ). IsMarked b b (b + n) (front i d)) some t.first in
    let third : IsMarked (b + n) (b + n) limit (back n d) = subst (λ (i : ℕ). IsMarked (b + n) (b + n) limit (back i d)) some t.second in
    let own : IsMarked 0 0 n (front n d) = marked_down b 0 0 n b b (b + n) (front n d) (omega arith) (omega arith) refl middle in
    let moved : marks_of b (front n d) ≡ map (later_by b) (marks_of 0 (front n d)) = ap (λ (i : ℕ). marks_of i (front n d)) (sym zero_) ∙ marks_shift b 0 0 n (front n d) own in
    record {
      first = marks_of 0 (front b c);
      last = marks_of (b + n) (back n d);
      marks =
          marks1 ∙ ap (λ (ls : List (List ℕ)). marks_of 0 (front b c) ++ ls) (marks2 ∙ ap (λ (ls : List (List ℕ)). ls ++ marks_of (b + n) (back n d)) moved);
      before = each_map (Within 0 b) (λ l. last_of l < b) (marks_of 0 (front b c)) (λ l v. v.before) (cut_within 0 0 b (front b c) front_marked);
      behind = each_map (Within (b + n) limit) (λ l. b + n ≤ first_of l) (marks_of (b + n) (back n d)) (λ l v. v.from) (cut_within (b + n) (b + n) limit (back n d) third);
      marked = own;
    }

-- ---- lists of marks in order

abbrev pub Rises : List (List ℕ) → Type 0
Rises [] = Unit {0}
Rises (l ∷ ls) = Each (λ m. first_of l < first_of m) ls × Rises ls

first_before : (limit : ℕ) (l other : List ℕ) → AreOfList limit l → StandBy l other → first_of l < first_of other
first_before limit [] other is h = absurd h
first_before limit (m ∷ []) other is h = absurd is
first_before limit (m ∷ k ∷ ms) other is h = by_first m (k ∷ ms) other is.0 h

pub rises_of : (limit : ℕ) (ls : List (List ℕ)) → Each (AreOfList limit) ls → AreNested ls → Rises ls
rises_of limit [] each nested = tt
rises_of limit (l ∷ ls) each nested = (each_map (StandBy l) (λ m. first_of l < first_of m) ls (λ m h. first_before limit l m each.0 h) nested.0, rises_of limit ls each.1 nested.1)

pub each_among : {X : Type 0} (P : X → Type 0) (xs : List X) (x : X) → Each P xs → IsAmong xs x → P x
each_among P [] x h i = absurd i
each_among P (y ∷ xs) x h (inl e) = subst P e h.0
each_among P (y ∷ xs) x h (inr i) = each_among P xs x h.1 i

-- two lists in order with the same members are one
pub same_lists : (xs ys : List (List ℕ)) → Rises xs → Rises ys → ((t : List ℕ) → IsAmong xs t → IsAmong ys t) → ((t : List ℕ) → IsAmong ys t → IsAmong xs t) → xs ≡ ys
same_lists [] [] a b f g = refl
same_lists [] (y ∷ ys) a b f g = absurd (g y (inl refl))
same_lists (x ∷ xs) [] a b f g = absurd (f x (inl refl))
same_lists (x ∷ xs) (y ∷ ys) a b f g =
    let same : x ≡ y = first (f x (inl refl)) (g y (inl refl)) in
    let rest = same_lists xs ys a.1 b.1 (λ t i. left t i (f t (inr i))) (λ t i. right t i (g t (inr i))) in
    ap (λ (z : List ℕ). z ∷ xs) same ∙ ap (λ (zs : List (List ℕ)). y ∷ zs) rest
  where
    first : IsAmong (y ∷ ys) x → IsAmong (x ∷ xs) y → x ≡ y
    first (inl e) j = sym e
    first (inr i) (inl e) = e
    first (inr i) (inr j) =
        let p = each_among (λ m. first_of y < first_of m) ys x b.0 i in
        let q = each_among (λ m. first_of x < first_of m) xs y a.0 j in
        absurd (omega (arith, p, q))

    left : (t : List ℕ) → IsAmong xs t → IsAmong (y ∷ ys) t → IsAmong ys t
    left t i (inl e) =
        let p = each_among (λ m. first_of x < first_of m) xs t a.0 i in
        let same = ap first_of (first (f x (inl refl)) (g y (inl refl))) in
        let other = ap first_of e in
        absurd (omega (arith, p, same, other))
    left t i (inr j) = j

    right : (t : List ℕ) → IsAmong ys t → IsAmong (x ∷ xs) t → IsAmong xs t
    right t i (inl e) =
        let p = each_among (λ m. first_of y < first_of m) ys t b.0 i in
        let same = ap first_of (first (f x (inl refl)) (g y (inl refl))) in
        let other = ap first_of e in
        absurd (omega (arith, p, same, other))
    right t i (inr j) = j

-- of two with one first mark
pub one_first : (xs : List (List ℕ)) → Rises xs → (s t : List ℕ) → IsAmong xs s → IsAmong xs t → first_of s ≡ first_of t → s ≡ t
one_first [] h s t i j e = absurd i
one_first (x ∷ xs) h s t (inl a) (inl b) e = sym a ∙ b
one_first (x ∷ xs) h s t (inl a) (inr j) e =
    let p = each_among (λ m. first_of x < first_of m) xs t h.0 j in
    let q = ap first_of a in
    absurd (omega (arith, p, q, e))
one_first (x ∷ xs) h s t (inr i) (inl b) e =
    let p = each_among (λ m. first_of x < first_of m) xs s h.0 i in
    let q = ap first_of b in
    absurd (omega (arith, p, q, e))
one_first (x ∷ xs) h s t (inr i) (inr j) e = one_first xs h.1 s t i j e
