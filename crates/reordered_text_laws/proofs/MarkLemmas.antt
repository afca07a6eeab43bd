-- Where the marks of a cut stand.
use Rattle.std.proofs.Common.{◌≡◌, ℕ, zero, suc, ◌+◌, ◌-◌, ◌<◌, ◌≤◌, inl, inr, List, [], ◌∷◌, ◌++◌, arith}
use Rattle.list_cuts.specs.Cuts.{Cut, done, keep, list, Items, ended, item, count_of, span_of}
use Rattle.reordered_text_laws.specs.Marks.{ends_of, marks_of, marks_in, first_of, last_after, last_of, EndsWith, IsMarked, AreMarked, Each, StandFrom, AreOfList, StandBy, AreNested}
use Rattle.reordered_text_laws.specs.MarkedCuts.{MarkedCutsAreNested}
use Rattle.reordered_text_laws.proofs.EachLemmas.{each_map, each_join}

-- marks stand from one element on, before another
pub record Within (low high : ℕ) (l : List ℕ) : Type 0 where
  pub from : low ≤ first_of l
  pub some : first_of l < last_of l
  pub before : last_of l < high

pub wider : (low high low2 high2 : ℕ) → low2 ≤ low → high ≤ high2 → (l : List ℕ) → Within low high l → Within low2 high2 l
wider low high low2 high2 a b l w =
    let from = w.from in
    let before = w.before in
    record { from = omega (arith, a, from); some = w.some; before = omega (arith, b, before) }

-- the last mark stands behind the last item
pub items_last : (x at : ℕ) (is : Items) → 0 < count_of is → AreMarked at is → last_after x (ends_of at is) ≡ at + span_of is
unfolding ends_of span_of count_of
items_last x at ended some w = absurd (omega (arith, some))
items_last x at (item n c gap ended) some w = let none = w.1 in omega (arith, none)
items_last x at (item n c gap (item m d further more)) some w =
    let rest = items_last (at + n) (at + (n + gap)) (item m d further more) (omega arith) w.2 in
    omega (arith, rest)

mutual
  unfolding marks_of marks_in span_of

  pub cut_within : (from at limit : ℕ) (c : Cut) → IsMarked from at limit c → Each (Within from limit) (marks_of at c)
  cut_within from at limit done w = tt
  cut_within from at limit (keep (suc k) (list is c)) w =
      let last = items_last (at + suc k - 1) (at + suc k) is w.1 w.2 in
      let span : ℕ = span_of is in
      let a = w.0 in
      let b = w.3 in (
        record { from = omega (arith, a); some = omega (arith, last); before = omega (arith, last, b) },
        each_join (Within from limit) (marks_in (at + suc k) is) (marks_of (at + suc k + span) c)
            (each_map (Within (at + suc k) (at + suc k + span)) (Within from limit) (marks_in (at + suc k) is) (wider (at + suc k) (at + suc k + span) from limit (omega (arith, a)) (omega (arith, b)))
            (items_within (at + suc k) is w.2))
            (each_map (Within (at + suc k + span + 1) limit) (Within from limit) (marks_of (at + suc k + span) c) (wider (at + suc k + span + 1) limit from limit (omega (arith, a)) (omega arith))
            (cut_within (at + suc k + span + 1) (at + suc k + span) limit c w.4)),
      )
  cut_within from at limit (keep zero c) w = absurd w
  cut_within from at limit (keep (suc k) done) w = absurd w
  cut_within from at limit (keep (suc k) (keep m c)) w = absurd w
  cut_within from at limit (list is c) w = absurd w

  pub items_within : (at : ℕ) (is : Items) → AreMarked at is → Each (Within at (at + span_of is)) (marks_in at is)
  items_within at ended w = tt
  items_within at (item n c gap more) w =
      let high : ℕ = at + (n + (gap + span_of more)) in
      each_join (Within at high) (marks_of at c) (marks_in (at + (n + gap)) more)
      (each_map (Within at (at + n)) (Within at high) (marks_of at c) (wider at (at + n) at high (omega arith) (omega arith)) (cut_within at at (at + n) c w.0))
      (each_map (Within (at + (n + gap)) (at + (n + gap) + span_of more)) (Within at high) (marks_in (at + (n + gap)) more)
      (wider (at + (n + gap)) (at + (n + gap) + span_of more) at high (omega arith) (omega arith)) (items_within (at + (n + gap)) more w.2))

-- ---- lists in one another

-- marks behind the last one
pub behind_last : (l other : List ℕ) → first_of l < last_of l → last_of l < first_of other → StandBy l other
behind_last [] other some lt = absurd (omega (arith, some))
behind_last (m ∷ ms) other some lt = by m ms lt
  where
    by : (m : ℕ) (ms : List ℕ) → last_after m ms < first_of other → StandBy (m ∷ ms) other
    by m [] lt = lt
    by m (k ∷ ms) lt = inr (by k ms lt)

-- the lists inside items stand between its marks
items_inside : (x at : ℕ) (is : Items) → x < at → AreMarked at is → Each (StandBy (x ∷ ends_of at is)) (marks_in at is)
unfolding ends_of marks_in
items_inside x at ended lt w = tt
items_inside x at (item n c gap more) lt w =
    each_join (StandBy (x ∷ (at + n) ∷ ends_of (at + (n + gap)) more)) (marks_of at c) (marks_in (at + (n + gap)) more)
    (each_map (Within at (at + n)) (StandBy (x ∷ (at + n) ∷ ends_of (at + (n + gap)) more)) (marks_of at c)
    (λ l v. let a = v.from in let b = v.before in inl (omega (arith, a, lt), b)) (cut_within at at (at + n) c w.0))
    (each_map (StandBy ((at + n) ∷ ends_of (at + (n + gap)) more)) (StandBy (x ∷ (at + n) ∷ ends_of (at + (n + gap)) more)) (marks_in (at + (n + gap)) more) (λ l v. inr v)
    (later more w.1 (λ lt2. items_inside (at + n) (at + (n + gap)) more lt2 w.2)))
  where
    later : (rest : Items) → EndsWith gap rest → (at + n < at + (n + gap) → Each (StandBy ((at + n) ∷ ends_of (at + (n + gap)) rest)) (marks_in (at + (n + gap)) rest))
        → Each (StandBy ((at + n) ∷ ends_of (at + (n + gap)) rest)) (marks_in (at + (n + gap)) rest)
    later ended e v = tt
    later (item m d further rest) e v = v (omega (arith, e))

nested_join : (xs ys : List (List ℕ)) → AreNested xs → AreNested ys → Each (λ x. Each (StandBy x) ys) xs → AreNested (xs ++ ys)
nested_join [] ys a b c = b
nested_join (x ∷ xs) ys a b c = (each_join (StandBy x) xs ys a.0 c.0, nested_join xs ys a.1 b c.1)

-- what stands before an element, and what stands from it on
apart : (low seam high : ℕ) (xs ys : List (List ℕ)) → Each (Within low seam) xs → Each (Within seam high) ys → Each (λ x. Each (StandBy x) ys) xs
apart low seam high xs ys a b =
    each_map (Within low seam) (λ x. Each (StandBy x) ys) xs
    (λ x v. each_map (Within seam high) (StandBy x) ys (λ y u. let p = v.before in let q = u.from in behind_last x y v.some (omega (arith, p, q))) b) a

mutual
  unfolding marks_of marks_in

  pub cut_nested : (from at limit : ℕ) (c : Cut) → IsMarked from at limit c → AreNested (marks_of at c)
  cut_nested from at limit done w = tt
  cut_nested from at limit (keep (suc k) (list is c)) w =
      let last = items_last (at + suc k - 1) (at + suc k) is w.1 w.2 in
      let span : ℕ = span_of is in
      let inner = items_within (at + suc k) is w.2 in
      let rest = cut_within (at + suc k + span + 1) (at + suc k + span) limit c w.4 in
      let own : List ℕ = (at + suc k - 1) ∷ ends_of (at + suc k) is in (
        each_join (StandBy own) (marks_in (at + suc k) is) (marks_of (at + suc k + span) c)
            (items_inside (at + suc k - 1) (at + suc k) is (omega arith) w.2)
            (each_map (Within (at + suc k + span + 1) limit) (StandBy own) (marks_of (at + suc k + span) c)
            (λ l v. let a = v.from in behind_last own l (omega (arith, last)) (omega (arith, last, a))) rest),
        nested_join (marks_in (at + suc k) is) (marks_of (at + suc k + span) c) (items_nested (at + suc k) is w.2) (cut_nested (at + suc k + span + 1) (at + suc k + span) limit c w.4)
            (apart (at + suc k) (at + suc k + span) limit (marks_in (at + suc k) is) (marks_of (at + suc k + span) c) inner
            (each_map (Within (at + suc k + span + 1) limit) (Within (at + suc k + span) limit) (marks_of (at + suc k + span) c)
            (wider (at + suc k + span + 1) limit (at + suc k + span) limit (omega arith) (omega arith)) rest)),
      )
  cut_nested from at limit (keep zero c) w = absurd w
  cut_nested from at limit (keep (suc k) done) w = absurd w
  cut_nested from at limit (keep (suc k) (keep m c)) w = absurd w
  cut_nested from at limit (list is c) w = absurd w

  items_nested : (at : ℕ) (is : Items) → AreMarked at is → AreNested (marks_in at is)
  items_nested at ended w = tt
  items_nested at (item n c gap more) w =
      let high : ℕ = at + (n + gap) + span_of more in
      nested_join (marks_of at c) (marks_in (at + (n + gap)) more) (cut_nested at at (at + n) c w.0) (items_nested (at + (n + gap)) more w.2)
      (apart at (at + n) high (marks_of at c) (marks_in (at + (n + gap)) more) (cut_within at at (at + n) c w.0)
      (each_map (Within (at + (n + gap)) high) (Within (at + n) high) (marks_in (at + (n + gap)) more) (wider (at + (n + gap)) high (at + n) high (omega arith) (omega arith))
      (items_within (at + (n + gap)) more w.2)))

-- ---- marks of one list

ends_stand : (low at : ℕ) (is : Items) → low ≤ at → AreMarked at is → StandFrom low (ends_of at is)
unfolding ends_of
ends_stand low at ended le w = tt
ends_stand low at (item n c gap more) le w = (omega (arith, le), later more w.1 (λ le2. ends_stand (at + n + 1) (at + (n + gap)) more le2 w.2))
  where
    later : (rest : Items) → EndsWith gap rest → (at + n + 1 ≤ at + (n + gap) → StandFrom (at + n + 1) (ends_of (at + (n + gap)) rest)) → StandFrom (at + n + 1) (ends_of (at + (n + gap)) rest)
    later ended e v = tt
    later (item m d further rest) e v = v (omega (arith, e))

own_list : (limit at : ℕ) (is : Items) → 0 < count_of is → AreMarked at is → 0 < at → at + span_of is < limit → AreOfList limit ((at - 1) ∷ ends_of at is)
unfolding ends_of count_of
own_list limit at ended some w pos lt = absurd (omega (arith, some))
own_list limit at (item n c gap more) some w pos lt =
    let last = items_last (at - 1) at (item n c gap more) some w in
    ((omega arith, ends_stand (at - 1 + 1) at (item n c gap more) (omega (arith, pos)) w), omega (arith, last, lt))

mutual
  unfolding marks_of marks_in span_of

  pub cut_lists : (from at limit : ℕ) (c : Cut) → IsMarked from at limit c → Each (AreOfList limit) (marks_of at c)
  cut_lists from at limit done w = tt
  cut_lists from at limit (keep (suc k) (list is c)) w = (
    own_list limit (at + suc k) is w.1 w.2 (omega arith) w.3,
    each_join (AreOfList limit) (marks_in (at + suc k) is) (marks_of (at + suc k + span_of is) c) (items_lists (at + suc k) limit is (let a = w.3 in omega (arith, a)) w.2)
        (cut_lists (at + suc k + span_of is + 1) (at + suc k + span_of is) limit c w.4),
  )
  cut_lists from at limit (keep zero c) w = absurd w
  cut_lists from at limit (keep (suc k) done) w = absurd w
  cut_lists from at limit (keep (suc k) (keep m c)) w = absurd w
  cut_lists from at limit (list is c) w = absurd w

  items_lists : (at limit : ℕ) (is : Items) → at + span_of is ≤ limit → AreMarked at is → Each (AreOfList limit) (marks_in at is)
  items_lists at limit ended le w = tt
  items_lists at limit (item n c gap more) le w =
      each_join (AreOfList limit) (marks_of at c) (marks_in (at + (n + gap)) more)
      (each_map (AreOfList (at + n)) (AreOfList limit) (marks_of at c) (higher (at + n) (omega (arith, le))) (cut_lists at at (at + n) c w.0))
      (items_lists (at + (n + gap)) limit more (omega (arith, le)) w.2)
    where
      higher : (low : ℕ) → low ≤ limit → (l : List ℕ) → AreOfList low l → AreOfList limit l
      higher low lt [] v = v
      higher low lt (m ∷ []) v = v
      higher low lt (m ∷ k ∷ ms) v = let last = v.1 in (v.0, omega (arith, last, lt))

pub marked_cuts_are_nested : MarkedCutsAreNested
marked_cuts_are_nested = λ from at limit c w. (cut_lists from at limit c w, cut_nested from at limit c w)
