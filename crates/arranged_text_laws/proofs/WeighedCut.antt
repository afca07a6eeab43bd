-- The cut of lists in what elements bring: where lists begin and end there.
use Rattle.std.proofs.Common.{◌≡◌, ℕ, suc, ◌+◌, ◌-◌, ◌<◌, ◌≤◌, nat_le, inl, inr, List, [], ◌∷◌, ◌++◌, take, drop, refl, sym, ap, ◌∙◌, arith, take-add}
use Rattle.std.proofs.lemmas.List.{take-take}
use Rattle.std.proofs.lemmas.Bool.{cases_Bool, leb-true, leb-false}
use Rattle.list_cuts.specs.Cuts.{Cut, done, keep, list, Items, ended, item, count_of, span_of, extent_of}
use Rattle.arranged_text_laws.specs.Weighed.{total, weighed, weighed_items}
use Rattle.arranged_text_laws.proofs.Formed.{IsKept, Formed, FormedItems}
use Rattle.arranged_text_laws.proofs.Widened.{widened, widened_items, Widens, Point, at_begin, at_end, at_start, span_some, span_widened}

pub total_append : (xs ys : List ℕ) → total (xs ++ ys) ≡ total xs + total ys
total_append [] ys = omega arith
total_append (x ∷ xs) ys = let rest = total_append xs ys in omega (arith, rest)

pub total_both : (n m : ℕ) (ws : List ℕ) → total (take (n + m) ws) ≡ total (take n ws) + total (take m (drop n ws))
total_both n m ws = ap total (take-add n m ws) ∙ total_append (take n ws) (take m (drop n ws))

-- what the first elements weigh, so many
abbrev pub weight : List ℕ → ℕ → ℕ
weight ws y = total (take y ws)

pub weight_grows : (ws : List ℕ) (x y : ℕ) → x ≤ y → weight ws x ≤ weight ws y
weight_grows ws x y le =
    let both = total_both x (y - x) ws in
    let same : x + (y - x) ≡ y = omega (arith, le) in
    let all : weight ws y ≡ total (take (x + (y - x)) ws) = ap (weight ws) (sym same) in
    omega (arith, both, all)

-- these weigh as much as those from an element on, up to another
abbrev pub Weighs : List ℕ → ℕ → ℕ → List ℕ → Type 0
Weighs ws x z vs = (y : ℕ) → x ≤ y → y ≤ z → total (take (y - x) vs) ≡ weight ws y - weight ws x

pub weighs_all : (ws : List ℕ) (z : ℕ) → Weighs ws 0 z ws
weighs_all ws z = λ y low high.
    let zero : y - 0 ≡ y = omega arith in
    let none : weight ws y - weight ws 0 ≡ weight ws y = omega arith in
    ap (weight ws) zero ∙ sym none

pub weighs_drop : (ws : List ℕ) (x m z : ℕ) (vs : List ℕ) → x ≤ m → m ≤ z → Weighs ws x z vs → Weighs ws m z (drop (m - x) vs)
weighs_drop ws x m z vs low high h = λ y more less.
    let both = total_both (m - x) (y - m) vs in
    let same : (m - x) + (y - m) ≡ y - x = omega (arith, low, more) in
    let all = ap (λ (k : ℕ). total (take k vs)) same in
    let first = h m low high in
    let whole = h y (omega (arith, low, more)) less in
    let a = weight_grows ws x m low in
    let b = weight_grows ws m y more in
    omega (arith, both, all, first, whole, a, b)

pub weighs_take : (ws : List ℕ) (x m z : ℕ) (vs : List ℕ) → m ≤ z → Weighs ws x z vs → Weighs ws x m (take (m - x) vs)
weighs_take ws x m z vs high h = λ y more less.
    ap total (take-take (y - x) (m - x) vs (omega (arith, less, more))) ∙ h y more (omega (arith, less, high))

module _ (B E b e : ℕ → ℕ) (size : ℕ) (w : Widens B E size) (ws : List ℕ)
    (begins : (k : ℕ) → k < size → weight ws (B k) ≡ b k) (ends : (k : ℕ) → 0 < k → k ≤ size → weight ws (E k) ≡ e k) where
  mutual
    unfolding weighed weighed_items widened widened_items extent_of span_of count_of

    pub weighed_widened : (i x j : ℕ) (c : Cut) (vs : List ℕ) → Formed c → IsKept c → i + extent_of c ≤ j → j ≤ size → Point B E size i x
        → Weighs ws x (E j) vs → weighed (widened B E i x c) vs ≡ widened b e i (weight ws x) c
    weighed_widened i x j done vs f kept within le p h = refl
    weighed_widened i x j (keep k done) vs f kept within le p h = absurd f.0
    weighed_widened i x j (keep k (keep n c)) vs f kept within le p h = absurd f.0
    weighed_widened i x j (keep k (list is c)) vs f kept within le p h =
        let l = i + k in
        let m = l + span_of is in
        let some = span_some B E size w is f.1.2 f.1.0 in
        let first : l < size = omega (arith, within, some, le) in
        let last : m ≤ size = omega (arith, within, le) in
        let wide = span_widened B E size w l is f.1.2 f.1.0 last in
        let at : x ≤ B l = p.on l first (omega arith) in
        let big = w.whole l m (omega (arith, some)) last in
        let top = (at_end B E size w j (omega (arith, within, some)) le).behind m (omega (arith, some)) last (omega (arith, within)) in
        let vs2 = drop (B l - x) vs in
        let h2 = weighs_drop ws x (B l) (E j) vs at (omega (arith, big, top)) h in
        let here : total (take (B l - x) vs) ≡ b l - weight ws x = h (B l) at (omega (arith, big, top)) ∙ ap (λ (t : ℕ). t - weight ws x) (begins l first) in
        let items = items_weighed l j is vs2 f.1.2 f.1.0 (omega (arith, within)) le h2 in
        let h3 = weighs_drop ws (B l) (E m) (E j) vs2 (omega (arith, big)) top h2 in
        let rest = weighed_widened m (E m) j c (drop (E m - B l) vs2) f.1.4 f.1.3 (omega (arith, within)) le (at_end B E size w m (omega (arith, some)) last) h3 in
        ap (λ (t : ℕ). keep t (weighed (list (widened_items B E l is) (widened B E m (E m) c)) vs2)) here
        ∙ ap (λ (t : ℕ). keep (b l - weight ws x) (list (weighed_items (widened_items B E l is) vs2) (weighed (widened B E m (E m) c) (drop t vs2)))) wide
        ∙ ap (λ (its : Items). keep (b l - weight ws x) (list its (weighed (widened B E m (E m) c) (drop (E m - B l) vs2)))) items
        ∙ ap (λ (d : Cut). keep (b l - weight ws x) (list (widened_items b e l is) d)) rest
        ∙ ap (λ (t : ℕ). keep (b l - weight ws x) (list (widened_items b e l is) (widened b e m t c))) (ends m (omega (arith, some)) last)
    weighed_widened i x j (list is c) vs f kept within le p h = absurd kept

    pub items_weighed : (i j : ℕ) (is : Items) (vs : List ℕ) → FormedItems is → 0 < count_of is → i + span_of is ≤ j → j ≤ size
        → Weighs ws (B i) (E j) vs → weighed_items (widened_items B E i is) vs ≡ widened_items b e i is
    items_weighed i j ended vs f some within le h = absurd (omega (arith, some))
    items_weighed i j (item n c gap ended) vs f some within le h =
        let first = f.0 in
        let k = i + n in
        let small : k ≤ size = omega (arith, within, le) in
        let big = w.whole i k (omega (arith, first)) small in
        let top = (at_end B E size w j (omega (arith, within, first)) le).behind k (omega (arith, first)) small (omega (arith, within)) in
        let size_is : total (take (E k - B i) vs) ≡ e k - b i =
        h (E k) (omega (arith, big)) top ∙ ap (λ (t : ℕ). t - weight ws (B i)) (ends k (omega (arith, first)) small)
        ∙ ap (λ (t : ℕ). e k - t) (begins i (omega (arith, small, first))) in
        let inner = weighed_widened i (B i) k c (take (E k - B i) vs) f.3 f.2 (let x = f.1 in omega (arith, x)) small (at_begin B E size w i (omega (arith, small, first)))
        (weighs_take ws (B i) (E k) (E j) vs top h) in
        ap (λ (t : ℕ). item t (weighed (widened B E i (B i) c) (take (E k - B i) vs)) 0 ended) size_is
        ∙ ap (λ (d : Cut). item (e k - b i) d 0 ended) inner
        ∙ ap (λ (t : ℕ). item (e k - b i) (widened b e i t c) 0 ended) (begins i (omega (arith, small, first)))
    items_weighed i j (item n c gap (item n2 c2 gap2 more)) vs f some within le h =
        let first = f.0 in
        let k = i + n in
        let t = i + (n + gap) in
        let small : k ≤ size = omega (arith, within, le) in
        let later = span_some B E size w (item n2 c2 gap2 more) f.5 (omega arith) in
        let begins_there : t < size = omega (arith, within, le, later) in
        let big = w.whole i k (omega (arith, first)) small in
        let big2 = w.apart k t (omega (arith, first)) (omega arith) begins_there in
        let ends_later = w.whole t (t + span_of (item n2 c2 gap2 more)) (omega (arith, later)) (omega (arith, within, le)) in
        let top2 = (at_end B E size w j (omega (arith, within, first)) le).behind (t + span_of (item n2 c2 gap2 more)) (omega (arith, later)) (omega (arith, within, le)) (omega (arith, within)) in
        let top : E k ≤ E j = omega (arith, big2, ends_later, top2) in
        let vs2 = drop (E k - B i) vs in
        let h2 = weighs_drop ws (B i) (E k) (E j) vs (omega (arith, big)) top h in
        let size_is : total (take (E k - B i) vs) ≡ e k - b i =
        h (E k) (omega (arith, big)) top ∙ ap (λ (y : ℕ). y - weight ws (B i)) (ends k (omega (arith, first)) small)
        ∙ ap (λ (y : ℕ). e k - y) (begins i (omega (arith, small, first))) in
        let inner = weighed_widened i (B i) k c (take (E k - B i) vs) f.3 f.2 (let x = f.1 in omega (arith, x)) small (at_begin B E size w i (omega (arith, small, first)))
        (weighs_take ws (B i) (E k) (E j) vs top h) in
        let gap_is : total (take (B t - E k) vs2) ≡ b t - e k =
        h2 (B t) big2 (omega (arith, ends_later, top2)) ∙ ap (λ (y : ℕ). y - weight ws (E k)) (begins t begins_there)
        ∙ ap (λ (y : ℕ). b t - y) (ends k (omega (arith, first)) small) in
        let h3 = weighs_drop ws (B i) (B t) (E j) vs (omega (arith, big, big2)) (omega (arith, ends_later, top2)) h in
        let behind : (E k - B i) + (B t - E k) ≡ B t - B i = omega (arith, big, big2) in
        let next = items_weighed t j (item n2 c2 gap2 more) (drop (B t - B i) vs) f.5 (omega arith) (omega (arith, within)) le h3 in
        let rest = widened_items B E t (item n2 c2 gap2 more) in
        ap (λ (y : ℕ). item y (weighed (widened B E i (B i) c) (take (E k - B i) vs)) (total (take (B t - E k) vs2)) (weighed_items rest (drop ((E k - B i) + (B t - E k)) vs))) size_is
        ∙ ap (λ (d : Cut). item (e k - b i) d (total (take (B t - E k) vs2)) (weighed_items rest (drop ((E k - B i) + (B t - E k)) vs))) inner
        ∙ ap (λ (y : ℕ). item (e k - b i) (widened b e i y c) (total (take (B t - E k) vs2)) (weighed_items rest (drop ((E k - B i) + (B t - E k)) vs))) (begins i (omega (arith, small, first)))
        ∙ ap (λ (y : ℕ). item (e k - b i) (widened b e i (b i) c) y (weighed_items rest (drop ((E k - B i) + (B t - E k)) vs))) gap_is
        ∙ ap (λ (y : ℕ). item (e k - b i) (widened b e i (b i) c) (b t - e k) (weighed_items rest (drop y vs))) behind
        ∙ ap (λ (its : Items). item (e k - b i) (widened b e i (b i) c) (b t - e k) its) next

  -- the whole cut
  pub cut_weighed : (c : Cut) → Formed c → IsKept c → extent_of c ≤ size → weighed (widened B E 0 0 c) ws ≡ widened b e 0 0 c
  unfolding extent_of
  cut_weighed c f kept within = weighed_widened 0 0 size c ws f kept (omega (arith, within)) (omega arith) (at_start B E size w) (weighs_all ws (E size))

-- ---- elements that bring themselves

abbrev pub same : ℕ → ℕ
same k = k

mutual
  unfolding widened widened_items

  pub widened_same : (i : ℕ) (c : Cut) → Formed c → IsKept c → widened same same i i c ≡ c
  widened_same i done f kept = refl
  widened_same i (keep k done) f kept = absurd f.0
  widened_same i (keep k (keep n c)) f kept = absurd f.0
  widened_same i (keep k (list is c)) f kept =
      let on : i + k - i ≡ k = omega arith in
      ap (λ (t : ℕ). keep t (list (widened_items same same (i + k) is) (widened same same (i + k + span_of is) (i + k + span_of is) c))) on
      ∙ ap (λ (its : Items). keep k (list its (widened same same (i + k + span_of is) (i + k + span_of is) c))) (items_same (i + k) is f.1.2)
      ∙ ap (λ (d : Cut). keep k (list is d)) (widened_same (i + k + span_of is) c f.1.4 f.1.3)
  widened_same i (list is c) f kept = absurd kept

  items_same : (i : ℕ) (is : Items) → FormedItems is → widened_items same same i is ≡ is
  items_same i ended f = refl
  items_same i (item n c gap ended) f =
      let on : i + n - i ≡ n = omega arith in
      ap (λ (t : ℕ). item t (widened same same i i c) 0 ended) on ∙ ap (λ (d : Cut). item n d 0 ended) (widened_same i c f.3 f.2)
      ∙ ap (λ (t : ℕ). item n c t ended) (sym f.4)
  items_same i (item n c gap (item n2 c2 gap2 more)) f =
      let on : i + n - i ≡ n = omega arith in
      let over : i + (n + gap) - (i + n) ≡ gap = omega arith in
      let rest = widened_items same same (i + (n + gap)) (item n2 c2 gap2 more) in
      ap (λ (t : ℕ). item t (widened same same i i c) (i + (n + gap) - (i + n)) rest) on
      ∙ ap (λ (d : Cut). item n d (i + (n + gap) - (i + n)) rest) (widened_same i c f.3 f.2)
      ∙ ap (λ (t : ℕ). item n c t rest) over
      ∙ ap (λ (its : Items). item n c gap its) (items_same (i + (n + gap)) (item n2 c2 gap2 more) f.5)

pub widens_same : (size : ℕ) → Widens same same size
widens_same size = record { whole = λ i j lt within. lt; apart = λ i j some le within. le }

-- ---- elements that others bring

-- Elements begin and end one behind the other where those do that bring them.
pub widens_up : (B E b e : ℕ → ℕ) (size : ℕ) (ws : List ℕ) → Widens b e size → ((k : ℕ) → k < size → weight ws (B k) ≡ b k)
    → ((k : ℕ) → k < size → weight ws (suc (B k)) ≡ suc (b k)) → ((k : ℕ) → 0 < k → k ≤ size → weight ws (E k) ≡ e k) → Widens B E size
widens_up B E b e size ws w begins nexts ends = record {
  whole = λ i j lt within.
      let first = begins i (omega (arith, lt, within)) in
      let last = ends j (omega (arith, lt)) within in
      let below = w.whole i j lt within in
      elim (cases_Bool (nat_le (E j) (B i))) [
        | inl bad ↦
            let grows = weight_grows ws (E j) (B i) (leb-true (E j) (B i) bad) in
            absurd (omega (arith, grows, first, last, below))
        | inr good ↦ leb-false (E j) (B i) good
      ];
  apart = λ i j some le within.
      let last = ends i some (omega (arith, le, within)) in
      let next = nexts j within in
      let below = w.apart i j some le within in
      elim (cases_Bool (nat_le (E i) (B j))) [
        | inl good ↦ leb-true (E i) (B j) good
        | inr bad ↦
            let late = leb-false (E i) (B j) bad in
            let grows = weight_grows ws (suc (B j)) (E i) (omega (arith, late)) in
            absurd (omega (arith, grows, last, next, below))
      ];
}
