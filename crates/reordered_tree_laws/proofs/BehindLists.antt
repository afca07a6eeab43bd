-- What is known behind a list goes together in both orders of its items, where each pair of items does.
use Rattle.std.proofs.Common.{ℕ, suc, ◌+◌, ◌-◌, ◌<◌, ◌≤◌, ◌≡◌, Bool, true, false, not, ◌==◌, List, [], ◌∷◌, ◌++◌, length, map, get_or, cond, Option, None, Some, ◌⊎◌, inl, inr, refl, sym, ap, subst, ◌∙◌, arith}
use Rattle.std.specs.Prelude.{nat_lt, filter, find, is_some}
use Rattle.std.specs.List.{All}
use Rattle.std.proofs.lemmas.Bool.{false≢true, cases_Bool, eqb-true, eqb-false, ltb-true, ltb-false, le-ltb, lt-ltb, and_from, ne_eqb}
use Rattle.std.proofs.lemmas.List.{length-map, get_or_past}
use Rattle.std.proofs.lemmas.List.Elements.{All-nil, All-cons, All-head, All-tail, All-get_or}
use Rattle.cs_base.specs.Token.{Token}
use Rattle.c99_tree.specs.declared.production.Label.{Label}
use Rattle.c_types.specs.declared.entity.EntityKind.TheVariants.{Member}
use Rattle.c_types.specs.declared.entity.Linkage.TheVariants.{Absent}
use Rattle.c_types.specs.Declarations.{Facts, is_in}
use Rattle.name_chains.specs.Entering.{is_member}
use Rattle.scope_bind.specs.Named.{Declaration, Occurrence, Frame}
use Rattle.list_cuts.specs.Cuts.{IsOrder}
use Rattle.reordered_tree_laws.specs.Adding.{IsNamedIn}
use Rattle.reordered_tree_laws.specs.Premises.{is_items}
use Rattle.scope_bind.specs.Moved.{moved_occurrence, AreMovedTexts}
use Rattle.reordered_tree_laws.specs.Moving.{AreMoved, AreToldAlike, Question, answers, moved_question, IsAsked, GoTogether}
use Rattle.reordered_tree_laws.proofs.MovedFacts.{further_asked}
use Rattle.reordered_tree_laws.proofs.MovedPlaces.{hits, hits-once}
use Rattle.reordered_tree_laws.specs.Owned.{IsOwnName}
use Rattle.reordered_tree_laws.specs.Siblings.{Gain, gained, noted, is_between}
use Rattle.reordered_tree_laws.specs.Going.{from_on, IsToldMember}
use Rattle.reordered_tree_laws.proofs.Stacks.{IsOneAtMost, order_low, order_hits}
use Rattle.reordered_tree_laws.proofs.TwoOrders.{no_gain, gain_at, Each, each_weaker, each_along, gains_past, asked_behind, noted_behind}
use Rattle.reordered_tree_laws.proofs.ToldTwice.{told_of_members, told_in_one}
use Rattle.reordered_tree_laws.proofs.Spots.{Spot, end_of, IsBehind, IsSpot, AreSpotsApart, places_apart, apart_turned, answered_once, noted_once, between_parts, none_passes}
use Rattle.reordered_tree_laws.proofs.OldItems.{AreAllApart, no_spot, spot_at, gain_of_spot, apart_at}
use Rattle.reordered_tree_laws.proofs.ItemGoes.{IsItem, GoBefore}
use Rattle.reordered_tree_laws.proofs.NewItems.{Pair}

-- ---- The item with a token

-- the item of some in which a token stands, or it stands in none
pub record Holder (ps : List Spot) (i : ℕ) : Type 0 where
  at : ℕ
  short : at < length ps
  within : is_between (get_or ps at no_spot).at (end_of (get_or ps at no_spot)) i ≡ true

pub held_by : (ps : List Spot) (i : ℕ) → Holder ps i ⊎ All (λ p. is_between p.at (end_of p) i ≡ false) ps
held_by [] i = inr (All-nil (λ p. is_between p.at (end_of p) i ≡ false))
held_by (p ∷ ps) i = by (is_between p.at (end_of p) i) refl (held_by ps i)
  where
    by : (c : Bool) → is_between p.at (end_of p) i ≡ c → Holder ps i ⊎ All (λ q. is_between q.at (end_of q) i ≡ false) ps
        → Holder (p ∷ ps) i ⊎ All (λ q. is_between q.at (end_of q) i ≡ false) (p ∷ ps)
    by true e h = inl (record { at = 0; short = omega arith; within = e })
    by false e (inl h) = inl (record { at = suc h.at; short = omega (arith, h.short); within = h.within })
    by false e (inr h) = inr (All-cons (λ q. is_between q.at (end_of q) i ≡ false) p ps e h)

-- ---- What stands at a number of the order

pub record Beside (R : ℕ → Gain → Type 0) (k : ℕ) : Type 0 where
  gain : Gain
  holds : R k gain

beside_at : (R : ℕ → Gain → Type 0) (k : ℕ) (ks : List ℕ) (bs : List Gain) → Each R ks bs → hits k ks ≡ 1 → Beside R k
beside_at R k [] [] h e = absurd (omega (arith, e))
beside_at R k (j ∷ ks) (b ∷ bs) h e = elim (cases_Bool (j == k)) [
  | inl same ↦ record { gain = b; holds = subst (λ (x : ℕ). R x b) (eqb-true j k same) h.0 }
  | inr other ↦ beside_at R k ks bs h.1 (omega (arith, e, ap bit_of other))
]
  where
    bit_of : Bool → ℕ
    bit_of true = 1
    bit_of false = 0
beside_at R k [] (b ∷ bs) h e = absurd h
beside_at R k (j ∷ ks) [] h e = absurd h

-- ---- What is found

nothing_first : (P : Declaration → Bool) (xs : List Declaration) → filter P xs ≡ [] → find P xs ≡ None
nothing_first P [] e = refl
nothing_first P (x ∷ xs) e = by (P x) e (nothing_first P xs)
  where
    by : (c : Bool) → cond c (x ∷ filter P xs) (filter P xs) ≡ [] → (filter P xs ≡ [] → find P xs ≡ None) → cond c (Some x) (find P xs) ≡ None
    by true w more = absurd cc
    by false w more = more w

nothing_left : (P : Declaration → Bool) (xs ys : List Declaration) → find P (xs ++ ys) ≡ None → filter P xs ≡ []
nothing_left P [] ys e = refl
nothing_left P (x ∷ xs) ys e = by (P x) e (nothing_left P xs ys)
  where
    by : (c : Bool) → cond c (Some x) (find P (xs ++ ys)) ≡ None → (find P (xs ++ ys) ≡ None → filter P xs ≡ []) → cond c (x ∷ filter P xs) (filter P xs) ≡ []
    by true w more = absurd cc
    by false w more = more w

nothing_in : (P : Declaration → Bool) (xs ys : List Declaration) → filter P xs ≡ [] → find P ys ≡ None → find P (xs ++ ys) ≡ None
nothing_in P [] ys e h = h
nothing_in P (x ∷ xs) ys e h = by (P x) e (λ w. nothing_in P xs ys w h)
  where
    by : (c : Bool) → cond c (x ∷ filter P xs) (filter P xs) ≡ [] → (filter P xs ≡ [] → find P (xs ++ ys) ≡ None) → cond c (Some x) (find P (xs ++ ys)) ≡ None
    by true w more = absurd cc
    by false w more = more w

told_none : (x y : Option Declaration) → AreToldAlike x y → x ≡ None → y ≡ None
told_none None None h e = refl
told_none None (Some d) h e = absurd h
told_none (Some d) y h e = absurd cc

low_name : (lo k : ℕ) → from_on lo k ≡ false → (k ≡ 0) ⊎ (k < lo)
low_name lo k e = elim (cases_Bool (nat_lt 0 k)) [
  | inr empty ↦ inl (omega (arith, ltb-false 0 k empty))
  | inl some ↦ elim (cases_Bool (nat_lt k lo)) [
    | inl less ↦ inr (ltb-true k lo less)
    | inr far ↦ absurd (false≢true (sym e ∙ and_from (nat_lt 0 k) (not (nat_lt k lo)) some (ap not far)))
  ]
]

-- what passes is a member, where no other one passes
told_by : (P : Declaration → Bool) (N : Declaration → Type 0) (ds : List Declaration) → All IsToldMember ds → All N ds
    → ((d : Declaration) → P d ≡ true → N d → is_member d.space ≡ false → ⊥) → All (λ d. P d ≡ true → (d.kind ≡ Member) × (d.linkage ≡ Absent)) ds
told_by P N [] a b off = All-nil (λ d. P d ≡ true → (d.kind ≡ Member) × (d.linkage ≡ Absent))
told_by P N (d ∷ ds) a b off =
    All-cons (λ x. P x ≡ true → (x.kind ≡ Member) × (x.linkage ≡ Absent)) d ds
    (λ e. by e (is_member d.space) refl (All-head IsToldMember d ds a))
    (told_by P N ds (All-tail IsToldMember d ds a) (All-tail N d ds b) off)
  where
    by : P d ≡ true → (c : Bool) → is_member d.space ≡ c → IsToldMember d → (d.kind ≡ Member) × (d.linkage ≡ Absent)
    by e true w told = told w
    by e false w told = absurd (off d e (All-head N d ds b) w)

not_between : (lo hi k : ℕ) → is_between lo hi k ≡ false → (lo ≤ k) × (k < hi) → ⊥
not_between lo hi k e r =
    false≢true (sym e ∙ and_from (not (nat_lt k lo)) (nat_lt k hi) (ap not (le-ltb k lo r.0)) (lt-ltb k hi r.1))

empty_range : (k : ℕ) → is_between 0 0 k ≡ false
empty_range k = by (is_between 0 0 k) refl
  where
    by : (c : Bool) → is_between 0 0 k ≡ c → is_between 0 0 k ≡ false
    by false e = e
    by true e = absurd (omega (arith, (between_parts 0 0 k e).1))

-- beyond the items there is none
past_range : (ps : List Spot) (j i : ℕ) → length ps ≤ j → is_between (get_or ps j no_spot).at (end_of (get_or ps j no_spot)) i ≡ false
past_range ps j i far = subst (λ (p : Spot). is_between p.at (end_of p) i ≡ false) (sym (get_or_past ps j no_spot far)) (empty_range i)

module _ (m : ℕ → ℕ) (old new : List Token) (law : AreMovedTexts m old new) (order : List ℕ) (lists barred bar : ℕ → Bool) (is : IsOrder (length order) order)
    (lowest : lists 0 ≡ false) (l : Label) (keeps : Bool) (items : is_items l ≡ true) (lo there : ℕ) (fo fn : Frame) (f g behind : Facts) (limit : ℕ)
    (before : GoBefore m old new law order lists barred bar is lowest l keeps items lo there fo fn f g behind limit)
    (ps : List Spot) (ks : List ℕ) (of : IsOrder (length ps) ks)
    (each : All (λ p. IsItem m old new law order lists barred bar is lowest l keeps items lo there fo fn f g behind limit p) ps) (apart : AreAllApart old ps)
    (hi beyond : ℕ) (ends : limit + 1 ≤ hi) (far : there + 1 ≤ beyond) (low : lo + 1 ≤ hi) (behind' : Facts) (bs : List Gain)
    (pairs : Each (λ k b. Pair m old new law order lists barred bar is lowest l keeps items lo there fo fn f g behind limit before hi beyond behind' (spot_at ps k) b) ks bs) where
  abbrev IsMine : Spot → Type 0
  IsMine p = IsItem m old new law order lists barred bar is lowest l keeps items lo there fo fn f g behind limit p

  abbrev Goes : Spot → Gain → Type 0
  Goes p b = Pair m old new law order lists barred bar is lowest l keeps items lo there fo fn f g behind limit before hi beyond behind' p b

  abbrev gains : List Gain
  gains = map (λ (p : Spot). p.gain) ps

  same_count : length gains ≡ length ps
  same_count = length-map ps (λ (p : Spot). p.gain)

  of_gains : IsOrder (length gains) ks
  of_gains = subst (λ (n : ℕ). IsOrder n ks) (sym same_count) of

  mine_at : (j : ℕ) → j < length ps → IsMine (get_or ps j no_spot)
  mine_at j less = All-get_or IsMine ps j no_spot less each

  is_spot : (p : Spot) → IsMine p → IsSpot old p
  is_spot p c = record { beside = c.gains.beside; names = c.gains.names; indices = c.gains.indices; ends = c.gains.ends }

  two_apart : (i j : ℕ) → i < length ps → j < length ps → (i ≡ j → ⊥) → AreSpotsApart old (get_or ps i no_spot) (get_or ps j no_spot)
  two_apart i j a b other = elim (cases_Bool (nat_lt i j)) [
    | inl less ↦ apart_at old ps i j apart (ltb-true i j less) b
    | inr more ↦
        apart_turned old (get_or ps j no_spot) (get_or ps i no_spot)
        (apart_at old ps j i apart (omega (arith, ltb-false i j more, other)) a)
  ]

  -- of two numbers of items, or numbers beyond, one has no answer
  one_at_most : {X : Type 0} (h : Gain → List X) → h no_gain ≡ [] → ((p r : Spot) → IsMine p → IsMine r → AreSpotsApart old p r → (h p.gain ≡ []) ⊎ (h r.gain ≡ []))
      → IsOneAtMost (λ k. h (gain_at gains k))
  one_at_most h none_of two i j a b other =
      elim (cases_Bool (nat_lt (i - 1) (length ps))) [
        | inr past ↦
            let beyond_i : length gains + 1 ≤ i = omega (arith, same_count, ltb-false (i - 1) (length ps) past, a) in
            inl (ap h (gains_past gains i beyond_i) ∙ none_of)
        | inl less ↦ elim (cases_Bool (nat_lt (j - 1) (length ps))) [
          | inr past ↦
              let beyond_j : length gains + 1 ≤ j = omega (arith, same_count, ltb-false (j - 1) (length ps) past, b) in
              inr (ap h (gains_past gains j beyond_j) ∙ none_of)
          | inl also ↦
              let i' : i - 1 < length ps = ltb-true (i - 1) (length ps) less in
              let j' : j - 1 < length ps = ltb-true (j - 1) (length ps) also in
              by (two (spot_at ps i) (spot_at ps j) (mine_at (i - 1) i') (mine_at (j - 1) j')
              (two_apart (i - 1) (j - 1) i' j' (λ e. eqb-false i j other (omega (arith, e, a, b)))))
        ]
      ]
    where
      by : (h (spot_at ps i).gain ≡ []) ⊎ (h (spot_at ps j).gain ≡ []) → (h (gain_at gains i) ≡ []) ⊎ (h (gain_at gains j) ≡ [])
      by (inl e) = inl (ap h (gain_of_spot ps i) ∙ e)
      by (inr e) = inr (ap h (gain_of_spot ps j) ∙ e)

  -- ---- Questions and names that are noted

  asked_together : (q : Question) → IsAsked m hi beyond q
      → AreMoved m (filter (answers old q) (gained gains ++ f.declared)) (filter (answers new (moved_question m q)) (gained bs ++ g.declared))
  asked_together q w =
      let T : Declaration → Bool = answers old q in
      let T' : Declaration → Bool = answers new (moved_question m q) in
      asked_behind m old new ks gains bs of_gains T T' f.declared g.declared
      (one_at_most (λ (b : Gain). filter T b.declared) refl
      (λ p r c d s. answered_once old m hi beyond p r s (omega (arith, c.high, ends)) (omega (arith, d.high, ends)) (is_spot p c) (is_spot r d) q w))
      (each_weaker (λ k b. Goes (spot_at ps k) b) (λ k b. AreMoved m (filter T (gain_at gains k).declared) (filter T' b.declared))
      (λ k b x. subst (λ (y : Gain). AreMoved m (filter T y.declared) (filter T' b.declared)) (sym (gain_of_spot ps k)) (x.asked q w)) ks bs pairs)
      (before.facts.asked q (further_asked m old new law lo there hi beyond q low far w))

  noted_together : (i : ℕ) → filter (λ (o : Occurrence). o.index == m i) (noted bs ++ g.occurrences)
      ≡ map (moved_occurrence m) (filter (λ (o : Occurrence). o.index == i) (noted gains ++ f.occurrences))
  noted_together i =
      let T : Occurrence → Bool = λ (o : Occurrence). o.index == i in
      let T' : Occurrence → Bool = λ (o : Occurrence). o.index == m i in
      noted_behind m old new ks gains bs of_gains T T' f.occurrences g.occurrences
      (one_at_most (λ (b : Gain). filter T b.occurrences) refl
      (λ p r c d s. noted_once old m hi beyond p r s (omega (arith, c.high, ends)) (omega (arith, d.high, ends)) (is_spot p c) (is_spot r d) i))
      (each_weaker (λ k b. Goes (spot_at ps k) b) (λ k b. filter T' b.occurrences ≡ map (moved_occurrence m) (filter T (gain_at gains k).occurrences))
      (λ k b x. x.noted i ∙ ap (λ (y : Gain). map (moved_occurrence m) (filter T y.occurrences)) (sym (gain_of_spot ps k))) ks bs pairs)
      (before.facts.noted i)

  -- ---- Kinds

  module _ (i : ℕ) where
    abbrev P : Declaration → Bool
    P d = d.name_at == i

    abbrev Q : Declaration → Bool
    Q d = d.name_at == m i

    tells : Each (λ k b. AreToldAlike (find P ((gain_at gains k).declared ++ f.declared)) (find Q (b.declared ++ g.declared))) ks bs
    tells =
        each_weaker (λ k b. Goes (spot_at ps k) b) (λ k b. AreToldAlike (find P ((gain_at gains k).declared ++ f.declared)) (find Q (b.declared ++ g.declared)))
        (λ k b x. subst (λ (y : Gain). AreToldAlike (find P (y.declared ++ f.declared)) (find Q (b.declared ++ g.declared))) (sym (gain_of_spot ps k)) (x.told i)) ks bs pairs

    -- a token of no item: what is found is a member
    outside : All (λ p. is_between p.at (end_of p) i ≡ false) ps → AreToldAlike (find P (gained gains ++ f.declared)) (find Q (gained bs ++ g.declared))
    outside out =
        told_of_members ks gains bs of_gains P Q f.declared g.declared tells
        (each_weaker (λ k b. Goes (spot_at ps k) b)
        (λ k b. All (λ d. P d ≡ true → (d.kind ≡ Member) × (d.linkage ≡ Absent)) (gain_at gains k).declared × All (λ d. Q d ≡ true → (d.kind ≡ Member) × (d.linkage ≡ Absent)) b.declared)
        members_of_pair ks bs pairs)
        (before.facts.told i)
      where
        off_range : (k : ℕ) → is_between (spot_at ps k).at (end_of (spot_at ps k)) i ≡ false
        off_range k = elim (cases_Bool (nat_lt (k - 1) (length ps))) [
          | inl less ↦ All-get_or (λ p. is_between p.at (end_of p) i ≡ false) ps (k - 1) no_spot (ltb-true (k - 1) (length ps) less) out
          | inr past ↦ past_range ps (k - 1) i (ltb-false (k - 1) (length ps) past)
        ]

        members_of_pair : (k : ℕ) (b : Gain) → Goes (spot_at ps k) b
            → All (λ d. P d ≡ true → (d.kind ≡ Member) × (d.linkage ≡ Absent)) (gain_at gains k).declared × All (λ d. Q d ≡ true → (d.kind ≡ Member) × (d.linkage ≡ Absent)) b.declared
        members_of_pair k b x =
            let p : Spot = spot_at ps k in (
              subst (λ (y : Gain). All (λ d. P d ≡ true → (d.kind ≡ Member) × (d.linkage ≡ Absent)) y.declared) (sym (gain_of_spot ps k))
                  (told_by P (IsNamedIn p.at (end_of p)) p.gain.declared x.members x.names
                  (λ d e name other.
                  let r = (name other).0 in
                  let here : d.name_at ≡ i = eqb-true d.name_at i e in
                  not_between p.at (end_of p) i (off_range k) (omega (arith, r.0, here), omega (arith, r.1, here)))),
              told_by Q (λ d. is_member d.space ≡ false → (j : ℕ) → d.name_at ≡ m j → (p.at ≤ j) × (j < end_of p)) b.declared x.others x.named
                  (λ d e name other. not_between p.at (end_of p) i (off_range k) (name other i (eqb-true d.name_at (m i) e))),
            )

    -- a token of one item: no other one, and nothing in front, is named by it
    inside : Holder ps i → AreToldAlike (find P (gained gains ++ f.declared)) (find Q (gained bs ++ g.declared))
    inside h =
        let one : ℕ = suc h.at in
        let holder : Spot = get_or ps h.at no_spot in
        let r : (holder.at ≤ i) × (i < end_of holder) = between_parts holder.at (end_of holder) i h.within in
        let c : IsMine holder = mine_at h.at h.short in
        let none_old : find P f.declared ≡ None =
        nothing_first P f.declared
        (none_passes P (IsOwnName (from_on (lo + 1))) f.declared before.known.low.declared
        (λ d own. off_low d.name_at (low_name (lo + 1) d.name_at own.name) (omega (arith, r.0, c.low)))) in
        let none_new : find Q g.declared ≡ None = told_none (find P f.declared) (find Q g.declared) (before.facts.told i) none_old in
        told_in_one ks gains bs of_gains P Q f.declared g.declared tells one
        (each_along (λ (k : ℕ). 1 ≤ k) (λ k b. Goes (spot_at ps k) b)
        (λ k b. (k == one) ≡ false → (filter P (gain_at gains k).declared ≡ []) × (filter Q b.declared ≡ []))
        (λ k b some x other.
        let free : filter P (spot_at ps k).gain.declared ≡ [] = elsewhere_free h k b some x other in (
          ap (λ (y : Gain). filter P y.declared) (gain_of_spot ps k) ∙ free,
          nothing_left Q b.declared g.declared
              (told_none (find P ((spot_at ps k).gain.declared ++ f.declared)) (find Q (b.declared ++ g.declared)) (x.told i)
              (nothing_in P (spot_at ps k).gain.declared f.declared free none_old)),
        )) ks bs (order_low (length ps) ks of) pairs)
        (order_hits (length ps) ks one of ∙ hits-once (length ps) 1 one (omega arith) (omega (arith, h.short))) none_old none_new
      where
        off_low : (k : ℕ) → (k ≡ 0) ⊎ (k < lo + 1) → lo + 1 ≤ i → (k == i) ≡ false
        off_low k (inl e) far_i = ne_eqb k i (λ w. omega (arith, e, w, far_i))
        off_low k (inr e) far_i = ne_eqb k i (λ w. omega (arith, e, w, far_i))

        off_near : (p q : Spot) (k : ℕ) → IsMine p → IsMine q → AreSpotsApart old p q → (q.at ≤ i) × (i < end_of q)
            → (k < lo + 1) ⊎ (((p.at ≤ k) × (k ≤ end_of p)) ⊎ (k ≡ p.frame.token)) → k ≡ i → ⊥
        off_near p q k c d s r (inl e) w = omega (arith, e, w, r.0, d.low)
        off_near p q k c d s r (inr (inl e)) w = by (places_apart old p q s)
          where
            by : (end_of p + 1 ≤ q.at) ⊎ (end_of q + 1 ≤ p.at) → ⊥
            by (inl z) = omega (arith, z, e.1, w, r.0)
            by (inr z) = omega (arith, z, e.0, w, r.1)
        off_near p q k c d s r (inr (inr e)) w = by s.behind
          where
            by : IsBehind p q ⊎ IsBehind q p → ⊥
            by (inl z) = omega (arith, z.0, c.token, e, w, r.0)
            by (inr z) = omega (arith, z.1, e, w, r.1)

        elsewhere_free : (h : Holder ps i) (k : ℕ) (b : Gain) → 1 ≤ k → Goes (spot_at ps k) b → (k == suc h.at) ≡ false → filter P (spot_at ps k).gain.declared ≡ []
        elsewhere_free h k b some x other = elim (cases_Bool (nat_lt (k - 1) (length ps))) [
          | inr past ↦ ap (λ (p : Spot). filter P p.gain.declared) (get_or_past ps (k - 1) no_spot (ltb-false (k - 1) (length ps) past))
          | inl less ↦
              let p : Spot = spot_at ps k in
              let holder : Spot = get_or ps h.at no_spot in
              let k' : k - 1 < length ps = ltb-true (k - 1) (length ps) less in
              let r : (holder.at ≤ i) × (i < end_of holder) = between_parts holder.at (end_of holder) i h.within in
              elim (cases_Bool (k - 1 == h.at)) [
                | inl same ↦ absurd (omega (arith, some, eqb-true (k - 1) h.at same, eqb-false k (suc h.at) other))
                | inr apart_at_all ↦
                    none_passes P (λ d. (d.name_at < lo + 1) ⊎ (((p.at ≤ d.name_at) × (d.name_at ≤ end_of p)) ⊎ (d.name_at ≡ p.frame.token))) p.gain.declared x.near
                    (λ d near. ne_eqb d.name_at i (off_near p holder d.name_at (mine_at (k - 1) k') (mine_at h.at h.short)
                    (two_apart (k - 1) h.at k' h.short (eqb-false (k - 1) h.at apart_at_all)) r near))
              ]
        ]

  told_together : (i : ℕ) → AreToldAlike (find (λ d. d.name_at == i) (gained gains ++ f.declared)) (find (λ d. d.name_at == m i) (gained bs ++ g.declared))
  told_together i = by (held_by ps i)
    where
      by : Holder ps i ⊎ All (λ p. is_between p.at (end_of p) i ≡ false) ps
          → AreToldAlike (find (λ d. d.name_at == i) (gained gains ++ f.declared)) (find (λ d. d.name_at == m i) (gained bs ++ g.declared))
      by (inl h) = inside i h
      by (inr h) = outside i h

  -- the item in which a token stands, in the new order
  holder_goes : (i : ℕ) (h : Holder ps i) → Beside (λ k b. Goes (spot_at ps k) b) (suc h.at)
  holder_goes i h =
      beside_at (λ k b. Goes (spot_at ps k) b) (suc h.at) ks bs pairs
      (order_hits (length ps) ks (suc h.at) of ∙ hits-once (length ps) 1 (suc h.at) (omega arith) (omega (arith, h.short)))

  within_at : (i : ℕ) (h : Holder ps i) → is_between (spot_at ps (suc h.at)).at (end_of (spot_at ps (suc h.at))) i ≡ true
  within_at i h =
      let same : h.at ≡ suc h.at - 1 = omega arith in
      subst (λ (n : ℕ). is_between (get_or ps n no_spot).at (end_of (get_or ps n no_spot)) i ≡ true) same h.within

  -- ---- All that is known

  pub record AreGained : Type 0 where
    pub declared : behind.declared ≡ gained gains ++ f.declared
    pub bound : behind.occurrences ≡ noted gains ++ f.occurrences
    pub jumps : behind.jumps ≡ f.jumps
    pub fault : behind.fault ≡ None
    pub begun : (i : ℕ) → All (λ p. is_between p.at (end_of p) i ≡ false) ps → is_in behind.begun i ≡ is_in f.begun i
    pub complete : (i : ℕ) → All (λ p. is_between p.at (end_of p) i ≡ false) ps → is_in behind.complete i ≡ is_in f.complete i
    pub new_declared : behind'.declared ≡ gained bs ++ g.declared
    pub new_bound : behind'.occurrences ≡ noted bs ++ g.occurrences
    pub new_jumps : behind'.jumps ≡ g.jumps
    pub new_fault : behind'.fault ≡ None
    pub new_begun : (i : ℕ) → All (λ p. is_between p.at (end_of p) i ≡ false) ps → is_in behind'.begun (m i) ≡ is_in g.begun (m i)
    pub new_complete : (i : ℕ) → All (λ p. is_between p.at (end_of p) i ≡ false) ps → is_in behind'.complete (m i) ≡ is_in g.complete (m i)

  pub lists_together : AreGained → GoTogether m old new hi beyond behind behind'
  lists_together x = record {
    asked = λ q w.
        subst (λ (ds : List Declaration). AreMoved m (filter (answers old q) ds) (filter (answers new (moved_question m q)) behind'.declared)) (sym x.declared)
        (subst (λ (es : List Declaration). AreMoved m (filter (answers old q) (gained gains ++ f.declared)) (filter (answers new (moved_question m q)) es)) (sym x.new_declared)
        (asked_together q w));
    told = λ i.
        subst (λ (ds : List Declaration). AreToldAlike (find (λ d. d.name_at == i) ds) (find (λ d. d.name_at == m i) behind'.declared)) (sym x.declared)
        (subst (λ (es : List Declaration). AreToldAlike (find (λ d. d.name_at == i) (gained gains ++ f.declared)) (find (λ d. d.name_at == m i) es)) (sym x.new_declared)
        (told_together i));
    begun = λ i. begun_by i (held_by ps i);
    complete = λ i. complete_by i (held_by ps i);
    jumps = x.new_jumps ∙ (before.facts.jumps ∙ ap (λ (js : List ℕ). map m js) (sym x.jumps));
    fault = ap (λ o. is_some o) x.new_fault ∙ sym (ap (λ o. is_some o) x.fault);
    noted = λ i.
        ap (λ (os : List Occurrence). filter (λ (o : Occurrence). o.index == m i) os) x.new_bound
        ∙ (noted_together i ∙ ap (λ (os : List Occurrence). map (moved_occurrence m) (filter (λ (o : Occurrence). o.index == i) os)) (sym x.bound));
  }
    where
      begun_by : (i : ℕ) → Holder ps i ⊎ All (λ p. is_between p.at (end_of p) i ≡ false) ps → is_in behind'.begun (m i) ≡ is_in behind.begun i
      begun_by i (inl h) = (holder_goes i h).holds.begun i (within_at i h)
      begun_by i (inr h) = x.new_begun i h ∙ (before.facts.begun i ∙ sym (x.begun i h))

      complete_by : (i : ℕ) → Holder ps i ⊎ All (λ p. is_between p.at (end_of p) i ≡ false) ps → is_in behind'.complete (m i) ≡ is_in behind.complete i
      complete_by i (inl h) = (holder_goes i h).holds.complete i (within_at i h)
      complete_by i (inr h) = x.new_complete i h ∙ (before.facts.complete i ∙ sym (x.complete i h))
