-- What is found in characters in a new order, where each part of them may stand elsewhere.
use Rattle.std.proofs.Common.{◌≡◌, ℕ, ◌+◌, ◌≤◌, Bool, true, false, ◌==◌, List, [], ◌∷◌, ◌++◌, length, take, drop, map, refl, sym, ap, subst, ◌∙◌, arith, append_assoc, take-append-drop, take-add}
use Rattle.std.proofs.lemmas.List.{drop-drop, take-map, drop-map, map-append, length-map, take-append-le, drop-append-le}
use Rattle.lexer.specs.Tokens.{Found, FoundToken, FoundOpen}
use Rattle.list_cuts.specs.Cuts.{Cut, done, keep, list, Items, ended, item, span_of, extent_of, IsOrder, arranged, AreOf}
use Rattle.list_cuts.proofs.CutLemmas.{arranged-append, short-drop}
use Rattle.arranged_text_laws.specs.Labels.{head_with, masked, masked_items, starts, Firsts, FirstsOfItems}
use Rattle.arranged_text_laws.specs.Settling.{begins_stop}
use Rattle.arranged_text_laws.specs.Marks.{Before, front_at, Mark, text, brought, with_labels}
use Rattle.arranged_text_laws.specs.Along.{SettlesAlong}
use Rattle.arranged_text_laws.specs.Weighed.{together, weighed}
use Rattle.arranged_text_laws.proofs.FlowLaw.{flowed, masked_items-append, firsts-append}
use Rattle.arranged_text_laws.proofs.MarkLemmas.{token_flow, along_flows, behind_stop}
use Rattle.arranged_text_laws.proofs.WeighedLemmas.{is_one, arranged_together, masked_together}

-- ---- labels do not change how many there are

widths_head : {X : Type 0} (h : X → X) (xss : List (List X)) → map length (head_with (map h) xss) ≡ map length xss
widths_head h [] = refl
widths_head h (xs ∷ xss) = ap (λ (n : ℕ). n ∷ map length xss) (length-map xs h)

mutual
  unfolding masked masked_items span_of

  widths_masked : {X : Type 0} (h : X → X) (c : Cut) (xss : List (List X)) → map length (masked (map h) c xss) ≡ map length xss
  widths_masked h done xss = refl
  widths_masked h (keep n c) xss =
      map-append length (take n xss) (masked (map h) c (drop n xss)) ∙ ap (λ (l : List ℕ). map length (take n xss) ++ l) (widths_masked h c (drop n xss))
      ∙ sym (map-append length (take n xss) (drop n xss)) ∙ ap (map length) (take-append-drop n xss)
  widths_masked h (list is c) xss =
      map-append length (masked_items (map h) is xss) (masked (map h) c (drop (span_of is) xss))
      ∙ ap (λ (l : List ℕ). map length (masked_items (map h) is xss) ++ l) (widths_masked h c (drop (span_of is) xss))
      ∙ ap (λ (l : List ℕ). l ++ map length (drop (span_of is) xss)) (widths_items h is xss)
      ∙ sym (map-append length (take (span_of is) xss) (drop (span_of is) xss)) ∙ ap (map length) (take-append-drop (span_of is) xss)

  widths_items : {X : Type 0} (h : X → X) (is : Items) (xss : List (List X)) → map length (masked_items (map h) is xss) ≡ map length (take (span_of is) xss)
  widths_items h ended xss = refl
  widths_items h (item n c gap more) xss =
      let first : map length (head_with (map h) (masked (map h) c (take n xss))) ≡ map length (take n xss) =
      widths_head h (masked (map h) c (take n xss)) ∙ widths_masked h c (take n xss) in
      map-append length (head_with (map h) (masked (map h) c (take n xss))) (take gap (drop n xss) ++ masked_items (map h) more (drop (n + gap) xss))
      ∙ ap (λ (l : List ℕ). l ++ map length (take gap (drop n xss) ++ masked_items (map h) more (drop (n + gap) xss))) first
      ∙ ap (λ (l : List ℕ). map length (take n xss) ++ l)
      (map-append length (take gap (drop n xss)) (masked_items (map h) more (drop (n + gap) xss))
      ∙ ap (λ (l : List ℕ). map length (take gap (drop n xss)) ++ l)
      (widths_items h more (drop (n + gap) xss) ∙ ap (λ (l : List (List _)). map length (take (span_of more) l)) (sym (drop-drop gap n xss)))
      ∙ sym (map-append length (take gap (drop n xss)) (take (span_of more) (drop gap (drop n xss))))
      ∙ ap (map length) (sym (take-add gap (span_of more) (drop n xss))))
      ∙ sym (map-append length (take n xss) (take (gap + span_of more) (drop n xss))) ∙ ap (map length) (sym (take-add n (gap + span_of more) xss))

-- ---- whether one is brought says how many are

abbrev one : ℕ → Bool
one n = n == 1

starts_widths : {X : Type 0} (xss : List (List X)) → starts is_one xss ≡ starts one (map length xss)
starts_widths [] = refl
starts_widths (xs ∷ xss) = refl

mutual
  unfolding span_of

  firsts_to : {X : Type 0} (c : Cut) (xss : List (List X)) → Firsts is_one c xss → Firsts one c (map length xss)
  firsts_to done xss h = tt
  firsts_to (keep n c) xss h = rw (drop-map length n xss) (firsts_to c (drop n xss) h)
  firsts_to (list is c) xss h = (items_to is xss h.0, rw (drop-map length (span_of is) xss) (firsts_to c (drop (span_of is) xss) h.1))

  items_to : {X : Type 0} (is : Items) (xss : List (List X)) → FirstsOfItems is_one is xss → FirstsOfItems one is (map length xss)
  items_to ended xss h = tt
  items_to (item n c gap more) xss h =
      rw (take-map length n xss, drop-map length (n + gap) xss)
      (sym (starts_widths (take n xss)) ∙ h.0, h.1, firsts_to c (take n xss) h.2, items_to more (drop (n + gap) xss) h.3)

mutual
  unfolding span_of

  firsts_from : {X : Type 0} (c : Cut) (xss : List (List X)) → Firsts one c (map length xss) → Firsts is_one c xss
  firsts_from done xss h = tt
  firsts_from (keep n c) xss h = firsts_from c (drop n xss) (subst (λ (l : List ℕ). Firsts one c l) (drop-map length n xss) h)
  firsts_from (list is c) xss h =
      (items_from is xss h.0, firsts_from c (drop (span_of is) xss) (subst (λ (l : List ℕ). Firsts one c l) (drop-map length (span_of is) xss) h.1))

  items_from : {X : Type 0} (is : Items) (xss : List (List X)) → FirstsOfItems one is (map length xss) → FirstsOfItems is_one is xss
  items_from ended xss h = tt
  items_from (item n c gap more) xss h = (
    starts_widths (take n xss) ∙ ap (starts one) (sym (take-map length n xss)) ∙ h.0,
    h.1,
    firsts_from c (take n xss) (subst (λ (l : List ℕ). Firsts one c l) (take-map length n xss) h.2),
    items_from more (drop (n + gap) xss) (subst (λ (l : List ℕ). FirstsOfItems one more l) (drop-map length (n + gap) xss) h.3),
  )

-- ---- what stands behind the lists

masked-append : {Y : Type 0} (h : Y → Y) (c : Cut) (xs ys : List Y) → extent_of c ≤ length xs → masked h c (xs ++ ys) ≡ masked h c xs ++ ys
unfolding masked extent_of
masked-append h done xs ys le = refl
masked-append h (keep k c) xs ys le =
    let one : k ≤ length xs = omega (arith, le) in
    let rest : extent_of c ≤ length (drop k xs) = short-drop k (extent_of c) xs le in
    rw (take-append-le k xs ys one, drop-append-le k xs ys one, masked-append h c (drop k xs) ys rest)
    (sym (append_assoc (take k xs) (masked h c (drop k xs)) ys))
masked-append h (list is c) xs ys le =
    let one : span_of is ≤ length xs = omega (arith, le) in
    let rest : extent_of c ≤ length (drop (span_of is) xs) = short-drop (span_of is) (extent_of c) xs le in
    rw (masked_items-append h is xs ys one, drop-append-le (span_of is) xs ys one, masked-append h c (drop (span_of is) xs) ys rest)
    (sym (append_assoc (masked_items h is xs) (masked h c (drop (span_of is) xs)) ys))

pub firsts_append : {Y : Type 0} (p : Y → Bool) (c : Cut) (xs ys : List Y) → extent_of c ≤ length xs → Firsts p c xs → Firsts p c (xs ++ ys)
unfolding extent_of
firsts_append p done xs ys le h = tt
firsts_append p (keep k c) xs ys le h =
    let one : k ≤ length xs = omega (arith, le) in
    rw (drop-append-le k xs ys one) (firsts_append p c (drop k xs) ys (short-drop k (extent_of c) xs le) h)
firsts_append p (list is c) xs ys le h =
    let one : span_of is ≤ length xs = omega (arith, le) in (
      firsts-append p is xs ys one h.0,
      rw (drop-append-le (span_of is) xs ys one) (firsts_append p c (drop (span_of is) xs) ys (short-drop (span_of is) (extent_of c) xs le) h.1),
    )

-- ---- the law of characters

labels_twice : (gap first : Bool) (f : Found) → with_labels false false (with_labels gap first f) ≡ with_labels false false f
labels_twice gap first (FoundToken t was) = refl
labels_twice gap first (FoundOpen at) = refl

all_twice : (gap first : Bool) (fs : List Found) → map (with_labels false false) (map (with_labels gap first) fs) ≡ map (with_labels false false) fs
all_twice gap first [] = refl
all_twice gap first (f ∷ fs) =
    ap (λ g. g ∷ map (with_labels false false) (map (with_labels gap first) fs)) (labels_twice gap first f)
    ∙ ap (λ (gs : List Found). with_labels false false f ∷ gs) (all_twice gap first fs)

-- What is found in characters in the new order, and that it is alike.
pub record TokensArranged (order : List ℕ) (c : Cut) (old new : List (List Found)) : Type 0 where
  pub found : List Found
  pub is : together new ≡ arranged order (weighed c (map length old)) found
  pub alike : masked (with_labels false false) (weighed c (map length old)) found ≡ masked (with_labels false false) (weighed c (map length old)) (together old)

pub tokens_arranged : (m : ℕ) (order : List ℕ) → IsOrder m order → (file : ℕ) (st : Before) (c : Cut) (ms ns : List Mark) (end : Before) → AreOf m c → extent_of c ≤ length ms
    → SettlesAlong st c ms (text ns) end → begins_stop (text ns) ≡ true
    → TokensArranged order c (brought file 0 st.gap (front_at st) (ms ++ ns)) (brought file 0 st.gap (front_at st) (arranged order c (ms ++ ns)))
tokens_arranged m order is file st c ms ns end all within along stop =
    let h = with_labels false false in
    let F = flowed (token_flow file) (map h) m order (λ s fs. all_twice s.gap s.first fs) (λ s fs. ap (λ (n : ℕ). n == 1) (length-map fs (with_labels s.gap s.first))) is st c ms end all within (along_flows file st c ms (text ns) end along) in
    let R = brought file 0 end.gap (front_at end) ns in
    let ends = behind_stop ns stop in
    let old : brought file 0 st.gap (front_at st) (ms ++ ns) ≡ F.old ++ R = F.olds ns ends in
    let room : extent_of c ≤ length F.old = rw F.old_long within in
    let room_new : extent_of c ≤ length F.new = rw F.new_long within in
    let new : brought file 0 st.gap (front_at st) (arranged order c (ms ++ ns)) ≡ arranged order c (F.new ++ R) =
    ap (brought file 0 st.gap (front_at st)) (arranged-append order c ms ns within) ∙ F.news ns ends ∙ sym (arranged-append order c F.new R room_new) in
    let alike : masked (map h) c (F.new ++ R) ≡ masked (map h) c (F.old ++ R) =
    masked-append (map h) c F.new R room_new ∙ ap (λ (l : List (List Found)). l ++ R) F.alike ∙ sym (masked-append (map h) c F.old R room) in
    let widths : map length (F.new ++ R) ≡ map length (F.old ++ R) =
    sym (widths_masked h c (F.new ++ R)) ∙ ap (map length) alike ∙ widths_masked h c (F.old ++ R) in
    let ones : Firsts is_one c (F.old ++ R) = firsts_append is_one c F.old R room F.firsts in
    let new_ones : Firsts is_one c (F.new ++ R) = firsts_from c (F.new ++ R) (subst (λ (l : List ℕ). Firsts one c l) (sym widths) (firsts_to c (F.old ++ R) ones)) in
    let tc = weighed c (map length (F.old ++ R)) in
    let made : together (arranged order c (F.new ++ R)) ≡ arranged order tc (together (F.new ++ R)) =
    arranged_together order c (F.new ++ R) ∙ ap (λ (ws : List ℕ). arranged order (weighed c ws) (together (F.new ++ R))) widths in
    let same : masked h tc (together (F.new ++ R)) ≡ masked h tc (together (F.old ++ R)) =
    ap (λ (ws : List ℕ). masked h (weighed c ws) (together (F.new ++ R))) (sym widths)
    ∙ sym (masked_together h c (F.new ++ R) new_ones) ∙ ap together alike ∙ masked_together h c (F.old ++ R) ones in
    subst (λ (o : List (List Found)). TokensArranged order c o (brought file 0 st.gap (front_at st) (arranged order c (ms ++ ns)))) (sym old)
    (record { found = together (F.new ++ R); is = ap together new ∙ made; alike = same })
