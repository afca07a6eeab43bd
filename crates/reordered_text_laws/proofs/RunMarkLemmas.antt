-- A run and what it is expanded to have the same marks.
use Rattle.std.proofs.Common.{◌≡◌, ℕ, zero, suc, ◌+◌, ◌-◌, ◌<◌, ◌≤◌, ◌⊎◌, inl, inr, Bool, true, false, List, [], ◌∷◌, ◌++◌, length, take, drop, map, Option, Some, refl, ap, sym, subst, ◌∙◌, arith, length-drop}
use Rattle.std.specs.Prelude.{slice_get}
use Rattle.std.proofs.lemmas.Bool.{false≢true}
use Rattle.std.proofs.lemmas.Option.{same_Some, slice_get_within}
use Rattle.std.proofs.lemmas.List.{map-append}
use Rattle.cs_base.specs.Token.{Token}
use Rattle.cs_base.proofs.ListLemmas.{in_drop as out_drop, in_take as out_take}
use Rattle.line_shape.specs.Signs.{is_open, is_close, is_comma}
use Rattle.list_cuts.specs.Cuts.{Cut, done, keep, list, Items, ended, item, count_of, span_of}
use Rattle.expansion_laws.specs.Arranging.{IsMark, MarksStand, ItemsStand}
use Rattle.expansion_laws.proofs.MarkLemmas.{length_at, close-no_open}
use Rattle.reordered_text_laws.specs.Marks.{ends_of, marks_of, marks_in, IsMarked, AreMarked}
use Rattle.reordered_text_laws.specs.Runs.{RunsHaveMarks}

first_of : {X : Type 0} (n : ℕ) (xs : List X) (x : X) → slice_get xs n ≡ Some x → slice_get (drop n xs) 0 ≡ Some x
first_of zero xs x is = is
first_of (suc n) [] x is = is
first_of (suc n) (y ∷ xs) x is = first_of n xs x is

-- these stand among all from one on
abbrev Window : List Token → ℕ → List Token → Type 0
Window all at part = (k : ℕ) (t : Token) → slice_get part k ≡ Some t → slice_get all (at + k) ≡ Some t

window_drop : (all part : List Token) (at n : ℕ) → Window all at part → Window all (at + n) (drop n part)
window_drop all part at n h = λ k t is. let on : at + n + k ≡ at + (n + k) = omega arith in ap (λ (i : ℕ). slice_get all i) on ∙ h (n + k) t (out_drop n k part t is)

window_take : (all part : List Token) (at n : ℕ) → Window all at part → Window all at (take n part)
window_take all part at n h = λ k t is. h k t (out_take n k part t is)

-- a mark may stand from `from` on: these begin there, or with a `)` before it
abbrev MayBegin : ℕ → ℕ → List Token → Type 0
MayBegin from at part = (from ≤ at) ⊎ ((from ≡ at + 1) × ((t : Token) × (slice_get part 0 ≡ Some t) × (is_close t ≡ true)))

opens_from : (from at k : ℕ) (part : List Token) (t : Token) → MayBegin from at part → slice_get part k ≡ Some t → is_open t ≡ true → from ≤ at + k
opens_from from at k part t (inl le) is open_ = omega (arith, le)
opens_from from at zero part t (inr h) is open_ =
    let same : h.1.0 ≡ t = same_Some h.1.0 t (sym h.1.1 ∙ is) in
    let other : is_open t ≡ false = close-no_open t (ap is_close (sym same) ∙ h.1.2) in
    absurd (false≢true (sym other ∙ open_))
opens_from from at (suc k) part t (inr h) is open_ = let e = h.0 in omega (arith, e)

module _ (R O : List Token) where
  abbrev run_tokens : List ℕ → List (Option Token)
  run_tokens ms = map (slice_get R) ms

  abbrev out_tokens : List ℕ → List (Option Token)
  out_tokens ms = map (slice_get O) ms

  record CutMarks (fa a limit_a fb b limit_b : ℕ) (c d : Cut) : Type 0 where
    one : IsMarked fa a limit_a c
    two : IsMarked fb b limit_b d
    same : map run_tokens (marks_of a c) ≡ map out_tokens (marks_of b d)

  record ItemsMarks (a b : ℕ) (is js : Items) (run out : List Token) : Type 0 where
    one : AreMarked a is
    two : AreMarked b js
    some : 0 < count_of js → 0 < count_of is
    ends : run_tokens (ends_of a is) ≡ out_tokens (ends_of b js)
    same : map run_tokens (marks_in a is) ≡ map out_tokens (marks_in b js)
    closes : 0 < count_of js → (t : Token) × (slice_get run (span_of is) ≡ Some t) × (slice_get out (span_of js) ≡ Some t) × (is_close t ≡ true)

  same_join : {X : Type 0} (f g : List ℕ → X) (xs ys us vs : List (List ℕ)) → map f xs ≡ map g us → map f ys ≡ map g vs → map f (xs ++ ys) ≡ map g (us ++ vs)
  same_join f g xs ys us vs a b = map-append f xs ys ∙ ap (λ (l : List _). l ++ map f ys) a ∙ ap (λ (l : List _). map g us ++ l) b ∙ sym (map-append g us vs)

  -- a mark in both
  both_at : (sign : Token → Bool) (run out : List Token) (a b k m : ℕ) → Window R a run → Window O b out → IsMark sign run out k m → slice_get R (a + k) ≡ slice_get O (b + m)
  both_at sign run out a b k m wr wo mk = wr k mk.mark mk.run_has ∙ sym (wo m mk.mark mk.out_has)

  mutual
    unfolding marks_of marks_in ends_of span_of count_of

    cut_both : (fa a fb b : ℕ) (c d : Cut) (run out : List Token) → Window R a run → Window O b out → MayBegin fa a run → MayBegin fb b out → MarksStand c d run out
        → CutMarks fa a (a + length run) fb b (b + length out) c d
    cut_both fa a fb b done done run out wr wo ma mb h = record { one = tt; two = tt; same = refl }
    cut_both fa a fb b (keep (suc k) (list is c)) (keep (suc m) (list js d)) run out wr wo ma mb h =
        let mk = h.0 in
        let some = h.1 in
        let wr1 = window_drop R run a (suc k) wr in
        let wo1 = window_drop O out b (suc m) wo in
        let r = items_both (a + suc k) (b + suc m) is js (drop (suc k) run) (drop (suc m) out) wr1 wo1 h.2 in
        let last = r.closes some in
        let ends_a = slice_get_within (drop (suc k) run) (span_of is) last.0 last.1 in
        let ends_b = slice_get_within (drop (suc m) out) (span_of js) last.0 last.2 in
        let long_a = length-drop (suc k) run in
        let long_b = length-drop (suc m) out in
        let long_a2 = length-drop (span_of is) (drop (suc k) run) in
        let long_b2 = length-drop (span_of js) (drop (suc m) out) in
        let head_a : slice_get (drop (span_of is) (drop (suc k) run)) 0 ≡ Some last.0 = first_of (span_of is) (drop (suc k) run) last.0 last.1 in
        let head_b : slice_get (drop (span_of js) (drop (suc m) out)) 0 ≡ Some last.0 = first_of (span_of js) (drop (suc m) out) last.0 last.2 in
        let q = cut_both (a + suc k + span_of is + 1) (a + suc k + span_of is) (b + suc m + span_of js + 1) (b + suc m + span_of js) c d
        (drop (span_of is) (drop (suc k) run)) (drop (span_of js) (drop (suc m) out))
        (window_drop R (drop (suc k) run) (a + suc k) (span_of is) wr1) (window_drop O (drop (suc m) out) (b + suc m) (span_of js) wo1)
        (inr (refl, (last.0, head_a, last.3))) (inr (refl, (last.0, head_b, last.3))) h.3 in
        let limit_a : a + suc k + span_of is + length (drop (span_of is) (drop (suc k) run)) ≡ a + length run = omega (arith, ends_a, long_a, long_a2) in
        let limit_b : b + suc m + span_of js + length (drop (span_of js) (drop (suc m) out)) ≡ b + length out = omega (arith, ends_b, long_b, long_b2) in
        let less_a : a + suc k - 1 ≡ a + k = omega arith in
        let less_b : b + m ≡ b + suc m - 1 = omega arith in
        record {
          one = (
            opens_from fa a k run mk.mark ma mk.run_has mk.is_sign,
            r.some some,
            r.one,
            omega (arith, ends_a, long_a),
            subst (λ (i : ℕ). IsMarked (a + suc k + span_of is + 1) (a + suc k + span_of is) i c) limit_a q.one,
          );
          two = (
            opens_from fb b m out mk.mark mb mk.out_has mk.is_sign,
            some,
            r.two,
            omega (arith, ends_b, long_b),
            subst (λ (i : ℕ). IsMarked (b + suc m + span_of js + 1) (b + suc m + span_of js) i d) limit_b q.two,
          );
          same =
              ap (λ (x : Option Token). (x ∷ run_tokens (ends_of (a + suc k) is)) ∷ map run_tokens (marks_in (a + suc k) is ++ marks_of (a + suc k + span_of is) c))
              (ap (λ (i : ℕ). slice_get R i) less_a ∙ both_at is_open run out a b k m wr wo mk ∙ ap (λ (i : ℕ). slice_get O i) less_b)
              ∙ ap (λ (l : List (Option Token)). (slice_get O (b + suc m - 1) ∷ l) ∷ map run_tokens (marks_in (a + suc k) is ++ marks_of (a + suc k + span_of is) c)) r.ends
              ∙ ap (λ (l : List (List (Option Token))). out_tokens ((b + suc m - 1) ∷ ends_of (b + suc m) js) ∷ l)
              (same_join run_tokens out_tokens (marks_in (a + suc k) is) (marks_of (a + suc k + span_of is) c) (marks_in (b + suc m) js) (marks_of (b + suc m + span_of js) d) r.same q.same);
        }
    cut_both fa a fb b c d run out wr wo ma mb h = absurd h

    items_both : (a b : ℕ) (is js : Items) (run out : List Token) → Window R a run → Window O b out → ItemsStand is js run out → ItemsMarks a b is js run out
    items_both a b ended ended run out wr wo h = record { one = tt; two = tt; some = λ lt. lt; ends = refl; same = refl; closes = λ lt. absurd (omega (arith, lt)) }
    items_both a b (item n c gap ended) (item m d gap2 ended) run out wr wo h =
        let mk = h.1.2 in
        let g1 = h.1.0 in
        let g2 = h.1.1 in
        let q = cut_both a a b b c d (take n run) (take m out) (window_take R run a n wr) (window_take O out b m wo) (inl (omega arith)) (inl (omega arith)) h.0 in
        let long_a : length (take n run) ≡ n = length_at run n mk.mark mk.run_has in
        let long_b : length (take m out) ≡ m = length_at out m mk.mark mk.out_has in
        let at_a : n ≡ n + (gap + 0) = omega (arith, g1) in
        let at_b : m ≡ m + (gap2 + 0) = omega (arith, g2) in
        record {
          one = (subst (λ (i : ℕ). IsMarked a a (a + i) c) long_a q.one, g1, tt);
          two = (subst (λ (i : ℕ). IsMarked b b (b + i) d) long_b q.two, g2, tt);
          some = λ lt. omega arith;
          ends = ap (λ (x : Option Token). x ∷ []) (both_at is_close run out a b n m wr wo mk);
          same = same_join run_tokens out_tokens (marks_of a c) [] (marks_of b d) [] q.same refl;
          closes = λ lt. (mk.mark, ap (λ (i : ℕ). slice_get run i) (sym at_a) ∙ mk.run_has, ap (λ (i : ℕ). slice_get out i) (sym at_b) ∙ mk.out_has, mk.is_sign);
        }
    items_both a b (item n c gap (item n2 c2 g2 r2)) (item m d gap2 (item m2 d2 h2 s2)) run out wr wo h =
        let mk = h.1.2 in
        let g1 = h.1.0 in
        let g3 = h.1.1 in
        let q = cut_both a a b b c d (take n run) (take m out) (window_take R run a n wr) (window_take O out b m wo) (inl (omega arith)) (inl (omega arith)) h.0 in
        let long_a : length (take n run) ≡ n = length_at run n mk.mark mk.run_has in
        let long_b : length (take m out) ≡ m = length_at out m mk.mark mk.out_has in
        let r = items_both (a + (n + gap)) (b + (m + gap2)) (item n2 c2 g2 r2) (item m2 d2 h2 s2) (drop (n + gap) run) (drop (m + gap2) out)
        (window_drop R run a (n + gap) wr) (window_drop O out b (m + gap2) wo) h.2 in
        let last = r.closes (omega arith) in
        let at_a : n + gap + (n2 + (g2 + span_of r2)) ≡ n + (gap + (n2 + (g2 + span_of r2))) = omega arith in
        let at_b : m + gap2 + (m2 + (h2 + span_of s2)) ≡ m + (gap2 + (m2 + (h2 + span_of s2))) = omega arith in
        record {
          one = (subst (λ (i : ℕ). IsMarked a a (a + i) c) long_a q.one, g1, r.one);
          two = (subst (λ (i : ℕ). IsMarked b b (b + i) d) long_b q.two, g3, r.two);
          some = λ lt. omega arith;
          ends = ap (λ (x : Option Token). x ∷ run_tokens (ends_of (a + (n + gap)) (item n2 c2 g2 r2))) (both_at is_comma run out a b n m wr wo mk)
              ∙ ap (λ (l : List (Option Token)). slice_get O (b + m) ∷ l) r.ends;
          same = same_join run_tokens out_tokens (marks_of a c) (marks_in (a + (n + gap)) (item n2 c2 g2 r2)) (marks_of b d) (marks_in (b + (m + gap2)) (item m2 d2 h2 s2)) q.same r.same;
          closes = λ lt. (
            last.0,
            ap (λ (i : ℕ). slice_get run i) (sym at_a) ∙ out_drop (n + gap) (n2 + (g2 + span_of r2)) run last.0 last.1,
            ap (λ (i : ℕ). slice_get out i) (sym at_b) ∙ out_drop (m + gap2) (m2 + (h2 + span_of s2)) out last.0 last.2,
            last.3,
          );
        }
    items_both a b (item n c gap ended) (item m d gap2 (item m2 d2 h2 s2)) run out wr wo h = absurd h.1
    items_both a b (item n c gap (item n2 c2 g2 r2)) (item m d gap2 ended) run out wr wo h = absurd h.1
    items_both a b ended (item m d gap2 more2) run out wr wo h = absurd h
    items_both a b (item n c gap more) ended run out wr wo h = absurd h

pub runs_have_marks : RunsHaveMarks
runs_have_marks = λ c d run out h.
    let window : (ts : List Token) → Window ts 0 ts = λ ts k t is. let same : k ≡ 0 + k = omega arith in ap (λ (i : ℕ). slice_get ts i) (sym same) ∙ is in
    let r = cut_both run out 0 0 0 0 c d run out (window run) (window out) (inl (omega arith)) (inl (omega arith)) h in
    let one : 0 + length run ≡ length run = omega arith in
    let two : 0 + length out ≡ length out = omega arith in
    record {
      run_marked = subst (λ (i : ℕ). IsMarked 0 0 i c) one r.one;
      out_marked = subst (λ (i : ℕ). IsMarked 0 0 i d) two r.two;
      same = r.same;
    }
