-- A cut with marks that are signs has these where they are looked for.
use Rattle.std.proofs.Common.{◌≡◌, ℕ, suc, ◌+◌, ◌-◌, ◌<◌, ◌≤◌, Bool, List, [], ◌∷◌, ◌++◌, take, drop, Some, refl, ap, sym, ◌∙◌, arith}
use Rattle.std.specs.Prelude.{slice_get}
use Rattle.cs_base.specs.Token.{Token}
use Rattle.cs_base.proofs.ListLemmas.{to_drop as in_drop, at_take as in_take}
use Rattle.line_shape.specs.Signs.{is_open, is_close, is_comma}
use Rattle.list_cuts.specs.Cuts.{Cut, done, keep, list, Items, ended, item, span_of}
use Rattle.expansion_laws.specs.Arranging.{IsSign, SignsStand, ItemsSigned}
use Rattle.reordered_text_laws.specs.Marks.{ends_of, marks_of, marks_in, IsMarked, AreMarked, Each}
use Rattle.reordered_text_laws.specs.Runs.{Closes, AreSigned, SignedMarksStand}

each_first : {X : Type 0} (P : X → Type 0) (xs ys : List X) → Each P (xs ++ ys) → Each P xs
each_first P [] ys h = tt
each_first P (x ∷ xs) ys h = (h.0, each_first P xs ys h.1)

each_later : {X : Type 0} (P : X → Type 0) (xs ys : List X) → Each P (xs ++ ys) → Each P ys
each_later P [] ys h = h
each_later P (x ∷ xs) ys h = each_later P xs ys h.1

-- The tokens from one on, before another, stand in these.
abbrev Shows : List Token → ℕ → ℕ → List Token → Type 0
Shows all at limit part = (k : ℕ) (t : Token) → at + k < limit → slice_get all (at + k) ≡ Some t → slice_get part k ≡ Some t

shows_drop : (all part : List Token) (at limit n : ℕ) → Shows all at limit part → Shows all (at + n) limit (drop n part)
shows_drop all part at limit n h = λ k t lt is.
    let on : at + n + k ≡ at + (n + k) = omega arith in
    in_drop n k part t (h (n + k) t (omega (arith, lt)) (ap (λ (i : ℕ). slice_get all i) (sym on) ∙ is))

shows_take : (all part : List Token) (at limit n : ℕ) → at + n ≤ limit → Shows all at limit part → Shows all at (at + n) (take n part)
shows_take all part at limit n le h = λ k t lt is. in_take n k part t (omega (arith, lt)) (h k t (omega (arith, lt, le)) is)

sign_shown : (sign : Token → Bool) (all part : List Token) (at limit k m : ℕ) → Shows all at limit part → m ≡ at + k → m < limit → IsSign sign all m → IsSign sign part k
sign_shown sign all part at limit k m h e lt s =
    record { mark = s.mark; has = h k s.mark (omega (arith, e, lt)) (ap (λ (i : ℕ). slice_get all i) (sym e) ∙ s.has); direct = s.direct; is_sign = s.is_sign }

mutual
  unfolding marks_of marks_in ends_of span_of

  cut_signed : (all part : List Token) (from at limit : ℕ) (c : Cut) → Shows all at limit part → IsMarked from at limit c → Each (AreSigned all) (marks_of at c) → SignsStand c part
  cut_signed all part from at limit done h w each = tt
  cut_signed all part from at limit (keep (suc k) (list is c)) h w each =
      let far = w.3 in
      let place : at + suc k - 1 ≡ at + k = omega arith in
      let inner = shows_drop all part at limit (suc k) h in (
        sign_shown is_open all part at limit k (at + suc k - 1) h place (omega (arith, far)) each.0.0,
        w.1,
        items_signed all (drop (suc k) part) (at + suc k) limit is inner far w.2 each.0.1 (each_first (AreSigned all) (marks_in (at + suc k) is) (marks_of (at + suc k + span_of is) c) each.1),
        cut_signed all (drop (span_of is) (drop (suc k) part)) (at + suc k + span_of is + 1) (at + suc k + span_of is) limit c (shows_drop all (drop (suc k) part) (at + suc k) limit (span_of is) inner) w.4
            (each_later (AreSigned all) (marks_in (at + suc k) is) (marks_of (at + suc k + span_of is) c) each.1),
      )
  cut_signed all part from at limit c h w each = absurd w

  items_signed : (all part : List Token) (at limit : ℕ) (is : Items) → Shows all at limit part → at + span_of is < limit → AreMarked at is → Closes all (ends_of at is) → Each (AreSigned all) (marks_in at is)
      → ItemsSigned is part
  items_signed all part at limit ended h far w closes each = tt
  items_signed all part at limit (item n c gap ended) h far w closes each = (
    cut_signed all (take n part) at at (at + n) c (shows_take all part at limit n (omega (arith, far)) h) w.0 (each_first (AreSigned all) (marks_of at c) [] each),
    (w.1, sign_shown is_close all part at limit n (at + n) h refl (omega (arith, far)) closes),
    tt,
  )
  items_signed all part at limit (item n c gap (item m d gap2 more)) h far w closes each = (
    cut_signed all (take n part) at at (at + n) c (shows_take all part at limit n (omega (arith, far)) h) w.0 (each_first (AreSigned all) (marks_of at c) (marks_in (at + (n + gap)) (item m d gap2 more)) each),
    (w.1, sign_shown is_comma all part at limit n (at + n) h refl (omega (arith, far)) closes.0),
    items_signed all (drop (n + gap) part) (at + (n + gap)) limit (item m d gap2 more) (shows_drop all part at limit (n + gap) h) (omega (arith, far)) w.2 closes.1
        (each_later (AreSigned all) (marks_of at c) (marks_in (at + (n + gap)) (item m d gap2 more)) each),
  )

pub signed_marks_stand : SignedMarksStand
signed_marks_stand = λ limit c toks w each.
    cut_signed toks toks 0 0 limit c (λ k t lt is. let same : 0 + k ≡ k = omega arith in ap (λ (i : ℕ). slice_get toks i) (sym same) ∙ is) w each
