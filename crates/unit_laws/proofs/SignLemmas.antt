-- Lists of a unit stand in the part that a run brings.
use Rattle.std.proofs.Common.{◌≡◌, ℕ, suc, ◌+◌, ◌-◌, ◌<◌, ◌≤◌, Bool, true, false, cond, List, length, take, drop, refl, ap, sym, subst, ◌∙◌, arith}
use Rattle.std.specs.Prelude.{slice_get, nat_le, ◌&&◌, ◌||◌}
use Rattle.std.proofs.lemmas.Bool.{le-leb, lt-leb, leb-true, leb-false}
use Rattle.std.proofs.lemmas.List.{drop-drop, drop-take, take-take, length-drop}
use Rattle.std.proofs.lemmas.Option.{slice_get_within}
use Rattle.cs_base.specs.Token.{Token}
use Rattle.cs_base.proofs.ListLemmas.{to_drop as at_drop, at_take}
use Rattle.line_shape.specs.Signs.{is_open, is_close, is_comma}
use Rattle.list_cuts.specs.Cuts.{Cut, done, keep, list, Items, ended, item, count_of, span_of}
use Rattle.list_cuts.specs.CutOf.{front, back}
use Rattle.expansion_laws.specs.Arranging.{IsSign, SignsStand, ItemsSigned, in_lists}
use Rattle.unit_laws.proofs.ReorderedPartLemmas.{or_none, and_rest}

more_than : (a b : ℕ) → (b ≤ a → ⊥) → a < b
more_than a b lacks = by (nat_le b a) refl
  where
    by : (x : Bool) → nat_le b a ≡ x → a < b
    by true e = absurd (lacks (leb-true b a e))
    by false e = leb-false b a e

sign_drop : (sign : Token → Bool) (out : List Token) (b k m : ℕ) → m ≡ b + k → IsSign sign out m → IsSign sign (drop b out) k
sign_drop sign out b k m e s =
    record { mark = s.mark; has = at_drop b k out s.mark (ap (λ (i : ℕ). slice_get out i) (sym e) ∙ s.has); direct = s.direct; is_sign = s.is_sign }

sign_take : (sign : Token → Bool) (out : List Token) (n k : ℕ) → k < n → IsSign sign out k → IsSign sign (take n out) k
sign_take sign out n k lt s = record { mark = s.mark; has = at_take n k out s.mark lt s.has; direct = s.direct; is_sign = s.is_sign }

-- where a place is in no list, this is what stands before or behind the list
record OutOf (from b : ℕ) (js : Items) (d : Cut) : Type 0 where
  far : b ≤ span_of js → ⊥
  rest : in_lists (from + span_of js) d (from + b) ≡ false

out_of : (from b : ℕ) (js : Items) (d : Cut) → in_lists from (list js d) (from + b) ≡ false → OutOf from b js d
unfolding in_lists
out_of from b js d h =
    let parts = or_none (nat_le from (from + b) && nat_le (from + b) (from + span_of js)) (in_lists (from + span_of js) d (from + b)) h in
    let far = leb-false (from + b) (from + span_of js) (and_rest (nat_le from (from + b)) (nat_le (from + b) (from + span_of js)) (le-leb from (from + b) (omega arith)) parts.0) in
    record { far = λ le. omega (arith, le, far); rest = parts.1 }

-- ---- what is behind

-- before the `(` of the list
keep_before : (b k : ℕ) (js : Items) (d : Cut) (out : List Token) → b ≤ k → SignsStand (keep (suc k) (list js d)) out → SignsStand (keep (suc k - b) (list js d)) (drop b out)
keep_before b k js d out le s =
    let less : suc (k - b) ≡ suc k - b = omega (arith, le) in
    let place : k ≡ b + (k - b) = omega (arith, le) in
    let all : drop (suc (k - b)) (drop b out) ≡ drop (suc k) out =
    drop-drop (suc (k - b)) b out ∙ ap (λ (i : ℕ). drop i out) (let on : b + suc (k - b) ≡ suc k = omega (arith, le) in on) in
    let here : SignsStand (keep (suc (k - b)) (list js d)) (drop b out) = (
      sign_drop is_open out b (k - b) k place s.0,
      s.1,
      subst (λ (l : List Token). ItemsSigned js l) (sym all) s.2,
      subst (λ (l : List Token). SignsStand d (drop (span_of js) l)) (sym all) s.3,
    ) in
    subst (λ (i : ℕ). SignsStand (keep i (list js d)) (drop b out)) less here

back_by : (from b k : ℕ) (js : Items) (d : Cut) (out : List Token) → SignsStand (keep (suc k) (list js d)) out → (x : Bool) → nat_le b (suc k) ≡ x → in_lists (from + suc k) (list js d) (from + b) ≡ false
    → ((b2 : ℕ) (out2 : List Token) → in_lists (from + suc k + span_of js) d (from + suc k + span_of js + b2) ≡ false → SignsStand d out2 → SignsStand (back b2 d) (drop b2 out2))
    → SignsStand (cond x (keep (suc k - b) (list js d)) (back (b - suc k) (list js d))) (drop b out)
unfolding back
back_by from b k js d out s true e h later = near (nat_le b k) refl
  where
    near : (y : Bool) → nat_le b k ≡ y → SignsStand (keep (suc k - b) (list js d)) (drop b out)
    near true f = keep_before b k js d out (leb-true b k f) s
    near false f =
        let same : from + b ≡ from + suc k + 0 = omega (arith, leb-true b (suc k) e, leb-false b k f) in
        let o = out_of (from + suc k) 0 js d (ap (λ (i : ℕ). in_lists (from + suc k) (list js d) i) (sym same) ∙ h) in
        absurd (o.far (omega arith))
back_by from b k js d out s false e h later =
    let past = leb-false b (suc k) e in
    let b1 : ℕ = b - suc k in
    let same : from + b ≡ from + suc k + b1 = omega (arith, past) in
    let o = out_of (from + suc k) b1 js d (ap (λ (i : ℕ). in_lists (from + suc k) (list js d) i) (sym same) ∙ h) in
    far (nat_le (span_of js) b1) refl past o.far o.rest
  where
    far : (y : Bool) → nat_le (span_of js) (b - suc k) ≡ y → suc k < b → (b - suc k ≤ span_of js → ⊥) → in_lists (from + suc k + span_of js) d (from + suc k + (b - suc k)) ≡ false
        → SignsStand (cond y (back (b - suc k - span_of js) d) (list js d)) (drop b out)
    far false f past lacks rest = absurd (lacks (omega (arith, leb-false (span_of js) (b - suc k) f)))
    far true f past lacks rest =
        let le = leb-true (span_of js) (b - suc k) f in
        let b2 : ℕ = b - suc k - span_of js in
        let same : from + suc k + (b - suc k) ≡ from + suc k + span_of js + b2 = omega (arith, le) in
        let place : suc k + (span_of js + b2) ≡ b = omega (arith, le, past) in
        let all : drop b2 (drop (span_of js) (drop (suc k) out)) ≡ drop b out =
        drop-drop b2 (span_of js) (drop (suc k) out) ∙ drop-drop (span_of js + b2) (suc k) out ∙ ap (λ (i : ℕ). drop i out) place in
        subst (λ (l : List Token). SignsStand (back b2 d) l) all
        (later b2 (drop (span_of js) (drop (suc k) out)) (ap (λ (i : ℕ). in_lists (from + suc k + span_of js) d i) (sym same) ∙ rest) s.3)

pub signs_back : (from b : ℕ) (c : Cut) (out : List Token) → in_lists from c (from + b) ≡ false → SignsStand c out → SignsStand (back b c) (drop b out)
unfolding in_lists back
signs_back from b done out h s = tt
signs_back from b (keep (suc k) (list js d)) out h s =
    back_by from b k js d out s (nat_le b (suc k)) refl h (λ b2 out2 e s2. signs_back (from + suc k + span_of js) b2 d out2 e s2)
signs_back from b c out h s = absurd s

-- ---- what is in front

items_take : (js : Items) (out : List Token) (n : ℕ) → span_of js < n → ItemsSigned js out → ItemsSigned js (take n out)
unfolding span_of
items_take ended out n lt s = tt
items_take (item m d gap ended) out n lt s =
    let first : take m (take n out) ≡ take m out = take-take m n out (omega (arith, lt)) in
    (subst (λ (l : List Token). SignsStand d l) (sym first) s.0, (s.1.0, sign_take is_close out n m (omega (arith, lt)) s.1.1), tt)
items_take (item m d gap (item m2 d2 gap2 more)) out n lt s =
    let first : take m (take n out) ≡ take m out = take-take m n out (omega (arith, lt)) in
    let count : n ≡ (m + gap) + (n - (m + gap)) = omega (arith, lt) in
    let rest : drop (m + gap) (take n out) ≡ take (n - (m + gap)) (drop (m + gap) out) =
    ap (λ (i : ℕ). drop (m + gap) (take i out)) count ∙ drop-take (m + gap) (n - (m + gap)) out in (
      subst (λ (l : List Token). SignsStand d l) (sym first) s.0,
      (s.1.0, sign_take is_comma out n m (omega (arith, lt)) s.1.1),
      subst (λ (l : List Token). ItemsSigned (item m2 d2 gap2 more) l) (sym rest) (items_take (item m2 d2 gap2 more) (drop (m + gap) out) (n - (m + gap)) (omega (arith, lt)) s.2),
    )

front_by : (from n k : ℕ) (js : Items) (d : Cut) (out : List Token) → SignsStand (keep (suc k) (list js d)) out → (x : Bool) → nat_le n (suc k) ≡ x → in_lists (from + suc k) (list js d) (from + n) ≡ false
    → ((n2 : ℕ) (out2 : List Token) → in_lists (from + suc k + span_of js) d (from + suc k + span_of js + n2) ≡ false → SignsStand d out2 → SignsStand (front n2 d) (take n2 out2))
    → SignsStand (cond x done (keep (suc k) (front (n - suc k) (list js d)))) (take n out)
unfolding front
front_by from n k js d out s true e h later = tt
front_by from n k js d out s false e h later =
    let past = leb-false n (suc k) e in
    let n1 : ℕ = n - suc k in
    let same : from + n ≡ from + suc k + n1 = omega (arith, past) in
    let o = out_of (from + suc k) n1 js d (ap (λ (i : ℕ). in_lists (from + suc k) (list js d) i) (sym same) ∙ h) in
    far (nat_le (span_of js) n1) refl past o.far o.rest
  where
    far : (y : Bool) → nat_le (span_of js) (n - suc k) ≡ y → suc k < n → (n - suc k ≤ span_of js → ⊥) → in_lists (from + suc k + span_of js) d (from + suc k + (n - suc k)) ≡ false
        → SignsStand (keep (suc k) (cond y (list js (front (n - suc k - span_of js) d)) done)) (take n out)
    far false f past lacks rest = absurd (lacks (omega (arith, leb-false (span_of js) (n - suc k) f)))
    far true f past lacks rest =
        let le = leb-true (span_of js) (n - suc k) f in
        let lt : span_of js < n - suc k = more_than (span_of js) (n - suc k) lacks in
        let n2 : ℕ = n - suc k - span_of js in
        let same : from + suc k + (n - suc k) ≡ from + suc k + span_of js + n2 = omega (arith, le) in
        let count : n ≡ suc k + (n - suc k) = omega (arith, past) in
        let count2 : n - suc k ≡ span_of js + n2 = omega (arith, le) in
        let behind : drop (suc k) (take n out) ≡ take (n - suc k) (drop (suc k) out) = ap (λ (i : ℕ). drop (suc k) (take i out)) count ∙ drop-take (suc k) (n - suc k) out in
        let last : drop (span_of js) (drop (suc k) (take n out)) ≡ take n2 (drop (span_of js) (drop (suc k) out)) =
        ap (drop (span_of js)) behind ∙ ap (λ (i : ℕ). drop (span_of js) (take i (drop (suc k) out))) count2 ∙ drop-take (span_of js) n2 (drop (suc k) out) in (
          sign_take is_open out n k (omega (arith, past)) s.0,
          s.1,
          subst (λ (l : List Token). ItemsSigned js l) (sym behind) (items_take js (drop (suc k) out) (n - suc k) lt s.2),
          subst (λ (l : List Token). SignsStand (front n2 d) l) (sym last)
              (later n2 (drop (span_of js) (drop (suc k) out)) (ap (λ (i : ℕ). in_lists (from + suc k + span_of js) d i) (sym same) ∙ rest) s.3),
        )

pub signs_front : (from n : ℕ) (c : Cut) (out : List Token) → in_lists from c (from + n) ≡ false → SignsStand c out → SignsStand (front n c) (take n out)
unfolding in_lists front
signs_front from n done out h s = tt
signs_front from n (keep (suc k) (list js d)) out h s =
    front_by from n k js d out s (nat_le n (suc k)) refl h (λ n2 out2 e s2. signs_front (from + suc k + span_of js) n2 d out2 e s2)
signs_front from n c out h s = absurd s

-- ---- the last mark

-- a `)` stands behind the items
items_end : (js : Items) (out : List Token) → 0 < count_of js → ItemsSigned js out → span_of js < length out
unfolding span_of count_of
items_end ended out some s = absurd (omega (arith, some))
items_end (item m d gap ended) out some s =
    let here = slice_get_within out m s.1.1.mark s.1.1.has in
    omega (arith, here, s.1.0)
items_end (item m d gap (item m2 d2 gap2 more)) out some s =
    let here = slice_get_within out m s.1.1.mark s.1.1.has in
    let deep = items_end (item m2 d2 gap2 more) (drop (m + gap) out) (omega arith) s.2 in
    let long = length-drop (m + gap) out in
    omega (arith, here, deep, long)

behind_list : (low high at : ℕ) (b : Bool) → high < at → b ≡ false → ((nat_le low at && nat_le at high) || b) ≡ false
behind_list low high at b lt none =
    ap (λ (x : Bool). (nat_le low at && x) || b) (lt-leb at high lt) ∙ both (nat_le low at) ∙ none
  where
    both : (x : Bool) → ((x && false) || b) ≡ b
    both true = refl
    both false = refl

-- no list goes past the last token
pub signs_end : (from : ℕ) (c : Cut) (out : List Token) → SignsStand c out → in_lists from c (from + length out) ≡ false
unfolding in_lists
signs_end from done out s = refl
signs_end from (keep (suc k) (list js d)) out s =
    let first = slice_get_within out k s.0.mark s.0.has in
    let ends = items_end js (drop (suc k) out) s.1 s.2 in
    let long = length-drop (suc k) out in
    let long2 = length-drop (span_of js) (drop (suc k) out) in
    let rest = signs_end (from + suc k + span_of js) d (drop (span_of js) (drop (suc k) out)) s.3 in
    let same : from + suc k + span_of js + length (drop (span_of js) (drop (suc k) out)) ≡ from + length out = omega (arith, first, ends, long, long2) in
    behind_list (from + suc k) (from + suc k + span_of js) (from + length out) (in_lists (from + suc k + span_of js) d (from + length out)) (omega (arith, first, ends, long))
    (ap (λ (i : ℕ). in_lists (from + suc k + span_of js) d i) (sym same) ∙ rest)
signs_end from c out s = absurd s
