-- Tokens that are alike under the mask of a cut stand for one another.
use Rattle.std.proofs.Common.{◌≡◌, ℕ, zero, suc, ◌+◌, Bool, true, false, List, [], ◌∷◌, ◌++◌, length, take, drop, map, min, refl, ap, sym, subst, ◌∙◌, arith, length-drop, length-take-le}
use Rattle.std.specs.Prelude.{nat_le, get_or}
use Rattle.std.proofs.lemmas.Bool.{leb-true, leb-false, lt-leb}
use Rattle.std.proofs.lemmas.List.{length-map, take-map, drop-map, length-take, nil_from_length}
use Rattle.cs_base.specs.Token.{Token}
use Rattle.arranged_text_laws.specs.Labels.{head_with, masked, masked_items}
use Rattle.arranged_text_laws.specs.Outside.{SameOutside}
use Rattle.arranged_text_laws.specs.Tokens.{moved_token, without_gap}
use Rattle.arranged_text_laws.proofs.FileItemLemmas.{length-masked}
use Rattle.arranged_text_laws.proofs.SeamLemmas.{masked_items_same}
use Rattle.arranged_text_laws.proofs.TokenLaw.{masked_items-image}
use Rattle.list_cuts.specs.Cuts.{Cut, done, keep, list, Items, ended, item, span_of}
use Rattle.expansion_laws.specs.Alike.{unlined, label}
use Rattle.expansion_laws.specs.Arranging.{labels}
use Rattle.unit_laws.specs.Files.{still, IsLoose, AreLoose, StandsFor}

-- ---- labels

-- without white space before the first token, where it may differ
abbrev lead : Bool → List Token → List Token
lead true xs = head_with without_gap xs
lead false xs = xs

labels_lead : (loose : Bool) (xs : List Token) → labels loose (lead loose xs) ≡ labels loose xs
labels_lead false xs = refl
labels_lead true [] = refl
labels_lead true (x ∷ xs) = refl

lead_twice : (loose : Bool) (xs : List Token) → lead true (lead loose (head_with without_gap xs)) ≡ head_with without_gap xs
lead_twice false [] = refl
lead_twice false (x ∷ xs) = refl
lead_twice true [] = refl
lead_twice true (x ∷ xs) = refl

labels_same : (loose : Bool) (xs ys : List Token) → lead loose xs ≡ lead loose ys → labels loose xs ≡ labels loose ys
labels_same loose xs ys e = sym (labels_lead loose xs) ∙ ap (labels loose) e ∙ labels_lead loose ys

head_same : (x y : Token) (xs ys : List Token) → (x ∷ xs) ≡ (y ∷ ys) → x ≡ y
head_same x y xs ys e = ap (λ (l : List Token). get_or l 0 x) e

tail_same : (x y : Token) (xs ys : List Token) → (x ∷ xs) ≡ (y ∷ ys) → xs ≡ ys
tail_same x y xs ys e = ap (λ (l : List Token). drop 1 l) e

-- tokens in two parts, as long
parts_same : (A B A2 B2 : List Token) → length A ≡ length A2 → A ++ B ≡ A2 ++ B2 → (A ≡ A2) × (B ≡ B2)
parts_same [] B [] B2 long e = (refl, e)
parts_same [] B (a ∷ A2) B2 long e = absurd (omega (arith, long))
parts_same (a ∷ A) B [] B2 long e = absurd (omega (arith, long))
parts_same (a ∷ A) B (b ∷ A2) B2 long e =
    let h = head_same a b (A ++ B) (A2 ++ B2) e in
    let k = parts_same A B A2 B2 (omega (arith, long)) (tail_same a b (A ++ B) (A2 ++ B2) e) in
    (ap (λ (x : Token). x ∷ A) h ∙ ap (λ (l : List Token). b ∷ l) k.0, k.1)

lead_parts : (loose : Bool) (A B A2 B2 : List Token) → length A ≡ length A2 → lead loose (A ++ B) ≡ lead loose (A2 ++ B2)
    → (lead loose A ≡ lead loose A2) × (lead (still loose (length A)) B ≡ lead (still loose (length A)) B2)
lead_parts false A B A2 B2 long e = parts_same A B A2 B2 long e
lead_parts true [] B [] B2 long e = (refl, e)
lead_parts true [] B (a ∷ A2) B2 long e = absurd (omega (arith, long))
lead_parts true (a ∷ A) B [] B2 long e = absurd (omega (arith, long))
lead_parts true (a ∷ A) B (b ∷ A2) B2 long e =
    let h = head_same (without_gap a) (without_gap b) (A ++ B) (A2 ++ B2) e in
    let k = parts_same A B A2 B2 (omega (arith, long)) (tail_same (without_gap a) (without_gap b) (A ++ B) (A2 ++ B2) e) in
    (ap (λ (x : Token). x ∷ A) h ∙ ap (λ (l : List Token). without_gap b ∷ l) k.0, k.1)

-- ---- where nothing is left

rest_none : (loose : Bool) (n : ℕ) (c : Cut) → IsLoose loose c [] [] → IsLoose loose c (drop n []) (drop n [])
rest_none loose zero c h = h
rest_none loose (suc n) c h = h

taken_none : (loose : Bool) (n : ℕ) (c : Cut) → IsLoose loose c [] [] → IsLoose loose c (take n []) (take n [])
taken_none loose zero c h = h
taken_none loose (suc n) c h = h

items_left : (loose : Bool) (n : ℕ) (is : Items) → AreLoose loose is [] [] → AreLoose loose is (drop n []) (drop n [])
items_left loose zero is h = h
items_left loose (suc n) is h = h

mutual
  like_none : (loose : Bool) (c : Cut) → IsLoose loose c [] []
  like_none loose done = refl
  like_none loose (keep n c) = (refl, rest_none (still loose n) n c (like_none (still loose n) c))
  like_none loose (list is c) = (items_none loose is, rest_none (still loose (span_of is)) (span_of is) c (like_none (still loose (span_of is)) c))

  items_none : (loose : Bool) (is : Items) → AreLoose loose is [] []
  items_none loose ended = tt
  items_none loose (item n c gap more) = (
    taken_none true n c (like_none true c),
    refl,
    items_left (still (still loose n) gap) (n + gap) more (items_none (still (still loose n) gap) more),
  )

-- ---- tokens in places

length_items : (is : Items) (xs : List Token) → length (masked_items without_gap is xs) ≡ length (take (span_of is) xs)
length_items is xs =
    sym (length-map (masked_items without_gap is xs) nothing)
    ∙ ap length (sym (masked_items-image without_gap (λ y. y) nothing (λ x. refl) is xs) ∙ masked_items_same is (map nothing xs) ∙ take-map nothing (span_of is) xs)
    ∙ length-map (take (span_of is) xs) nothing
  where
    nothing : Token → Unit {0}
    nothing x = tt

length_head : (xs : List Token) → length (head_with without_gap xs) ≡ length xs
length_head [] = refl
length_head (x ∷ xs) = refl

long_drop : (n : ℕ) (xs ts : List Token) → length xs ≡ length ts → length (drop n xs) ≡ length (drop n ts)
long_drop n xs ts e = let one = length-drop n xs in let two = length-drop n ts in omega (arith, one, two, e)

long_take : (n : ℕ) (xs ts : List Token) → length xs ≡ length ts → length (take n xs) ≡ length (take n ts)
long_take n xs ts e = length-take n xs ∙ ap (λ (k : ℕ). min n k) e ∙ sym (length-take n ts)

-- behind more tokens than there are
none_left : (n : ℕ) (xs : List Token) → nat_le n (length xs) ≡ false → drop n xs ≡ []
none_left n xs e = let lt = leb-false n (length xs) e in let size = length-drop n xs in nil_from_length (drop n xs) (omega (arith, lt, size))

module _ (place line : ℕ → ℕ) where
  abbrev there : Token → Token
  there t = moved_token place line t

  unlined_there : (ts : List Token) → map (unlined true) (map there ts) ≡ map (unlined true) ts
  unlined_there [] = refl
  unlined_there (t ∷ ts) = ap (λ (l : List Token). unlined true t ∷ l) (unlined_there ts)

  labels_there : (loose : Bool) (ts : List Token) → labels loose (map there ts) ≡ labels loose ts
  labels_there loose [] = refl
  labels_there loose (t ∷ ts) = ap (λ (l : List Token). label true loose t ∷ l) (unlined_there ts)

  -- tokens that are alike but for white space before the first have these labels
  labels_of : (loose : Bool) (n : ℕ) (xs ts : List Token) → lead loose (take n xs) ≡ lead loose (take n (map there ts)) → labels loose (take n xs) ≡ labels loose (take n ts)
  labels_of loose n xs ts e = labels_same loose (take n xs) (take n (map there ts)) e ∙ ap (labels loose) (take-map there n ts) ∙ labels_there loose (take n ts)

  -- what stands behind so many tokens
  behind_of : (loose : Bool) (n : ℕ) (c : Cut) (A xs ts : List Token) → length A ≡ length (take n xs) → length xs ≡ length ts
      → (lead (still loose n) (masked without_gap c (drop n xs)) ≡ lead (still loose n) (masked without_gap c (map there (drop n ts))) → IsLoose (still loose n) c (drop n xs) (drop n ts))
      → lead (still loose (length A)) (masked without_gap c (drop n xs)) ≡ lead (still loose (length A)) (masked without_gap c (drop n (map there ts)))
      → IsLoose (still loose n) c (drop n xs) (drop n ts)
  behind_of loose n c A xs ts long even later e = by (nat_le n (length xs)) refl
    where
      by : (b : Bool) → nat_le n (length xs) ≡ b → IsLoose (still loose n) c (drop n xs) (drop n ts)
      by true is =
          let size : length A ≡ n = long ∙ length-take-le n xs (leb-true n (length xs) is) in
          later (subst (λ (k : ℕ). lead (still loose k) (masked without_gap c (drop n xs)) ≡ lead (still loose k) (masked without_gap c (drop n (map there ts)))) size e
          ∙ ap (λ (l : List Token). lead (still loose n) (masked without_gap c l)) (drop-map there n ts))
      by false is =
          subst (λ (l : List Token). IsLoose (still loose n) c l (drop n ts)) (sym (none_left n xs is))
          (subst (λ (l : List Token). IsLoose (still loose n) c [] l) (sym (none_left n ts (ap (λ (k : ℕ). nat_le n k) (sym even) ∙ is))) (like_none (still loose n) c))

  -- what stands between items, and the next ones
  gap_of : (loose : Bool) (n gap : ℕ) (more : Items) (A xs ts : List Token) → length A ≡ length (take n xs) → length xs ≡ length ts
      → ((loose2 : Bool) → lead loose2 (masked_items without_gap more (drop (n + gap) xs)) ≡ lead loose2 (masked_items without_gap more (map there (drop (n + gap) ts))) → AreLoose loose2 more (drop (n + gap) xs) (drop (n + gap) ts))
      → lead (still loose (length A)) (take gap (drop n xs) ++ masked_items without_gap more (drop (n + gap) xs))
      ≡ lead (still loose (length A)) (take gap (drop n (map there ts)) ++ masked_items without_gap more (drop (n + gap) (map there ts)))
      → (labels (still loose n) (take gap (drop n xs)) ≡ labels (still loose n) (take gap (drop n ts))) × AreLoose (still (still loose n) gap) more (drop (n + gap) xs) (drop (n + gap) ts)
  gap_of loose n gap more A xs ts long even later e = by (nat_le n (length xs)) refl
    where
      Wanted : Type 0
      Wanted = (labels (still loose n) (take gap (drop n xs)) ≡ labels (still loose n) (take gap (drop n ts))) × AreLoose (still (still loose n) gap) more (drop (n + gap) xs) (drop (n + gap) ts)

      -- nothing is left
      ends : nat_le (n + gap) (length xs) ≡ false → AreLoose (still (still loose n) gap) more (drop (n + gap) xs) (drop (n + gap) ts)
      ends is =
          subst (λ (l : List Token). AreLoose (still (still loose n) gap) more l (drop (n + gap) ts)) (sym (none_left (n + gap) xs is))
          (subst (λ (l : List Token). AreLoose (still (still loose n) gap) more [] l) (sym (none_left (n + gap) ts (ap (λ (k : ℕ). nat_le (n + gap) k) (sym even) ∙ is))) (items_none (still (still loose n) gap) more))

      within : length A ≡ n → Wanted
      within size =
          let now = subst (λ (k : ℕ). lead (still loose k) (take gap (drop n xs) ++ masked_items without_gap more (drop (n + gap) xs))
          ≡ lead (still loose k) (take gap (drop n (map there ts)) ++ masked_items without_gap more (drop (n + gap) (map there ts)))) size e in
          let long2 : length (take gap (drop n xs)) ≡ length (take gap (drop n (map there ts))) =
          long_take gap (drop n xs) (drop n (map there ts)) (long_drop n xs (map there ts) (even ∙ sym (length-map ts there))) in
          let s = lead_parts (still loose n) (take gap (drop n xs)) (masked_items without_gap more (drop (n + gap) xs)) (take gap (drop n (map there ts)))
          (masked_items without_gap more (drop (n + gap) (map there ts))) long2 now in (
            labels_same (still loose n) (take gap (drop n xs)) (take gap (drop n (map there ts))) s.0
                ∙ ap (λ (l : List Token). labels (still loose n) (take gap l)) (drop-map there n ts) ∙ ap (labels (still loose n)) (take-map there gap (drop n ts))
                ∙ labels_there (still loose n) (take gap (drop n ts)),
            next (nat_le (n + gap) (length xs)) refl s.1,
          )
        where
          next : (b : Bool) → nat_le (n + gap) (length xs) ≡ b
              → lead (still (still loose n) (length (take gap (drop n xs)))) (masked_items without_gap more (drop (n + gap) xs))
              ≡ lead (still (still loose n) (length (take gap (drop n xs)))) (masked_items without_gap more (drop (n + gap) (map there ts)))
              → AreLoose (still (still loose n) gap) more (drop (n + gap) xs) (drop (n + gap) ts)
          next false is f = ends is
          next true is f =
              let le = leb-true (n + gap) (length xs) is in
              let small = length-drop n xs in
              let count : length (take gap (drop n xs)) ≡ gap = length-take-le gap (drop n xs) (omega (arith, le, small)) in
              later (still (still loose n) gap)
              (subst (λ (k : ℕ). lead (still (still loose n) k) (masked_items without_gap more (drop (n + gap) xs)) ≡ lead (still (still loose n) k) (masked_items without_gap more (drop (n + gap) (map there ts)))) count f
              ∙ ap (λ (l : List Token). lead (still (still loose n) gap) (masked_items without_gap more l)) (drop-map there (n + gap) ts))

      by : (b : Bool) → nat_le n (length xs) ≡ b → Wanted
      by true is = within (long ∙ length-take-le n xs (leb-true n (length xs) is))
      by false is =
          let lt = leb-false n (length xs) is in
          let far : nat_le (n + gap) (length xs) ≡ false = lt-leb (n + gap) (length xs) (omega (arith, lt)) in
          let none = none_left n xs is in
          let none2 = none_left n ts (ap (λ (k : ℕ). nat_le n k) (sym even) ∙ is) in
          (ap (λ (l : List Token). labels (still loose n) (take gap l)) (none ∙ sym none2), ends far)

  mutual
    unfolding masked

    like_of : (loose : Bool) (c : Cut) (xs ts : List Token) → length xs ≡ length ts → lead loose (masked without_gap c xs) ≡ lead loose (masked without_gap c (map there ts)) → IsLoose loose c xs ts
    like_of loose done xs ts even e = labels_same loose xs (map there ts) e ∙ labels_there loose ts
    like_of loose (keep n c) xs ts even e =
        let long : length (take n xs) ≡ length (take n (map there ts)) = long_take n xs (map there ts) (even ∙ sym (length-map ts there)) in
        let s = lead_parts loose (take n xs) (masked without_gap c (drop n xs)) (take n (map there ts)) (masked without_gap c (drop n (map there ts))) long e in (
          labels_of loose n xs ts s.0,
          behind_of loose n c (take n xs) xs ts refl even (λ f. like_of (still loose n) c (drop n xs) (drop n ts) (long_drop n xs ts even) f) s.1,
        )
    like_of loose (list is c) xs ts even e =
        let n = span_of is in
        let long : length (masked_items without_gap is xs) ≡ length (masked_items without_gap is (map there ts)) =
        length_items is xs ∙ long_take n xs (map there ts) (even ∙ sym (length-map ts there)) ∙ sym (length_items is (map there ts)) in
        let s = lead_parts loose (masked_items without_gap is xs) (masked without_gap c (drop n xs)) (masked_items without_gap is (map there ts)) (masked without_gap c (drop n (map there ts))) long e in (
          items_like loose is xs ts even s.0,
          behind_of loose n c (masked_items without_gap is xs) xs ts (length_items is xs) even (λ f. like_of (still loose n) c (drop n xs) (drop n ts) (long_drop n xs ts even) f) s.1,
        )

    items_like : (loose : Bool) (is : Items) (xs ts : List Token) → length xs ≡ length ts → lead loose (masked_items without_gap is xs) ≡ lead loose (masked_items without_gap is (map there ts)) → AreLoose loose is xs ts
    items_like loose ended xs ts even e = tt
    items_like loose (item n c gap more) xs ts even e =
        let X : List Token = masked without_gap c (take n xs) in
        let Y : List Token = masked without_gap c (take n (map there ts)) in
        let even2 : length xs ≡ length (map there ts) = even ∙ sym (length-map ts there) in
        let size : length (head_with without_gap X) ≡ length (take n xs) = length_head X ∙ length-masked without_gap c (take n xs) in
        let size2 : length (head_with without_gap Y) ≡ length (take n (map there ts)) = length_head Y ∙ length-masked without_gap c (take n (map there ts)) in
        let long : length (head_with without_gap X) ≡ length (head_with without_gap Y) = size ∙ long_take n xs (map there ts) even2 ∙ sym size2 in
        let s = lead_parts loose (head_with without_gap X) (take gap (drop n xs) ++ masked_items without_gap more (drop (n + gap) xs)) (head_with without_gap Y)
        (take gap (drop n (map there ts)) ++ masked_items without_gap more (drop (n + gap) (map there ts))) long e in
        let first : lead true X ≡ lead true (masked without_gap c (map there (take n ts))) =
        sym (lead_twice loose X) ∙ ap (lead true) s.0 ∙ lead_twice loose Y ∙ ap (λ (l : List Token). lead true (masked without_gap c l)) (take-map there n ts) in
        let rest = gap_of loose n gap more (head_with without_gap X) xs ts size even (λ loose2 f. items_like loose2 more (drop (n + gap) xs) (drop (n + gap) ts) (long_drop (n + gap) xs ts even) f) s.1 in
        (like_of true c (take n xs) (take n ts) (long_take n xs ts even) first, rest.0, rest.1)

  -- outside lists they are the same
  pub stands_of : (c : Cut) (xs ts : List Token) → length xs ≡ length ts → masked without_gap c xs ≡ masked without_gap c (map there ts) → SameOutside c (map there ts) ts → StandsFor c xs ts
  unfolding masked
  stands_of done xs ts even e same = e ∙ same
  stands_of (keep n c) xs ts even e same =
      let long : length (take n xs) ≡ length (take n (map there ts)) = long_take n xs (map there ts) (even ∙ sym (length-map ts there)) in
      let s = parts_same (take n xs) (masked without_gap c (drop n xs)) (take n (map there ts)) (masked without_gap c (drop n (map there ts))) long e in (
        s.0 ∙ same.0,
        stands_of c (drop n xs) (drop n ts) (long_drop n xs ts even) (s.1 ∙ ap (masked without_gap c) (drop-map there n ts))
            (subst (λ (l : List Token). SameOutside c l (drop n ts)) (drop-map there n ts) same.1),
      )
  stands_of (list is c) xs ts even e same =
      let n = span_of is in
      let long : length (masked_items without_gap is xs) ≡ length (masked_items without_gap is (map there ts)) =
      length_items is xs ∙ long_take n xs (map there ts) (even ∙ sym (length-map ts there)) ∙ sym (length_items is (map there ts)) in
      let s = parts_same (masked_items without_gap is xs) (masked without_gap c (drop n xs)) (masked_items without_gap is (map there ts)) (masked without_gap c (drop n (map there ts))) long e in (
        items_like false is xs ts even s.0,
        stands_of c (drop n xs) (drop n ts) (long_drop n xs ts even) (s.1 ∙ ap (masked without_gap c) (drop-map there n ts))
            (subst (λ (l : List Token). SameOutside c l (drop n ts)) (drop-map there n ts) same),
      )
