-- Which tokens begin a directive line, where those that may come to stand first on a line are no `#`.
use Rattle.std.proofs.Common.{◌≡◌, ℕ, zero, suc, ◌+◌, Bool, true, false, ◌&&◌, ◌||◌, List, [], ◌∷◌, ◌++◌, length, take, drop, map, Some, refl, ap, sym, ◌∙◌, arith, length-drop, length-take-le, take-append-drop}
use Rattle.std.specs.Prelude.{nat_le, slice_get, unwrap_or}
use Rattle.std.specs.List.{list_any}
use Rattle.std.proofs.lemmas.Bool.{leb-true, leb-false}
use Rattle.std.proofs.lemmas.List.{length-map, take-map, nil_from_length, drop-drop}
use Rattle.std.proofs.Math.Seq.{take-add}
use Rattle.cs_base.specs.Token.{Token}
use Rattle.cs_base.proofs.BoolLemmas.{and_none}
use Rattle.line_shape.specs.Signs.{is_hash}
use Rattle.arranged_text_laws.specs.FileItems.{placed}
use Rattle.arranged_text_laws.specs.Labels.{head_with, masked, masked_items}
use Rattle.arranged_text_laws.specs.Runs.{Placed, begins_directive}
use Rattle.arranged_text_laws.specs.Tokens.{not_first}
use Rattle.arranged_text_laws.proofs.FileItemLemmas.{length-masked}
use Rattle.arranged_text_laws.proofs.SeamLemmas.{masked_items_same}
use Rattle.arranged_text_laws.proofs.TokenLaw.{masked_items-image}
use Rattle.arranged_text_laws.proofs.SameSigns.{length_head}
use Rattle.list_cuts.specs.Cuts.{Cut, done, keep, list, Items, ended, item, span_of}
use Rattle.edited_unit_laws.proofs.AlongLemmas.{Along, ItemsAlong}

-- whether each of these is the first of its line and a `#`, where that is told of each place
abbrev pub hashes : (ℕ → Bool) → ℕ → List Bool → List Bool
hashes H from [] = []
hashes H from (f ∷ fs) = (f && H from) ∷ hashes H (from + 1) fs

hashes_both : (H : ℕ → Bool) (from : ℕ) (xs ys : List Bool) → hashes H from (xs ++ ys) ≡ hashes H from xs ++ hashes H (from + length xs) ys
hashes_both H from [] ys = let same : from ≡ from + 0 = omega arith in ap (λ (i : ℕ). hashes H i ys) same
hashes_both H from (x ∷ xs) ys =
    let next : from + 1 + length xs ≡ from + suc (length xs) = omega arith in
    ap (λ (l : List Bool). (x && H from) ∷ l) (hashes_both H (from + 1) xs ys)
    ∙ ap (λ (i : ℕ). (x && H from) ∷ (hashes H (from + 1) xs ++ hashes H i ys)) next

-- the first of them may be unmarked where it is no `#`
hashes_head : (H : ℕ → Bool) (from : ℕ) (xs : List Bool) → H from ≡ false → hashes H from (head_with not_first xs) ≡ hashes H from xs
hashes_head H from [] none = refl
hashes_head H from (x ∷ xs) none = ap (λ (b : Bool). b ∷ hashes H (from + 1) xs) (and_none (not_first x) (H from) none ∙ sym (and_none x (H from) none))

drop_none : (n : ℕ) (xs : List Bool) → xs ≡ [] → drop n xs ≡ []
drop_none zero xs e = e
drop_none (suc n) [] e = refl
drop_none (suc n) (x ∷ xs) e = absurd cc

take_none : (n : ℕ) (xs : List Bool) → xs ≡ [] → take n xs ≡ []
take_none zero [] e = refl
take_none zero (x ∷ xs) e = refl
take_none (suc n) [] e = refl
take_none (suc n) (x ∷ xs) e = absurd cc

length_items : (is : Items) (xs : List Bool) → length (masked_items not_first is xs) ≡ length (take (span_of is) xs)
length_items is xs =
    sym (length-map (masked_items not_first is xs) nothing)
    ∙ ap length (sym (masked_items-image not_first (λ y. y) nothing (λ x. refl) is xs) ∙ masked_items_same is (map nothing xs) ∙ take-map nothing (span_of is) xs)
    ∙ length-map (take (span_of is) xs) nothing
  where
    nothing : Bool → Unit {0}
    nothing x = tt

none_left : (n : ℕ) (xs : List Bool) → nat_le n (length xs) ≡ false → drop n xs ≡ []
none_left n xs e = let lt = leb-false n (length xs) e in let size = length-drop n xs in nil_from_length (drop n xs) (omega (arith, lt, size))

masked_none : (c : Cut) → masked not_first c [] ≡ []
masked_none c = nil_from_length (masked not_first c []) (length-masked not_first c [])

items_none : (is : Items) → masked_items not_first is [] ≡ []
items_none is = nil_from_length (masked_items not_first is []) (length_items is [] ∙ ap length (take_none (span_of is) [] refl))

-- what stands behind so many
later_same : (H : ℕ → Bool) (from n : ℕ) (A F X Y : List Bool) → length A ≡ length (take n F) → hashes H (from + n) X ≡ hashes H (from + n) Y → (drop n F ≡ [] → X ≡ Y)
    → hashes H (from + length A) X ≡ hashes H (from + length A) Y
later_same H from n A F X Y long same none = by (nat_le n (length F)) refl
  where
    by : (b : Bool) → nat_le n (length F) ≡ b → hashes H (from + length A) X ≡ hashes H (from + length A) Y
    by true is =
        let size : length A ≡ n = long ∙ length-take-le n F (leb-true n (length F) is) in
        ap (λ (i : ℕ). hashes H (from + i) X) size ∙ same ∙ sym (ap (λ (i : ℕ). hashes H (from + i) Y) size)
    by false is = ap (hashes H (from + length A)) (none (none_left n F is))

-- two parts
both_same : (H : ℕ → Bool) (from n : ℕ) (A F X Y : List Bool) → length A ≡ length (take n F) → hashes H from A ≡ hashes H from (take n F) → hashes H (from + n) X ≡ hashes H (from + n) Y
    → (drop n F ≡ [] → X ≡ Y) → hashes H from (A ++ X) ≡ hashes H from (take n F ++ Y)
both_same H from n A F X Y long first same none =
    hashes_both H from A X ∙ ap (λ (l : List Bool). l ++ hashes H (from + length A) X) first
    ∙ ap (λ (l : List Bool). hashes H from (take n F) ++ l) (later_same H from n A F X Y long same none ∙ ap (λ (i : ℕ). hashes H (from + i) Y) long)
    ∙ sym (hashes_both H from (take n F) Y)

take_zero : (xs : List Bool) → take 0 xs ≡ []
take_zero [] = refl
take_zero (x ∷ xs) = refl

-- where nothing is left
left : (more : Items) (xs : List Bool) → xs ≡ [] → masked_items not_first more xs ≡ take (span_of more) xs
left more xs none = ap (masked_items not_first more) none ∙ items_none more ∙ sym (take_none (span_of more) xs none)

module _ (P : ℕ → ℕ → Type 0) (H : ℕ → Bool) where
  abbrev IsNone : ℕ → Type 0
  IsNone k = H k ≡ false

  mutual
    unfolding masked span_of

    hashes_same : (from : ℕ) (c : Cut) (F : List Bool) → Along P IsNone from c → hashes H from (masked not_first c F) ≡ hashes H from F
    hashes_same from done F a = refl
    hashes_same from (keep n c) F a =
        both_same H from n (take n F) F (masked not_first c (drop n F)) (drop n F) refl refl (hashes_same (from + n) c (drop n F) a)
        (λ none. ap (masked not_first c) none ∙ masked_none c ∙ sym none)
        ∙ ap (hashes H from) (take-append-drop n F)
    hashes_same from (list is c) F a =
        both_same H from (span_of is) (masked_items not_first is F) F (masked not_first c (drop (span_of is) F)) (drop (span_of is) F) (length_items is F) (items_same from is F a.1)
        (hashes_same (from + span_of is) c (drop (span_of is) F) a.2) (λ none. ap (masked not_first c) none ∙ masked_none c ∙ sym none)
        ∙ ap (hashes H from) (take-append-drop (span_of is) F)

    items_same : (from : ℕ) (is : Items) (F : List Bool) → ItemsAlong P IsNone from is → hashes H from (masked_items not_first is F) ≡ hashes H from (take (span_of is) F)
    items_same from ended F a = ap (hashes H from) (sym (take_zero F))
    items_same from (item n c gap more) F a =
        let X : List Bool = masked not_first c (take n F) in
        let G : List Bool = drop n F in
        let R : List Bool = masked_items not_first more (drop (n + gap) F) in
        let S : List Bool = take (span_of more) (drop (n + gap) F) in
        let first : hashes H from (head_with not_first X) ≡ hashes H from (take n F) = hashes_head H from X a.0 ∙ hashes_same from c (take n F) a.1 in
        let long : length (head_with not_first X) ≡ length (take n F) = length_head X ∙ length-masked not_first c (take n F) in
        let next : from + n + gap ≡ from + (n + gap) = omega arith in
        let rest : hashes H (from + n + gap) R ≡ hashes H (from + n + gap) S =
        ap (λ (i : ℕ). hashes H i R) next ∙ items_same (from + (n + gap)) more (drop (n + gap) F) a.2 ∙ sym (ap (λ (i : ℕ). hashes H i S) next) in
        let drops : drop gap G ≡ drop (n + gap) F = drop-drop gap n F in
        let second : hashes H (from + n) (take gap G ++ R) ≡ hashes H (from + n) (take gap G ++ S) =
        both_same H (from + n) gap (take gap G) G R S refl refl rest (λ none. left more (drop (n + gap) F) (sym drops ∙ none)) in
        let parts : take (n + (gap + span_of more)) F ≡ take n F ++ (take gap G ++ S) =
        take-add n (gap + span_of more) F ∙ ap (λ (l : List Bool). take n F ++ l) (take-add gap (span_of more) G)
        ∙ ap (λ (l : List Bool). take n F ++ (take gap G ++ take (span_of more) l)) drops in
        both_same H from n (head_with not_first X) F (take gap G ++ R) (take gap G ++ S) long first second
        (λ none. ap (λ (l : List Bool). take gap G ++ l) (left more (drop (n + gap) F) (sym drops ∙ drop_none gap G none)))
        ∙ ap (hashes H from) (sym parts)

-- ---- tokens with their places

-- whether the token of a place is a `#`
abbrev pub hash_at : List Token → ℕ → Bool
hash_at ts k = unwrap_or (slice_get (map is_hash ts) k) false

placed_hashes : (H : ℕ → Bool) (from : ℕ) (ts : List Token) (fs : List Bool) → length fs ≡ length ts → ((k : ℕ) (b : Bool) → slice_get (map is_hash ts) k ≡ Some b → H (from + k) ≡ b)
    → map begins_directive (placed ts fs) ≡ hashes H from fs
placed_hashes H from [] [] even told = refl
placed_hashes H from [] (f ∷ fs) even told = absurd (omega (arith, even))
placed_hashes H from (t ∷ ts) [] even told = absurd (omega (arith, even))
placed_hashes H from (t ∷ ts) (f ∷ fs) even told =
    let same : from + 0 ≡ from = omega arith in
    let here : H from ≡ is_hash t = ap H (sym same) ∙ told 0 (is_hash t) refl in
    ap (λ (b : Bool). (f && b) ∷ map begins_directive (placed ts fs)) (sym here)
    ∙ ap (λ (l : List Bool). (f && H from) ∷ l)
    (placed_hashes H (from + 1) ts fs (omega (arith, even)) (λ k b is. let next : from + 1 + k ≡ from + suc k = omega arith in ap H next ∙ told (suc k) b is))

-- the same of tokens of which as many are a `#`, in the same places
pub placed_same : (P : ℕ → ℕ → Type 0) (c : Cut) (ts us : List Token) (fs gs : List Bool) → length fs ≡ length ts → length gs ≡ length us → map is_hash us ≡ map is_hash ts
    → masked not_first c gs ≡ masked not_first c fs → Along P (λ k. hash_at ts k ≡ false) 0 c → map begins_directive (placed us gs) ≡ map begins_directive (placed ts fs)
placed_same P c ts us fs gs even even2 same alike a =
    let H : ℕ → Bool = hash_at ts in
    let own : (k : ℕ) (b : Bool) → slice_get (map is_hash ts) k ≡ Some b → H (0 + k) ≡ b = λ k b is.
    let place : 0 + k ≡ k = omega arith in
    ap H place ∙ ap (λ o. unwrap_or o false) is in
    let one : map begins_directive (placed ts fs) ≡ hashes H 0 fs = placed_hashes H 0 ts fs even own in
    let two : map begins_directive (placed us gs) ≡ hashes H 0 gs =
    placed_hashes H 0 us gs even2 (λ k b is. own k b (ap (λ (l : List Bool). slice_get l k) (sym same) ∙ is)) in
    two ∙ sym (hashes_same P H 0 c gs a) ∙ ap (hashes H 0) alike ∙ hashes_same P H 0 c fs a ∙ sym one

-- whether one of them does
pub any_same : (ps vs : List Placed) → map begins_directive vs ≡ map begins_directive ps → list_any begins_directive vs ≡ list_any begins_directive ps
any_same [] [] e = refl
any_same [] (v ∷ vs) e = absurd cc
any_same (p ∷ ps) [] e = absurd cc
any_same (p ∷ ps) (v ∷ vs) e =
    let first : begins_directive v ≡ begins_directive p = cc in
    let rest : map begins_directive vs ≡ map begins_directive ps = cc in
    rw first (ap (λ (b : Bool). begins_directive p || b) (any_same ps vs rest))
