-- Which tokens begin directive lines does not change with what is the first of its line in an item that begins with no `#`.
use Rattle.std.proofs.Common.{◌≡◌, ℕ, zero, suc, ◌+◌, ◌≤◌, Bool, true, false, not, ◌&&◌, List, [], ◌∷◌, ◌++◌, length, take, drop, map, refl, sym, ap, ◌∙◌, arith, length-take-le, length-drop}
use Rattle.std.proofs.lemmas.List.{take-take, drop-take, drop-drop, length-map}
use Rattle.cs_base.specs.Token.{Token}
use Rattle.line_shape.specs.Signs.{is_hash}
use Rattle.list_cuts.specs.Cuts.{Cut, done, keep, list, Items, ended, item, span_of, extent_of}
use Rattle.arranged_text_laws.specs.Labels.{head_with, masked, masked_items, starts, IsLed, Firsts, FirstsOfItems}
use Rattle.arranged_text_laws.specs.Tokens.{not_first}
use Rattle.arranged_text_laws.specs.Runs.{begins_directive}
use Rattle.arranged_text_laws.specs.FileItems.{placed}
use Rattle.arranged_text_laws.proofs.Formed.{Formed, FormedItems}
use Rattle.arranged_text_laws.proofs.FlowLemmas.{take_front, drop_front}
use Rattle.arranged_text_laws.proofs.SeamLemmas.{masked_same, masked_items_same}
use Rattle.arranged_text_laws.proofs.TokenLaw.{masked-image, masked_items-image}

-- for each token, whether it is the first of its line and a `#`
pub both : List Bool → List Bool → List Bool
both [] hs = []
both (f ∷ fs) [] = []
both (f ∷ fs) (h ∷ hs) = (f && h) ∷ both fs hs

pub both_placed : (ts : List Token) (fs : List Bool) → map begins_directive (placed ts fs) ≡ both fs (map is_hash ts)
unfolding both
both_placed [] [] = refl
both_placed [] (f ∷ fs) = refl
both_placed (t ∷ ts) [] = refl
both_placed (t ∷ ts) (f ∷ fs) = ap (λ (l : List Bool). (f && is_hash t) ∷ l) (both_placed ts fs)

both_parts : (n : ℕ) (fs hs : List Bool) → both fs hs ≡ both (take n fs) (take n hs) ++ both (drop n fs) (drop n hs)
unfolding both
both_parts zero fs hs = refl
both_parts (suc n) [] hs = refl
both_parts (suc n) (f ∷ fs) [] = none_left (drop n fs)
  where
    none_left : (gs : List Bool) → [] ≡ both gs []
    none_left [] = refl
    none_left (g ∷ gs) = refl
both_parts (suc n) (f ∷ fs) (h ∷ hs) = ap (λ (l : List Bool). (f && h) ∷ l) (both_parts n fs hs)

abbrev pub no_sign : Bool → Bool
no_sign h = not h

parts_same : (n : ℕ) (xs ys us vs : List Bool) → length xs ≡ n → length us ≡ n → xs ++ ys ≡ us ++ vs → (xs ≡ us) × (ys ≡ vs)
parts_same n xs ys us vs a b e =
    (sym (take_front n xs ys a) ∙ ap (take n) e ∙ take_front n us vs b, sym (drop_front n xs ys a) ∙ ap (drop n) e ∙ drop_front n us vs b)

abbrev nothing : Bool → Unit {0}
nothing x = tt

length_masked : (c : Cut) (xs : List Bool) → length (masked not_first c xs) ≡ length xs
length_masked c xs =
    sym (length-map (masked not_first c xs) nothing)
    ∙ ap length (sym (masked-image not_first (λ y. y) nothing (λ x. refl) c xs) ∙ masked_same c (map nothing xs)) ∙ length-map xs nothing

length_items : (is : Items) (xs : List Bool) → span_of is ≤ length xs → length (masked_items not_first is xs) ≡ span_of is
length_items is xs within =
    sym (length-map (masked_items not_first is xs) nothing)
    ∙ ap length (sym (masked_items-image not_first (λ y. y) nothing (λ x. refl) is xs) ∙ masked_items_same is (map nothing xs))
    ∙ length-take-le (span_of is) (map nothing xs) (rw (length-map xs nothing) within)

pub length_head : (xs : List Bool) → length (head_with not_first xs) ≡ length xs
length_head [] = refl
length_head (x ∷ xs) = refl

same_led : (c : Cut) (x : Bool) (xs : List Bool) → IsLed c → masked not_first c (false ∷ xs) ≡ head_with not_first (masked not_first c (x ∷ xs))
unfolding masked
same_led done x xs led = refl
same_led (keep zero c) x xs led = absurd (omega (arith, led))
same_led (keep (suc n) c) x xs led = refl
same_led (list is c) x xs led = absurd led

first_false : (f : Bool) (xs hs : List Bool) → starts no_sign hs ≡ true → both (f ∷ xs) hs ≡ both (false ∷ xs) hs
unfolding both
first_false f xs [] h = absurd cc
first_false f xs (true ∷ hs) h = absurd cc
first_false true xs (false ∷ hs) h = refl
first_false false xs (false ∷ hs) h = refl

seg_of : (n m : ℕ) (xs : List Bool) → (take n (take (n + m) xs) ≡ take n xs) × (drop n (take (n + m) xs) ≡ take m (drop n xs))
seg_of n m xs = (take-take n (n + m) xs (omega arith), drop-take n m xs)

-- the three parts of an item and what stands behind it
item_parts : (n gap s : ℕ) (F H : List Bool)
    → both (take (n + (gap + s)) F) (take (n + (gap + s)) H)
    ≡ both (take n F) (take n H) ++ (both (take gap (drop n F)) (take gap (drop n H)) ++ both (take s (drop (n + gap) F)) (take s (drop (n + gap) H)))
item_parts n gap s F H =
    let a = seg_of n (gap + s) F in
    let b = seg_of n (gap + s) H in
    let c = seg_of gap s (drop n F) in
    let d = seg_of gap s (drop n H) in
    let dF = drop-drop gap n F in
    let dH = drop-drop gap n H in
    both_parts n (take (n + (gap + s)) F) (take (n + (gap + s)) H)
    ∙ rw (a.0, b.0, a.1, b.1) (ap (λ (l : List Bool). both (take n F) (take n H) ++ l)
    (both_parts gap (take (gap + s) (drop n F)) (take (gap + s) (drop n H)) ∙ rw (c.0, d.0, c.1, d.1, dF, dH) refl))

same_item : (c : Cut) (X Y Z : List Bool) → length X ≡ length Y → starts no_sign Z ≡ true → IsLed c → head_with not_first (masked not_first c X) ≡ head_with not_first (masked not_first c Y)
    → ((A D : List Bool) → length A ≡ length D → length A ≡ length X → masked not_first c A ≡ masked not_first c D → both A Z ≡ both D Z) → both X Z ≡ both Y Z
same_item c [] [] Z long sign led e rest = refl
same_item c [] (y ∷ ys) Z long sign led e rest = absurd (omega (arith, long))
same_item c (x ∷ xs) [] Z long sign led e rest = absurd (omega (arith, long))
same_item c (x ∷ xs) (y ∷ ys) Z long sign led e rest =
    first_false x xs Z sign ∙ rest (false ∷ xs) (false ∷ ys) long refl (same_led c x xs led ∙ e ∙ sym (same_led c y ys led)) ∙ sym (first_false y ys Z sign)

mutual
  unfolding masked masked_items span_of extent_of

  pub same_both : (c : Cut) (F G H : List Bool) → Formed c → length F ≡ length G → extent_of c ≤ length F → masked not_first c F ≡ masked not_first c G → Firsts no_sign c H → both F H ≡ both G H
  same_both done F G H f long within e firsts = ap (λ (l : List Bool). both l H) e
  same_both (keep n c) F G H f long within e firsts =
      let tF = length-take-le n F (omega (arith, within)) in
      let tG = length-take-le n G (omega (arith, within, long)) in
      let dF = length-drop n F in
      let dG = length-drop n G in
      let p = parts_same n (take n F) (masked not_first c (drop n F)) (take n G) (masked not_first c (drop n G)) tF tG e in
      both_parts n F H ∙ ap (λ (l : List Bool). both l (take n H) ++ both (drop n F) (drop n H)) p.0
      ∙ ap (λ (l : List Bool). both (take n G) (take n H) ++ l) (same_both c (drop n F) (drop n G) (drop n H) f.1 (omega (arith, dF, dG, long)) (omega (arith, dF, within)) p.1 firsts)
      ∙ sym (both_parts n G H)
  same_both (list is c) F G H f long within e firsts =
      let n = span_of is in
      let dF = length-drop n F in
      let dG = length-drop n G in
      let p = parts_same n (masked_items not_first is F) (masked not_first c (drop n F)) (masked_items not_first is G) (masked not_first c (drop n G))
      (length_items is F (omega (arith, within))) (length_items is G (omega (arith, within, long))) e in
      both_parts n F H ∙ ap (λ (l : List Bool). l ++ both (drop n F) (drop n H)) (same_items is F G H f.2 (omega (arith, within)) (omega (arith, within, long)) p.0 firsts.0)
      ∙ ap (λ (l : List Bool). both (take n G) (take n H) ++ l) (same_both c (drop n F) (drop n G) (drop n H) f.4 (omega (arith, dF, dG, long)) (omega (arith, dF, within)) p.1 firsts.1)
      ∙ sym (both_parts n G H)

  same_items : (is : Items) (F G H : List Bool) → FormedItems is → span_of is ≤ length F → span_of is ≤ length G → masked_items not_first is F ≡ masked_items not_first is G → FirstsOfItems no_sign is H
      → both (take (span_of is) F) (take (span_of is) H) ≡ both (take (span_of is) G) (take (span_of is) H)
  same_items ended F G H f wF wG e firsts = refl
  same_items (item n c gap more) F G H f wF wG e firsts =
      let s = span_of more in
      let tF = length-take-le n F (omega (arith, wF)) in
      let tG = length-take-le n G (omega (arith, wG)) in
      let dF = length-drop n F in
      let dG = length-drop n G in
      let gF = length-take-le gap (drop n F) (omega (arith, dF, wF)) in
      let gG = length-take-le gap (drop n G) (omega (arith, dG, wG)) in
      let eF = length-drop (n + gap) F in
      let eG = length-drop (n + gap) G in
      let p = parts_same n (head_with not_first (masked not_first c (take n F))) (take gap (drop n F) ++ masked_items not_first more (drop (n + gap) F))
      (head_with not_first (masked not_first c (take n G))) (take gap (drop n G) ++ masked_items not_first more (drop (n + gap) G))
      (length_head (masked not_first c (take n F)) ∙ length_masked c (take n F) ∙ tF) (length_head (masked not_first c (take n G)) ∙ length_masked c (take n G) ∙ tG) e in
      let q = parts_same gap (take gap (drop n F)) (masked_items not_first more (drop (n + gap) F)) (take gap (drop n G)) (masked_items not_first more (drop (n + gap) G)) gF gG p.1 in
      let first = same_item c (take n F) (take n G) (take n H) (tF ∙ sym tG) firsts.0 firsts.1 p.0 (λ A D long2 size2 e2. same_both c A D (take n H) f.3 long2 (let x = f.1 in omega (arith, size2, tF, x)) e2 firsts.2) in
      let rest = same_items more (drop (n + gap) F) (drop (n + gap) G) (drop (n + gap) H) f.5 (omega (arith, eF, wF)) (omega (arith, eG, wG)) q.1 firsts.3 in
      item_parts n gap s F H ∙ ap (λ (l : List Bool). l ++ (both (take gap (drop n F)) (take gap (drop n H)) ++ both (take s (drop (n + gap) F)) (take s (drop (n + gap) H)))) first
      ∙ ap (λ (l : List Bool). both (take n G) (take n H) ++ (both l (take gap (drop n H)) ++ both (take s (drop (n + gap) F)) (take s (drop (n + gap) H)))) q.0
      ∙ ap (λ (l : List Bool). both (take n G) (take n H) ++ (both (take gap (drop n G)) (take gap (drop n H)) ++ l)) rest
      ∙ sym (item_parts n gap s G H)
