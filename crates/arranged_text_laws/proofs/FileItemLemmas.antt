-- The items of a file stay where its lists stand in runs.
use Rattle.std.proofs.Common.{◌≡◌, ℕ, zero, suc, ◌≤◌, Bool, not, List, [], ◌∷◌, length, take, drop, map, get_or, refl, sym, ap, subst, ◌∙◌, arith, length-take-le}
use Rattle.std.proofs.lemmas.List.{length-map}
use Rattle.cs_base.specs.Token.{Token}
use Rattle.lexer.specs.Tokens.{tokens_of, firsts_of as firsts_of_bytes}
use Rattle.lexer.proofs.ScanLemmas.{firsts_of-each as file_firsts}
use Rattle.line_shape.specs.Signs.{is_hash}
use Rattle.line_shape.specs.Items.{items_of}
use Rattle.list_cuts.specs.Cuts.{Cut, done, keep, list, Items, span_of, extent_of, IsOrder, arranged, AreOf}
use Rattle.list_cuts.proofs.CutLemmas.{arranged-map, short-drop}
use Rattle.arranged_text_laws.specs.Labels.{masked, masked_items}
use Rattle.arranged_text_laws.specs.Outside.{SameOutside}
use Rattle.arranged_text_laws.specs.Runs.{Placed, toks_of, firsts_of, SameFile}
use Rattle.arranged_text_laws.specs.Tokens.{cut_in, token_there, without_gap, not_first}
use Rattle.arranged_text_laws.specs.FileItems.{placed, FileRuns, FileItemsStay}
use Rattle.arranged_text_laws.proofs.FlowLemmas.{take_front, drop_front}
use Rattle.arranged_text_laws.proofs.SeamLemmas.{masked_same, masked_items_same}
use Rattle.arranged_text_laws.proofs.TokenLaw.{masked-image, masked_items-image}
use Rattle.arranged_text_laws.proofs.RunLemmas.{items_stay, runs_move}

-- ---- outside of lists nothing is masked

abbrev nothing : {X : Type 0} → X → Unit {0}
nothing x = tt

pub length-masked : {X : Type 0} (h : X → X) (c : Cut) (xs : List X) → length (masked h c xs) ≡ length xs
length-masked h c xs =
    sym (length-map (masked h c xs) nothing) ∙ ap length (sym (masked-image h (λ y. y) nothing (λ x. refl) c xs) ∙ masked_same c (map nothing xs)) ∙ length-map xs nothing

pub length-masked_items : {X : Type 0} (h : X → X) (is : Items) (xs : List X) → span_of is ≤ length xs → length (masked_items h is xs) ≡ span_of is
length-masked_items h is xs within =
    sym (length-map (masked_items h is xs) nothing)
    ∙ ap length (sym (masked_items-image h (λ y. y) nothing (λ x. refl) is xs) ∙ masked_items_same is (map nothing xs))
    ∙ length-take-le (span_of is) (map nothing xs) (rw (length-map xs nothing) within)

masked_outside : {X : Type 0} (h : X → X) (c : Cut) (xs : List X) → extent_of c ≤ length xs → SameOutside c (masked h c xs) xs
unfolding masked extent_of
masked_outside h done xs within = refl
masked_outside h (keep n c) xs within =
    let long : length (take n xs) ≡ n = length-take-le n xs (omega (arith, within)) in
    let M = masked h c (drop n xs) in (
      take_front n (take n xs) M long,
      subst (λ (l : List _). SameOutside c l (drop n xs)) (sym (drop_front n (take n xs) M long)) (masked_outside h c (drop n xs) (short-drop n (extent_of c) xs within)),
    )
masked_outside h (list is c) xs within =
    let M = masked h c (drop (span_of is) xs) in
    let long = length-masked_items h is xs (omega (arith, within)) in
    subst (λ (l : List _). SameOutside c l (drop (span_of is) xs)) (sym (drop_front (span_of is) (masked_items h is xs) M long))
    (masked_outside h c (drop (span_of is) xs) (short-drop (span_of is) (extent_of c) xs within))

outside_sym : {X : Type 0} (c : Cut) (xs ys : List X) → SameOutside c xs ys → SameOutside c ys xs
outside_sym done xs ys h = sym h
outside_sym (keep n c) xs ys h = (sym h.0, outside_sym c (drop n xs) (drop n ys) h.1)
outside_sym (list is c) xs ys h = outside_sym c (drop (span_of is) xs) (drop (span_of is) ys) h

pub outside_both : {X : Type 0} (c : Cut) (xs ys zs : List X) → SameOutside c xs ys → SameOutside c ys zs → SameOutside c xs zs
outside_both done xs ys zs h k = h ∙ k
outside_both (keep n c) xs ys zs h k = (h.0 ∙ k.0, outside_both c (drop n xs) (drop n ys) (drop n zs) h.1 k.1)
outside_both (list is c) xs ys zs h k = outside_both c (drop (span_of is) xs) (drop (span_of is) ys) (drop (span_of is) zs) h k

-- lists that are alike under a mask are the same outside of lists
pub alike_outside : {X : Type 0} (h : X → X) (c : Cut) (xs ys : List X) → extent_of c ≤ length xs → length ys ≡ length xs → masked h c xs ≡ masked h c ys → SameOutside c xs ys
alike_outside h c xs ys within long same =
    outside_both c xs (masked h c xs) ys (outside_sym c (masked h c xs) xs (masked_outside h c xs within))
    (subst (λ (l : List _). SameOutside c l ys) (sym same) (masked_outside h c ys (rw long within)))

-- ---- pairs

pub take-placed : (n : ℕ) (ts : List Token) (fs : List Bool) → take n (placed ts fs) ≡ placed (take n ts) (take n fs)
take-placed zero [] fs = refl
take-placed zero (t ∷ ts) [] = refl
take-placed zero (t ∷ ts) (f ∷ fs) = refl
take-placed (suc n) [] fs = refl
take-placed (suc n) (t ∷ ts) [] = refl
take-placed (suc n) (t ∷ ts) (f ∷ fs) = ap (λ (l : List Placed). record { tok = t; first = f } ∷ l) (take-placed n ts fs)

placed-none : (ts : List Token) → placed ts [] ≡ []
placed-none [] = refl
placed-none (t ∷ ts) = refl

pub drop-placed : (n : ℕ) (ts : List Token) (fs : List Bool) → drop n (placed ts fs) ≡ placed (drop n ts) (drop n fs)
drop-placed zero ts fs = refl
drop-placed (suc n) [] fs = refl
drop-placed (suc n) (t ∷ ts) [] = sym (placed-none (drop n ts))
drop-placed (suc n) (t ∷ ts) (f ∷ fs) = drop-placed n ts fs

outside_placed : (c : Cut) (ts us : List Token) (fs gs : List Bool) → SameOutside c ts us → SameOutside c fs gs → SameOutside c (placed ts fs) (placed us gs)
outside_placed done ts us fs gs h k = ap (λ (l : List Token). placed l fs) h ∙ ap (placed us) k
outside_placed (keep n c) ts us fs gs h k = (
  take-placed n ts fs ∙ ap (λ (l : List Token). placed l (take n fs)) h.0 ∙ ap (placed (take n us)) k.0 ∙ sym (take-placed n us gs),
  rw (drop-placed n ts fs, drop-placed n us gs) (outside_placed c (drop n ts) (drop n us) (drop n fs) (drop n gs) h.1 k.1),
)
outside_placed (list is c) ts us fs gs h k =
    let n = span_of is in
    rw (drop-placed n ts fs, drop-placed n us gs) (outside_placed c (drop n ts) (drop n us) (drop n fs) (drop n gs) h k)

pub toks_placed : (ts : List Token) (fs : List Bool) → length fs ≡ length ts → toks_of (placed ts fs) ≡ ts
toks_placed [] fs e = refl
toks_placed (t ∷ ts) [] e = absurd (omega (arith, e))
toks_placed (t ∷ ts) (f ∷ fs) e = ap (λ (l : List Token). t ∷ l) (toks_placed ts fs (omega (arith, e)))

pub firsts_placed : (ts : List Token) (fs : List Bool) → length fs ≡ length ts → firsts_of (placed ts fs) ≡ fs
firsts_placed [] [] e = refl
firsts_placed [] (f ∷ fs) e = absurd (omega (arith, e))
firsts_placed (t ∷ ts) [] e = absurd (omega (arith, e))
firsts_placed (t ∷ ts) (f ∷ fs) e = ap (λ (l : List Bool). f ∷ l) (firsts_placed ts fs (omega (arith, e)))

pub length-placed : (ts : List Token) (fs : List Bool) → length fs ≡ length ts → length (placed ts fs) ≡ length ts
length-placed ts fs e = sym (length-map (placed ts fs) (λ (p : Placed). p.tok)) ∙ ap length (toks_placed ts fs e)

-- ---- the law

head_same : (x y : Placed) (xs ys : List Placed) → (x ∷ xs) ≡ (y ∷ ys) → x ≡ y
head_same x y xs ys e = ap (λ (l : List Placed). get_or l 0 x) e

tail_same : (x y : Placed) (xs ys : List Placed) → (x ∷ xs) ≡ (y ∷ ys) → xs ≡ ys
tail_same x y xs ys e = ap (λ (l : List Placed). drop 1 l) e

file_same : (n : ℕ) (order : List ℕ) (c : Cut) (ps vs : List Placed) → IsOrder n order → AreOf n c → extent_of c ≤ length ps → length vs ≡ length ps
    → SameOutside c vs ps → FileRuns c ps vs → SameFile ps (arranged order c vs)
unfolding arranged extent_of
file_same n order done ps vs is all within long same runs = absurd runs
file_same n order (list items c) ps vs is all within long same runs = absurd runs
file_same n order (keep zero c) ps vs is all within long same runs = absurd runs
file_same n order (keep (suc k) c) [] vs is all within long same runs = absurd runs
file_same n order (keep (suc k) c) (p ∷ ps) [] is all within long same runs = absurd runs
file_same n order (keep (suc k) c) (p ∷ ps) (v ∷ vs) is all within long same runs = (
  head_same v p (take k vs) (take k ps) same.0,
  runs_move n order (not (is_hash p.tok)) (keep k c) ps vs is all (omega (arith, within)) (omega (arith, long)) (tail_same v p (take k vs) (take k ps) same.0, same.1) runs,
)

pub file_items_stay : FileItemsStay
file_items_stay = λ n order c file bytes is all within new runs.
    let tc = cut_in file c bytes in
    let T = tokens_of file bytes in
    let F = firsts_of_bytes bytes in
    let mT = map (token_there order c bytes) T in
    let long_t : length new.toks ≡ length T =
    sym (length-masked without_gap tc new.toks) ∙ ap length new.alike ∙ length-masked without_gap tc mT ∙ length-map T (token_there order c bytes) in
    let long_f : length new.firsts ≡ length F = sym (length-masked not_first tc new.firsts) ∙ ap length new.firsts_alike ∙ length-masked not_first tc F in
    let even : length F ≡ length T = file_firsts file bytes in
    let even_new : length new.firsts ≡ length new.toks = long_f ∙ even ∙ sym long_t in
    let ps = placed T F in
    let vs = placed new.toks new.firsts in
    let size : length ps ≡ length T = length-placed T F even in
    let size_new : length vs ≡ length ps = length-placed new.toks new.firsts even_new ∙ long_t ∙ sym size in
    let toks : SameOutside tc new.toks T =
    outside_both tc new.toks mT T
    (alike_outside without_gap tc new.toks mT (rw long_t within) (length-map T (token_there order c bytes) ∙ sym long_t) new.alike) new.outside in
    let firsts : SameOutside tc new.firsts F = alike_outside not_first tc new.firsts F (rw (long_f ∙ even) within) (sym long_f) new.firsts_alike in
    let same = file_same n order tc ps vs is all (rw size within) size_new (outside_placed tc new.toks T new.firsts F toks firsts) runs in
    let new_toks : tokens_of file (arranged order c bytes) ≡ toks_of (arranged order tc vs) =
    new.tokens ∙ ap (arranged order tc) (sym (toks_placed new.toks new.firsts even_new)) ∙ arranged-map (λ (p : Placed). p.tok) order tc vs in
    let new_firsts : firsts_of_bytes (arranged order c bytes) ≡ firsts_of (arranged order tc vs) =
    new.first ∙ ap (arranged order tc) (sym (firsts_placed new.toks new.firsts even_new)) ∙ arranged-map (λ (p : Placed). p.first) order tc vs in
    ap (λ (l : List Token). items_of l (firsts_of_bytes (arranged order c bytes))) new_toks
    ∙ ap (items_of (toks_of (arranged order tc vs))) new_firsts ∙ items_stay ps (arranged order tc vs) same
    ∙ ap (λ (l : List Token). items_of l (firsts_of ps)) (toks_placed T F even) ∙ ap (items_of T) (firsts_placed T F even)
