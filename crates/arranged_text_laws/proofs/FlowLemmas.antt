-- A text whose parts bring the same wherever they stand brings in a new order what it brought, in that order.
use Rattle.std.proofs.Common.{◌≡◌, ℕ, zero, suc, ◌+◌, ◌-◌, ◌<◌, ◌≤◌, Bool, true, List, [], ◌∷◌, ◌++◌, length, take, drop, get_or, refl, sym, ap, ◌∙◌, arith, append_assoc, append-nil}
use Rattle.std.specs.List.{All}
use Rattle.std.proofs.lemmas.List.{drop-drop}
use Rattle.list_cuts.specs.Cuts.{picked, woven}
use Rattle.arranged_text_laws.specs.Labels.{head_with, starts}
use Rattle.arranged_text_laws.proofs.OrderLemmas.{labelled}
use Rattle.arranged_text_laws.proofs.Flows.{Flow, Goes}

-- ---- lists

pub starts-append : {X : Type 0} (p : X → Bool) (xs ys : List X) → starts p xs ≡ true → starts p (xs ++ ys) ≡ true
starts-append p [] ys h = absurd cc
starts-append p (x ∷ xs) ys h = h

pub take_front : {X : Type 0} (n : ℕ) (xs ys : List X) → length xs ≡ n → take n (xs ++ ys) ≡ xs
take_front n [] ys e = rw (← e) refl
take_front zero (x ∷ xs) ys e = absurd (omega (arith, e))
take_front (suc n) (x ∷ xs) ys e = ap (λ (l : List _). x ∷ l) (take_front n xs ys (omega (arith, e)))

pub drop_front : {X : Type 0} (n : ℕ) (xs ys : List X) → length xs ≡ n → drop n (xs ++ ys) ≡ ys
drop_front n [] ys e = rw (← e) refl
drop_front zero (x ∷ xs) ys e = absurd (omega (arith, e))
drop_front (suc n) (x ∷ xs) ys e = drop_front n xs ys (omega (arith, e))

-- behind two parts
pub drop_both : {X : Type 0} (n m : ℕ) (xs ys zs : List X) → length xs ≡ n → length ys ≡ m → drop (n + m) (xs ++ (ys ++ zs)) ≡ zs
drop_both n m xs ys zs e g =
    sym (drop-drop m n (xs ++ (ys ++ zs))) ∙ ap (λ (l : List _). drop m l) (drop_front n xs (ys ++ zs) e) ∙ drop_front m ys zs g

pub take_gap : {X : Type 0} (n m : ℕ) (xs ys zs : List X) → length xs ≡ n → length ys ≡ m → take m (drop n (xs ++ (ys ++ zs))) ≡ ys
take_gap n m xs ys zs e g = ap (λ (l : List _). take m l) (drop_front n xs (ys ++ zs) e) ∙ take_front m ys zs g

-- ---- items, one by one

-- items bring these, labelled by the state before them
pub record ItemGoes {X Y S : Type 0} (f : Flow X Y S) (xs : List X) (ys : List Y) : Type 0 where
  pub first : starts f.begins_item xs ≡ true
  pub goes : (st : S) (more : List X) → starts f.behind_item more ≡ true → f.run st (xs ++ more) ≡ head_with (f.label st) ys ++ f.run f.rest more

abbrev pub AllGo : {X Y S : Type 0} → Flow X Y S → List (List X) → List (List Y) → Type 0
AllGo f [] [] = Unit {0}
AllGo f (xs ∷ xss) (ys ∷ yss) = ItemGoes f xs ys × AllGo f xss yss
AllGo f _ _ = ⊥

all_at : {X Y S : Type 0} (f : Flow X Y S) (xss : List (List X)) (yss : List (List Y)) (k : ℕ) → AllGo f xss yss → k < length xss
    → ItemGoes f (get_or xss k []) (get_or yss k [])
all_at f [] [] k all lt = absurd (omega (arith, lt))
all_at f [] (ys ∷ yss) k all lt = absurd (omega (arith, lt))
all_at f (xs ∷ xss) [] k all lt = absurd all
all_at f (xs ∷ xss) (ys ∷ yss) zero all lt = all.0
all_at f (xs ∷ xss) (ys ∷ yss) (suc k) all lt = all_at f xss yss k all.1 (omega (arith, lt))

pub all_picked : {X Y S : Type 0} (f : Flow X Y S) (xss : List (List X)) (yss : List (List Y)) (n : ℕ) (ks : List ℕ) → AllGo f xss yss → length xss ≡ n
    → All (λ k. (0 < k) × (k ≤ n)) ks → AllGo f (picked ks xss) (picked ks yss)
all_picked f xss yss n [] all many within = tt
all_picked f xss yss n (k ∷ ks) all many within =
    let first : (0 < k) × (k ≤ n) = within 0 k (omega arith) in
    (all_at f xss yss (k - 1) all (omega (arith, first, many)), all_picked f xss yss n ks all many (λ i e lt. within (suc i) e (omega (arith, lt))))

-- what stands behind items brings these, and leaves states; nothing stands behind the last
abbrev pub GapsGo : {X Y S : Type 0} → Flow X Y S → List (List X) → List (List Y) → List S → Type 0
GapsGo f [] [] [] = Unit {0}
GapsGo f (xs ∷ []) (ys ∷ []) (s ∷ []) = (xs ≡ []) × (ys ≡ [])
GapsGo f (xs ∷ xs2 ∷ xss) (ys ∷ ys2 ∷ yss) (s ∷ s2 ∷ ss) =
    (starts f.behind_item xs ≡ true) × Goes f f.begins_item f.rest xs ys s × GapsGo f (xs2 ∷ xss) (ys2 ∷ yss) (s2 ∷ ss)
GapsGo f _ _ _ = ⊥

-- items and gaps, one behind the other
pub weave : {X Y S : Type 0} (f : Flow X Y S) (st : S) (xss : List (List X)) (yss : List (List Y)) (gs : List (List X)) (ds : List (List Y)) (ss : List S)
    → AllGo f xss yss → GapsGo f gs ds ss → length xss ≡ length gs → 0 < length xss → (more : List X) → starts f.behind_item more ≡ true
    → f.run st (woven xss gs ++ more) ≡ woven (labelled f.label (st ∷ ss) yss) ds ++ f.run f.rest more
unfolding woven
weave f st [] yss gs ds ss all gaps even some more ends = absurd (omega (arith, some))
weave f st (xs ∷ xss) [] gs ds ss all gaps even some more ends = absurd all
weave f st (xs ∷ xss) (ys ∷ yss) [] ds ss all gaps even some more ends = absurd (omega (arith, even))
weave f st (xs ∷ []) (ys ∷ []) (g ∷ []) (d ∷ []) (s ∷ []) all gaps even some more ends =
    let text : xs ++ (g ++ []) ≡ xs = rw gaps.0 (append-nil xs) in
    let out : head_with (f.label st) ys ++ (d ++ []) ≡ head_with (f.label st) ys = rw gaps.1 (append-nil (head_with (f.label st) ys)) in
    ap (λ (l : List _). f.run st (l ++ more)) text ∙ all.0.goes st more ends ∙ ap (λ (l : List _). l ++ f.run f.rest more) (sym out)
weave f st (xs ∷ []) (ys ∷ y2 ∷ yss) gs ds ss all gaps even some more ends = absurd all.1
weave f st (xs ∷ x2 ∷ xss) (ys ∷ []) gs ds ss all gaps even some more ends = absurd all.1
weave f st (xs ∷ []) (ys ∷ []) (g ∷ g2 ∷ gs) ds ss all gaps even some more ends = absurd (omega (arith, even))
weave f st (xs ∷ x2 ∷ xss) (ys ∷ y2 ∷ yss) (g ∷ []) ds ss all gaps even some more ends = absurd (omega (arith, even))
weave f st (xs ∷ []) (ys ∷ []) (g ∷ []) [] ss all gaps even some more ends = absurd gaps
weave f st (xs ∷ []) (ys ∷ []) (g ∷ []) (d ∷ d2 ∷ ds) ss all gaps even some more ends = absurd gaps
weave f st (xs ∷ []) (ys ∷ []) (g ∷ []) (d ∷ []) [] all gaps even some more ends = absurd gaps
weave f st (xs ∷ []) (ys ∷ []) (g ∷ []) (d ∷ []) (s ∷ s2 ∷ ss) all gaps even some more ends = absurd gaps
weave f st (xs ∷ x2 ∷ xss) (ys ∷ y2 ∷ yss) (g ∷ g2 ∷ gs) [] ss all gaps even some more ends = absurd gaps
weave f st (xs ∷ x2 ∷ xss) (ys ∷ y2 ∷ yss) (g ∷ g2 ∷ gs) (d ∷ []) ss all gaps even some more ends = absurd gaps
weave f st (xs ∷ x2 ∷ xss) (ys ∷ y2 ∷ yss) (g ∷ g2 ∷ gs) (d ∷ d2 ∷ ds) [] all gaps even some more ends = absurd gaps
weave f st (xs ∷ x2 ∷ xss) (ys ∷ y2 ∷ yss) (g ∷ g2 ∷ gs) (d ∷ d2 ∷ ds) (s ∷ []) all gaps even some more ends = absurd gaps
weave f st (xs ∷ x2 ∷ xss) (ys ∷ y2 ∷ yss) (g ∷ g2 ∷ gs) (d ∷ d2 ∷ ds) (s ∷ s2 ∷ ss) all gaps even some more ends =
    let W = woven (x2 ∷ xss) (g2 ∷ gs) in
    let V = woven (labelled f.label (s ∷ s2 ∷ ss) (y2 ∷ yss)) (d2 ∷ ds) in
    let C = head_with (f.label st) ys in
    let behind : starts f.behind_item (g ++ (W ++ more)) ≡ true = starts-append f.behind_item g (W ++ more) gaps.0 in
    let next : starts f.begins_item (W ++ more) ≡ true =
    starts-append f.begins_item W more (starts-append f.begins_item x2 (g2 ++ woven xss gs) all.1.0.first) in
    let later = weave f s (x2 ∷ xss) (y2 ∷ yss) (g2 ∷ gs) (d2 ∷ ds) (s2 ∷ ss) all.1 gaps.2 (omega (arith, even)) (omega arith) more ends in
    let text : (xs ++ (g ++ W)) ++ more ≡ xs ++ (g ++ (W ++ more)) = append_assoc xs (g ++ W) more ∙ ap (λ (l : List _). xs ++ l) (append_assoc g W more) in
    let out : (C ++ (d ++ V)) ++ f.run f.rest more ≡ C ++ (d ++ (V ++ f.run f.rest more)) =
    append_assoc C (d ++ V) (f.run f.rest more) ∙ ap (λ (l : List _). C ++ l) (append_assoc d V (f.run f.rest more)) in
    ap (f.run st) text ∙ all.0.goes st (g ++ (W ++ more)) behind
    ∙ ap (λ (l : List _). C ++ l) (gaps.1.goes (W ++ more) next ∙ ap (λ (l : List _). d ++ l) later) ∙ sym out
