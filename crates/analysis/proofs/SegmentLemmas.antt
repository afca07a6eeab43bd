-- Lists that lie one behind another in one list: one more, and the one with a number.
use Rattle.std.proofs.Common.{◌≡◌, ℕ, zero, suc, ◌+◌, ◌-◌, ◌<◌, ◌≤◌, List, [], ◌∷◌, ◌++◌, length, take, drop, get_or, refl, sym, ap, ◌∙◌, subst, arith}
use Rattle.std.specs.Prelude.{slice_range}
use Rattle.std.proofs.lemmas.List.{length-append, drop-append-le, take-append-le, take_all, length-drop}
use Rattle.std.proofs.Math.Seq.{drop-append_seam}
use Rattle.analysis.specs.Segments.{segments, AreEnds}

pub ends_from : (from : ℕ) (ends : List ℕ) (n : ℕ) → AreEnds from ends n → from ≤ n
ends_from from [] n h = omega (arith, h)
ends_from from (end ∷ ends) n h = omega (arith, h.0, ends_from end ends n h.1)

pub ends_push : (from : ℕ) (ends : List ℕ) (n m : ℕ) → AreEnds from ends n → AreEnds from (ends ++ (n + m) ∷ []) (n + m)
ends_push from [] n m h = (omega (arith, h), refl)
ends_push from (end ∷ ends) n m h = (h.0, ends_push end ends n m h.1)

-- a list keeps what lies in its front
range_front : {X : Type 0} (xs ys : List X) (from to : ℕ) → from ≤ to → to ≤ length xs → slice_range (xs ++ ys) from to ≡ slice_range xs from to
range_front xs ys from to up within =
    let d : drop from (xs ++ ys) ≡ drop from xs ++ ys = drop-append-le from xs ys (omega arith) in
    ap (take (to - from)) d ∙ take-append-le (to - from) (drop from xs) ys (omega (arith, length-drop from xs))

range_behind : {X : Type 0} (xs ys : List X) (from : ℕ) → from ≡ length xs → slice_range (xs ++ ys) from (length xs + length ys) ≡ ys
range_behind {X = X} xs ys from e =
    let len : length xs + length ys - from ≡ length ys = omega (arith, e) in
    ap (λ (n : ℕ). take n (drop from (xs ++ ys))) len
    ∙ ap (λ (n : ℕ). take (length ys) (drop n (xs ++ ys))) e
    ∙ ap (take (length ys)) (drop-append_seam xs ys)
    ∙ take_all (length ys) ys (omega arith)

pub segments_push : {X : Type 0} (from : ℕ) (ends : List ℕ) (xs ys : List X) → AreEnds from ends (length xs)
    → segments from (ends ++ (length xs + length ys) ∷ []) (xs ++ ys) ≡ segments from ends xs ++ ys ∷ []
segments_push {X = X} from [] xs ys h = ap (λ (l : List X). l ∷ []) (range_behind xs ys from h)
segments_push {X = X} from (end ∷ ends) xs ys h =
    let first = range_front xs ys from end h.0 (ends_from end ends (length xs) h.1) in
    let rest = segments_push end ends xs ys h.1 in
    cc

-- ---- the list with a number

pub segments_at : {X : Type 0} (from : ℕ) (ends : List ℕ) (xs : List X) (k : ℕ) → k < length ends
    → get_or (segments from ends xs) k [] ≡ slice_range xs (get_or (from ∷ ends) k 0) (get_or ends k 0)
segments_at from [] xs k within = absurd (omega arith)
segments_at from (end ∷ ends) xs zero within = refl
segments_at from (end ∷ ends) xs (suc k) within = segments_at end ends xs k (omega arith)

pub segments_past : {X : Type 0} (from : ℕ) (ends : List ℕ) (xs : List X) (k : ℕ) → length ends ≤ k → get_or (segments from ends xs) k [] ≡ []
segments_past from [] xs k past = refl
segments_past from (end ∷ ends) xs zero past = absurd (omega arith)
segments_past from (end ∷ ends) xs (suc k) past = segments_past end ends xs k (omega arith)

-- it begins and ends within the list
pub ends_at : (from : ℕ) (ends : List ℕ) (n k : ℕ) → AreEnds from ends n → k < length ends
    → (get_or (from ∷ ends) k 0 ≤ get_or ends k 0) × (get_or ends k 0 ≤ n)
ends_at from [] n k h within = absurd (omega arith)
ends_at from (end ∷ ends) n zero h within = (h.0, ends_from end ends n h.1)
ends_at from (end ∷ ends) n (suc k) h within = ends_at end ends n k h.1 (omega arith)

-- ---- one list more, with the fields as they are told

pub pushed_ends : {X : Type 0} (ends ends' : List ℕ) (xs xs' ys : List X) (n : ℕ) → AreEnds 0 ends (length xs)
    → xs' ≡ xs ++ ys → n ≡ length xs' → ends' ≡ ends ++ n ∷ [] → AreEnds 0 ends' (length xs')
pushed_ends {X = X} ends ends' xs xs' ys n h more last also =
    let len : length xs' ≡ length xs + length ys = ap length more ∙ length-append xs ys in
    let P : List ℕ → Type 0 = λ l. AreEnds 0 l (length xs') in
    let Q : ℕ → Type 0 = λ m. AreEnds 0 (ends ++ m ∷ []) m in
    let at : AreEnds 0 (ends ++ length xs' ∷ []) (length xs') = subst Q (sym len) (ends_push 0 ends (length xs) (length ys) h) in
    let R : ℕ → Type 0 = λ m. AreEnds 0 (ends ++ m ∷ []) (length xs') in
    subst P (sym also) (subst R (sym last) at)

pub pushed_segments : {X : Type 0} (ends ends' : List ℕ) (xs xs' ys : List X) (n : ℕ) → AreEnds 0 ends (length xs)
    → xs' ≡ xs ++ ys → n ≡ length xs' → ends' ≡ ends ++ n ∷ [] → segments 0 ends' xs' ≡ segments 0 ends xs ++ ys ∷ []
pushed_segments {X = X} ends ends' xs xs' ys n h more last also =
    let len : n ≡ length xs + length ys = last ∙ ap length more ∙ length-append xs ys in
    ap (λ (l : List ℕ). segments 0 l xs') (also ∙ ap (λ (m : ℕ). ends ++ m ∷ []) len)
    ∙ ap (segments 0 (ends ++ (length xs + length ys) ∷ [])) more
    ∙ segments_push 0 ends xs ys h
