-- What is true of each of some.
use Rattle.std.proofs.Common.{◌≡◌, List, [], ◌∷◌, ◌++◌, refl, ap, subst, ◌∙◌}
use Rattle.reordered_text_laws.specs.Marks.{Each}

pub each_map : {X : Type 0} (P Q : X → Type 0) (xs : List X) → ((x : X) → P x → Q x) → Each P xs → Each Q xs
each_map P Q [] f h = tt
each_map P Q (x ∷ xs) f h = (f x h.0, each_map P Q xs f h.1)

pub each_join : {X : Type 0} (P : X → Type 0) (xs ys : List X) → Each P xs → Each P ys → Each P (xs ++ ys)
each_join P [] ys h k = k
each_join P (x ∷ xs) ys h k = (h.0, each_join P xs ys h.1 k)

pub each_first : {X : Type 0} (P : X → Type 0) (xs ys : List X) → Each P (xs ++ ys) → Each P xs
each_first P [] ys h = tt
each_first P (x ∷ xs) ys h = (h.0, each_first P xs ys h.1)

pub each_later : {X : Type 0} (P : X → Type 0) (xs ys : List X) → Each P (xs ++ ys) → Each P ys
each_later P [] ys h = h
each_later P (x ∷ xs) ys h = each_later P xs ys h.1

pub each_two : {X : Type 0} (P Q : X → Type 0) (xs : List X) → Each P xs → Each Q xs → Each (λ x. P x × Q x) xs
each_two P Q [] h k = tt
each_two P Q (x ∷ xs) h k = ((h.0, k.0), each_two P Q xs h.1 k.1)

-- Some that are so, and others that are not, behind them: there is one seam.
pub one_seam : {X : Type 0} (P Q : X → Type 0) (xs ys us vs : List X) → ((x : X) → P x → Q x → ⊥) → Each P xs → Each Q ys → Each P us → Each Q vs → xs ++ ys ≡ us ++ vs
    → (xs ≡ us) × (ys ≡ vs)
one_seam P Q [] ys [] vs no_both a b c d e = (refl, e)
one_seam P Q [] [] (u ∷ us) vs no_both a b c d e = absurd (cc)
one_seam P Q [] (y ∷ ys) (u ∷ us) vs no_both a b c d e = let same : y ≡ u = cc in absurd (no_both u c.0 (subst Q same b.0))
one_seam P Q (x ∷ xs) ys [] [] no_both a b c d e = absurd (cc)
one_seam P Q (x ∷ xs) ys [] (v ∷ vs) no_both a b c d e = let same : x ≡ v = cc in absurd (no_both v (subst P same a.0) d.0)
one_seam P Q (x ∷ xs) ys (u ∷ us) vs no_both a b c d e =
    let first : x ≡ u = cc in
    let rest : xs ++ ys ≡ us ++ vs = cc in
    let r = one_seam P Q xs ys us vs no_both a.1 b c.1 d rest in
    (ap (λ (z : _). z ∷ xs) first ∙ ap (λ (zs : List _). u ∷ zs) r.0, r.1)
