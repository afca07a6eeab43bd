-- Lists that loops make.
use Rattle.std.proofs.Common.{◌≡◌, ℕ, ◌+◌, List, [], ◌∷◌, ◌++◌, ap, sym, ◌∙◌, append_assoc, add-one, arith}
use Rattle.std.specs.List.{flat_map, range_with_len}
use Rattle.std.proofs.lemmas.Grind.{flat_map-append}
use Rattle.std.proofs.lemmas.List.{append-nil}
use Rattle.calls_of.proofs.GraphListLemmas.{range-more}

-- one element more
pub flat-more : {X Y : Type 0} (f : X → List Y) (xs ys : List X) (x : X) (old now new here : List Y) → ys ≡ xs ++ x ∷ []
    → now ≡ old ++ flat_map f xs → new ≡ now ++ here → here ≡ f x → new ≡ old ++ flat_map f ys
flat-more {X} {Y} f xs ys x old now new here more so_far added is =
    let both : flat_map f ys ≡ flat_map f xs ++ f x =
    ap (flat_map f) more ∙ flat_map-append f xs (x ∷ []) ∙ ap (λ (zs : List Y). flat_map f xs ++ zs) (append-nil (f x)) in
    added ∙ ap (λ (zs : List Y). zs ++ here) so_far ∙ ap (λ (zs : List Y). (old ++ flat_map f xs) ++ zs) is
    ∙ append_assoc old (flat_map f xs) (f x) ∙ ap (λ (zs : List Y). old ++ zs) (sym both)

pub numbers-more : (n : ℕ) → range_with_len 0 (n + 1) ≡ range_with_len 0 n ++ n ∷ []
numbers-more n =
    let e : 0 + n ≡ n = omega arith in
    ap (range_with_len 0) (add-one n) ∙ range-more 0 n ∙ ap (λ (k : ℕ). range_with_len 0 n ++ k ∷ []) e
