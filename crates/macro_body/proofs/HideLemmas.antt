-- Hide sets as the spellings of tokens.
use Rattle.std.proofs.Common.{◌≡◌, ℕ, List, [], ◌∷◌, ◌++◌, ◌||◌, Bool, true, false, refl, ap, sym, ◌∙◌, append_assoc}
use Rattle.std.specs.List.{filter, flat_map, list_any}
use Rattle.std.specs.Str.{bytes_eq}
use Rattle.std.proofs.lemmas.List.{map-append}
use Rattle.std.proofs.lemmas.List.Folds.{list_any-append}
use Rattle.cs_base.specs.Token.{Token}
use Rattle.cs_base.proofs.BoolLemmas.{or-false}
use Rattle.cs_base.proofs.FileMapLemmas.{bytes_eq-same}
use Rattle.line_shape.specs.MacroLine.{spellings}
use Rattle.macro_body.specs.Hides.{hides_name, in_both, lacking, with_names}

pub list_any-spellings : (name : List ℕ) (ts : List Token) → list_any (λ (t : Token). bytes_eq name t.text) ts ≡ hides_name (spellings ts) name
list_any-spellings name [] = refl
list_any-spellings name (t ∷ ts) = rw (list_any-spellings name ts) refl

-- a set without names, with these names
pub with_names-none : (names : List (List ℕ)) → with_names [] names ≡ names
with_names-none [] = refl
with_names-none (x ∷ xs) = ap (λ l. x ∷ l) (with_names-none xs)

or-true : (b : Bool) → (b || true) ≡ true
or-true true = refl
or-true false = refl

-- what a set and the same set have both
in_both-behind : (front xs : List (List ℕ)) → filter (hides_name (front ++ xs)) xs ≡ xs
in_both-behind front [] = refl
in_both-behind front (x ∷ xs) =
    let here : hides_name (front ++ x ∷ xs) x ≡ true =
    list_any-append (bytes_eq x) front (x ∷ xs) ∙ ap (λ (b : Bool). hides_name front x || (b || hides_name xs x)) (bytes_eq-same x) ∙ or-true (hides_name front x) in
    let behind : filter (hides_name (front ++ x ∷ xs)) xs ≡ xs =
    ap (λ (all : List (List ℕ)). filter (hides_name all) xs) (sym (append_assoc front (x ∷ []) xs)) ∙ in_both-behind (front ++ x ∷ []) xs in
    rw here (ap (λ l. x ∷ l) behind)

pub in_both-same : (xs ys : List (List ℕ)) → xs ≡ ys → in_both xs ys ≡ xs
in_both-same xs ys same = ap (λ (all : List (List ℕ)). in_both xs all) (sym same) ∙ in_both-behind [] xs

-- ---- sets in parts

hides-flat : (ps : List (List (List ℕ))) (name : List ℕ) → hides_name (flat_map (λ p. p) ps) name ≡ list_any (λ p. hides_name p name) ps
hides-flat [] name = refl
hides-flat (p ∷ ps) name =
    list_any-append (bytes_eq name) p (flat_map (λ q. q) ps) ∙ ap (λ (b : Bool). hides_name p name || b) (hides-flat ps name)

-- a name is in a part, or among those behind the parts
hides-parts : (ps : List (List (List ℕ))) (last : List Token) (hides : List (List ℕ)) (name : List ℕ) → flat_map (λ p. p) ps ++ spellings last ≡ hides
    → hides_name hides name ≡ (list_any (λ p. hides_name p name) ps || list_any (λ (t : Token). bytes_eq name t.text) last)
hides-parts ps last hides name is =
    ap (λ (hs : List (List ℕ)). hides_name hs name) (sym is) ∙ list_any-append (bytes_eq name) (flat_map (λ p. p) ps) (spellings last)
    ∙ ap (λ (b : Bool). b || hides_name (spellings last) name) (hides-flat ps name)
    ∙ ap (λ (b : Bool). list_any (λ p. hides_name p name) ps || b) (sym (list_any-spellings name last))

pub hides-behind : (ps : List (List (List ℕ))) (last : List Token) (hides : List (List ℕ)) (name : List ℕ) → flat_map (λ p. p) ps ++ spellings last ≡ hides
    → list_any (λ (t : Token). bytes_eq name t.text) last ≡ true → true ≡ hides_name hides name
hides-behind ps last hides name is here =
    sym (hides-parts ps last hides name is ∙ ap (λ (b : Bool). list_any (λ p. hides_name p name) ps || b) here ∙ or-true _)

pub hides-above : (ps : List (List (List ℕ))) (last : List Token) (hides : List (List ℕ)) (name : List ℕ) → flat_map (λ p. p) ps ++ spellings last ≡ hides
    → list_any (λ (t : Token). bytes_eq name t.text) last ≡ false → list_any (λ p. hides_name p name) ps ≡ hides_name hides name
hides-above ps last hides name is here =
    sym (hides-parts ps last hides name is ∙ ap (λ (b : Bool). list_any (λ p. hides_name p name) ps || b) here ∙ or-false _)

-- a name behind the others
pub spelled-one : (front : List (List ℕ)) (last : List Token) (name : Token) (hides : List (List ℕ)) → front ++ spellings last ≡ hides
    → front ++ spellings (last ++ name ∷ []) ≡ hides ++ name.text ∷ []
spelled-one front last name hides was =
    ap (λ (hs : List (List ℕ)). front ++ hs) (map-append (λ (t : Token). t.text) last (name ∷ [])) ∙ sym (append_assoc front (spellings last) (name.text ∷ []))
    ∙ ap (λ (hs : List (List ℕ)). hs ++ name.text ∷ []) was

-- names that are lacking behind the others
pub spelled-lacking : (front : List (List ℕ)) (last last2 all all2 : List Token) (hides more : List (List ℕ)) → front ++ spellings last ≡ hides → last2 ≡ last → spellings all ≡ more
    → spellings all2 ≡ spellings last2 ++ lacking hides (spellings all) → front ++ spellings all2 ≡ with_names hides more
spelled-lacking front last last2 all all2 hides more was same listed is =
    ap (λ (hs : List (List ℕ)). front ++ hs) (is ∙ ap (λ (ts : List Token). spellings ts ++ lacking hides (spellings all)) same)
    ∙ sym (append_assoc front (spellings last) (lacking hides (spellings all)))
    ∙ ap (λ (hs : List (List ℕ)). hs ++ lacking hides (spellings all)) was
    ∙ ap (λ (hs : List (List ℕ)). hides ++ lacking hides hs) listed
