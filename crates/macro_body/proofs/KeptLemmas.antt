-- What is kept of what happens, part by part.
use Rattle.std.proofs.Common.{◌≡◌, ℕ, List, [], ◌∷◌, ◌++◌, map, refl, sym, ap, ◌∙◌, append_assoc}
use Rattle.std.proofs.lemmas.List.{append-nil, map-append}
use Rattle.cs_base.specs.Token.{Token}
use Rattle.macro_body.specs.Notes.{Note, Replaced, Linked, Stringized, Pasted, Counted, links_in, pasted_in, stringized_in, replaced_in, counted_in}
use Rattle.macro_body.specs.Kept.{Kept, kept, link_of, replacement_of, kept_with}

links_in-append : (xs ys : List Note) → links_in (xs ++ ys) ≡ links_in xs ++ links_in ys
links_in-append [] ys = refl
links_in-append (Replaced name m before ∷ xs) ys = links_in-append xs ys
links_in-append (Linked x y ∷ xs) ys = ap (λ (r : List (Token × Token)). (x, y) ∷ r) (links_in-append xs ys)
links_in-append (Stringized toks s ∷ xs) ys = links_in-append xs ys
links_in-append (Pasted x y z ∷ xs) ys = links_in-append xs ys
links_in-append (Counted z ∷ xs) ys = links_in-append xs ys

pasted_in-append : (xs ys : List Note) → pasted_in (xs ++ ys) ≡ pasted_in xs ++ pasted_in ys
pasted_in-append [] ys = refl
pasted_in-append (Replaced name m before ∷ xs) ys = pasted_in-append xs ys
pasted_in-append (Linked x y ∷ xs) ys = pasted_in-append xs ys
pasted_in-append (Stringized toks s ∷ xs) ys = pasted_in-append xs ys
pasted_in-append (Pasted x y z ∷ xs) ys = ap (λ (r : List Token). z ∷ r) (pasted_in-append xs ys)
pasted_in-append (Counted z ∷ xs) ys = pasted_in-append xs ys

stringized_in-append : (xs ys : List Note) → stringized_in (xs ++ ys) ≡ stringized_in xs ++ stringized_in ys
stringized_in-append [] ys = refl
stringized_in-append (Replaced name m before ∷ xs) ys = stringized_in-append xs ys
stringized_in-append (Linked x y ∷ xs) ys = stringized_in-append xs ys
stringized_in-append (Stringized toks s ∷ xs) ys =
    ap (λ (r : List Token). toks ++ r) (stringized_in-append xs ys) ∙ sym (append_assoc toks (stringized_in xs) (stringized_in ys))
stringized_in-append (Pasted x y z ∷ xs) ys = stringized_in-append xs ys
stringized_in-append (Counted z ∷ xs) ys = stringized_in-append xs ys

replaced_in-append : (xs ys : List Note) → replaced_in (xs ++ ys) ≡ replaced_in xs ++ replaced_in ys
replaced_in-append [] ys = refl
replaced_in-append (Replaced name m before ∷ xs) ys = ap (λ (r : List (Token × Token × ℕ)). (name, m, before) ∷ r) (replaced_in-append xs ys)
replaced_in-append (Linked x y ∷ xs) ys = replaced_in-append xs ys
replaced_in-append (Stringized toks s ∷ xs) ys = replaced_in-append xs ys
replaced_in-append (Pasted x y z ∷ xs) ys = replaced_in-append xs ys
replaced_in-append (Counted z ∷ xs) ys = replaced_in-append xs ys

counted_in-append : (xs ys : List Note) → counted_in (xs ++ ys) ≡ counted_in xs ++ counted_in ys
counted_in-append [] ys = refl
counted_in-append (Replaced name m before ∷ xs) ys = counted_in-append xs ys
counted_in-append (Linked x y ∷ xs) ys = counted_in-append xs ys
counted_in-append (Stringized toks s ∷ xs) ys = counted_in-append xs ys
counted_in-append (Pasted x y z ∷ xs) ys = counted_in-append xs ys
counted_in-append (Counted z ∷ xs) ys = ap (λ (r : List Token). z ∷ r) (counted_in-append xs ys)

-- lists behind another, one after the other
pub behind_both : {A : Type 0} (k xs ys zs : List A) → zs ≡ xs ++ ys → k ++ zs ≡ (k ++ xs) ++ ys
behind_both {A} k xs ys zs is = ap (λ (r : List A). k ++ r) is ∙ sym (append_assoc k xs ys)

mapped_both : {A B : Type 0} (f : A → B) (xs ys zs : List A) → zs ≡ xs ++ ys → map f zs ≡ map f xs ++ map f ys
mapped_both {A} {B} f xs ys zs is = ap (λ (r : List A). map f r) is ∙ map-append f xs ys

-- What is kept of all is what is kept of the parts, one after the other.
pub kept_with-append : (k : Kept) (xs ys : List Note) → kept_with k (xs ++ ys) ≡ kept_with (kept_with k xs) ys
kept_with-append k xs ys =
    let links : k.links ++ map link_of (links_in (xs ++ ys)) ≡ (k.links ++ map link_of (links_in xs)) ++ map link_of (links_in ys) =
    behind_both k.links _ _ _ (mapped_both link_of (links_in xs) (links_in ys) (links_in (xs ++ ys)) (links_in-append xs ys)) in
    let pasted : k.pasted ++ pasted_in (xs ++ ys) ≡ (k.pasted ++ pasted_in xs) ++ pasted_in ys =
    behind_both k.pasted _ _ _ (pasted_in-append xs ys) in
    let stringized : k.stringized ++ stringized_in (xs ++ ys) ≡ (k.stringized ++ stringized_in xs) ++ stringized_in ys =
    behind_both k.stringized _ _ _ (stringized_in-append xs ys) in
    let replaced : k.replaced ++ map replacement_of (replaced_in (xs ++ ys)) ≡ (k.replaced ++ map replacement_of (replaced_in xs)) ++ map replacement_of (replaced_in ys) =
    behind_both k.replaced _ _ _ (mapped_both replacement_of (replaced_in xs) (replaced_in ys) (replaced_in (xs ++ ys)) (replaced_in-append xs ys)) in
    let counted : k.counted ++ counted_in (xs ++ ys) ≡ (k.counted ++ counted_in xs) ++ counted_in ys =
    behind_both k.counted _ _ _ (counted_in-append xs ys) in
    λ i. kept (links i) (pasted i) (stringized i) (replaced i) (counted i)

-- Where nothing happened, nothing is kept besides.
pub kept_with-nil : (k : Kept) → kept_with k [] ≡ k
kept_with-nil k = λ i. kept (append-nil k.links i) (append-nil k.pasted i) (append-nil k.stringized i) (append-nil k.replaced i) (append-nil k.counted i)
