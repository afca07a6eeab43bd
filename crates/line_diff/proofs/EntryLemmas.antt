-- The entries of rows have the lines of the rows.
use Rattle.std.proofs.Common.{◌≡◌, ◌∙◌, ℕ, List, [], ◌∷◌, ◌++◌, map, refl, ap, sym}
use Rattle.std.specs.List.{flat_map}
use Rattle.std.proofs.lemmas.List.{append-nil, append_assoc}
use Rattle.line_diff.specs.Rows.{Row, stays, changes, goes, comes, olds, news}
use Rattle.line_diff.specs.Hunks.{gets, entries_of, old_lines, new_lines, old_line, new_line}

pub flat_map-append : {X Y : Type 0} (f : X → List Y) (xs ys : List X) → flat_map f (xs ++ ys) ≡ flat_map f xs ++ flat_map f ys
flat_map-append f [] ys = refl
flat_map-append f (x ∷ xs) ys =
    ap (λ (more : List _). f x ++ more) (flat_map-append f xs ys) ∙ sym (append_assoc (f x) (flat_map f xs) (flat_map f ys))

old_lines-gets : (got : List (List ℕ)) → old_lines (map gets got) ≡ []
old_lines-gets [] = refl
old_lines-gets (line ∷ got) = old_lines-gets got

new_lines-gets : (got : List (List ℕ)) → new_lines (map gets got) ≡ got
new_lines-gets [] = refl
new_lines-gets (line ∷ got) = ap (λ (more : List (List ℕ)). line ∷ more) (new_lines-gets got)

pub old_lines-entries : (got : List (List ℕ)) (rows : List Row) → old_lines (entries_of got rows) ≡ olds rows
unfolding entries_of
old_lines-entries got [] = old_lines-gets got
old_lines-entries got (stays line ∷ rows) =
    flat_map-append old_line (map gets got) _
    ∙ rw (old_lines-gets got) (ap (λ (more : List (List ℕ)). line ∷ more) (old_lines-entries [] rows))
old_lines-entries got (changes old new ∷ rows) = ap (λ (more : List (List ℕ)). old ∷ more) (old_lines-entries (got ++ new ∷ []) rows)
old_lines-entries got (goes old ∷ rows) = ap (λ (more : List (List ℕ)). old ∷ more) (old_lines-entries got rows)
old_lines-entries got (comes new ∷ rows) = old_lines-entries (got ++ new ∷ []) rows

pub new_lines-entries : (got : List (List ℕ)) (rows : List Row) → new_lines (entries_of got rows) ≡ got ++ news rows
unfolding entries_of
new_lines-entries got [] = new_lines-gets got ∙ sym (append-nil got)
new_lines-entries got (stays line ∷ rows) =
    flat_map-append new_line (map gets got) _
    ∙ rw (new_lines-gets got) (ap (λ (more : List (List ℕ)). got ++ line ∷ more) (new_lines-entries [] rows))
new_lines-entries got (changes old new ∷ rows) = new_lines-entries (got ++ new ∷ []) rows ∙ append_assoc got (new ∷ []) (news rows)
new_lines-entries got (goes old ∷ rows) = new_lines-entries got rows
new_lines-entries got (comes new ∷ rows) = new_lines-entries (got ++ new ∷ []) rows ∙ append_assoc got (new ∷ []) (news rows)
