-- What holds of a path by its components holds of its normal path.
use Rattle.std.proofs.Common.{◌≡◌, ℕ, Bool, true, false, List, [], ◌∷◌, ◌++◌, reverse, inl, inr, refl}
use Rattle.std.specs.Prelude.{fold}
use Rattle.std.specs.List.{list_all, join_with_byte}
use Rattle.std.proofs.lemmas.Bool.{cases_Bool, and_from, and_parts}
use Rattle.std.proofs.lemmas.List.{reverse-append}
use Rattle.std.proofs.lemmas.List.Folds.{list_all-append}
use Rattle.std.proofs.lemmas.List.Splits.{join_with_byte-slice_split}
use Rattle.cs_base.specs.Paths.{slash, is_absolute, components_of, is_here, is_up, after_up, after_component, kept_of, path_of, normal_path_of}

pub list_all-reverse : {X : Type 0} (p : X → Bool) (xs : List X) → list_all p xs ≡ true → list_all p (reverse xs) ≡ true
list_all-reverse p [] h = refl
list_all-reverse p (x ∷ xs) h =
    let turned = reverse-append (x ∷ []) xs in
    let rest = list_all-reverse p xs ((and_parts _ _ h).1) in
    rw (turned, list_all-append) (and_from _ _ rest (and_from _ _ ((and_parts _ _ h).0) refl))

-- A test that a path passes exactly where what stands before and after a slash of it does.
pub record IsByParts (p : List ℕ → Bool) : Type 0 where
  pub nil : p [] ≡ true
  pub front : (xs ys : List ℕ) → p (xs ++ slash ∷ ys) ≡ true → p xs ≡ true
  pub back : (xs ys : List ℕ) → p (xs ++ slash ∷ ys) ≡ true → p ys ≡ true
  pub whole : (xs ys : List ℕ) → p xs ≡ true → p ys ≡ true → p (xs ++ slash ∷ ys) ≡ true

parts_from_path : (p : List ℕ → Bool) → IsByParts p → (parts : List (List ℕ)) → p (join_with_byte slash parts) ≡ true
    → list_all p parts ≡ true
parts_from_path p f [] h = refl
parts_from_path p f (x ∷ []) h = and_from _ _ h refl
parts_from_path p f (x ∷ y ∷ parts) h =
    and_from _ _ (f.front x (join_with_byte slash (y ∷ parts)) h)
    (parts_from_path p f (y ∷ parts) (f.back x (join_with_byte slash (y ∷ parts)) h))

path_from_parts : (p : List ℕ → Bool) → IsByParts p → (parts : List (List ℕ)) → list_all p parts ≡ true
    → p (join_with_byte slash parts) ≡ true
path_from_parts p f [] h = f.nil
path_from_parts p f (x ∷ []) h = (and_parts _ _ h).0
path_from_parts p f (x ∷ y ∷ parts) h =
    f.whole x (join_with_byte slash (y ∷ parts)) ((and_parts _ _ h).0) (path_from_parts p f (y ∷ parts) ((and_parts _ _ h).1))

after_up-keeps : (p : List ℕ → Bool) (absolute : Bool) (kept : List (List ℕ)) (part : List ℕ)
    → list_all p kept ≡ true → p part ≡ true → list_all p (after_up absolute kept part) ≡ true
after_up-keeps p true [] part h q = refl
after_up-keeps p false [] part h q = and_from _ _ q refl
after_up-keeps p absolute (last ∷ kept) part h q =
    elim (cases_Bool (is_up last)) [
      | inl up ↦ rw up (and_from _ _ q h)
      | inr named ↦ rw named ((and_parts _ _ h).1)
    ]

after_component-keeps : (p : List ℕ → Bool) (absolute : Bool) (kept : List (List ℕ)) (part : List ℕ)
    → list_all p kept ≡ true → p part ≡ true → list_all p (after_component absolute kept part) ≡ true
after_component-keeps p absolute kept part h q =
    elim (cases_Bool (is_here part)) [
      | inl here ↦ rw here h
      | inr away ↦
          elim (cases_Bool (is_up part)) [
            | inl up ↦ rw (away, up) (after_up-keeps p absolute kept part h q)
            | inr named ↦ rw (away, named) (and_from _ _ q h)
          ]
    ]

fold-keeps : (p : List ℕ → Bool) (absolute : Bool) (kept parts : List (List ℕ))
    → list_all p kept ≡ true → list_all p parts ≡ true → list_all p (fold (after_component absolute) kept parts) ≡ true
fold-keeps p absolute kept [] h q = h
fold-keeps p absolute kept (part ∷ parts) h q =
    fold-keeps p absolute (after_component absolute kept part) parts
    (after_component-keeps p absolute kept part h ((and_parts _ _ q).0)) ((and_parts _ _ q).1)

kept_of-keeps : (p : List ℕ → Bool) (absolute : Bool) (parts : List (List ℕ)) → list_all p parts ≡ true → list_all p (kept_of absolute parts) ≡ true
unfolding kept_of
kept_of-keeps p absolute parts h = fold-keeps p absolute [] parts refl h

path_of-keeps : (p : List ℕ → Bool) → IsByParts p → (absolute : Bool) (parts : List (List ℕ)) → list_all p parts ≡ true
    → p (path_of absolute parts) ≡ true
path_of-keeps p f true parts h = f.whole [] (join_with_byte slash parts) f.nil (path_from_parts p f parts h)
path_of-keeps p f false parts h = path_from_parts p f parts h

-- what a path passes by its parts, its normal path passes too
pub normal_path_of-keeps : (p : List ℕ → Bool) → IsByParts p → (path : List ℕ) → p path ≡ true → p (normal_path_of path) ≡ true
unfolding normal_path_of
normal_path_of-keeps p f path h =
    let parts = components_of path in
    let whole : p (join_with_byte slash parts) ≡ true = rw (join_with_byte-slice_split slash path) h in
    path_of-keeps p f (is_absolute path) (reverse (kept_of (is_absolute path) parts))
    (list_all-reverse p (kept_of (is_absolute path) parts) (kept_of-keeps p (is_absolute path) parts (parts_from_path p f parts whole)))
