-- A normal path stays as it is.
use Rattle.std.proofs.Common.{◌≡◌, ℕ, Bool, true, false, not, ◌&&◌, ◌==◌, List, [], ◌∷◌, ◌++◌, cond, reverse, inl, inr, refl, ap, sym, ◌∙◌, arith}
use Rattle.std.specs.Prelude.{fold}
use Rattle.std.specs.List.{list_all, onto_first, join_with_byte}
use Rattle.std.proofs.lemmas.Bool.{cases_Bool, and_from, and_parts, not-true}
use Rattle.std.proofs.lemmas.List.{reverse-append}
use Rattle.std.proofs.lemmas.Slice.Eq.{bytes_eq-Decides}
use Rattle.cs_base.specs.Paths.{slash, is_absolute, components_of, is_here, is_up, after_up, after_component, kept_of, path_of, normal_path_of, is_normal}
use Rattle.cs_base.specs.Parts.{slashed}
use Rattle.cs_base.proofs.PathLemmas.{kept_of-nil, kept_of-push, join_with_byte-slashed}
use Rattle.cs_base.proofs.PathLaws.{list_all-reverse}

abbrev pub has_no_slash : List ℕ → Bool
has_no_slash part = list_all (λ b. not (b == slash)) part

-- Can be a component that is kept.
abbrev pub is_plain : List ℕ → Bool
is_plain part = has_no_slash part && not (is_here part)

-- Can follow these components, the last one first: `..` stands at the front of a relative path alone.
abbrev follows : Bool → List ℕ → List (List ℕ) → Bool
follows absolute part kept = cond (is_up part) (not absolute && list_all is_up kept) true

-- Can be the components that a path keeps, the last one first.
abbrev pub are_kept : Bool → List (List ℕ) → Bool
are_kept absolute [] = true
are_kept absolute (part ∷ kept) = is_plain part && follows absolute part kept && are_kept absolute kept

are_kept-after_up : (absolute : Bool) (kept : List (List ℕ)) (part : List ℕ)
    → are_kept absolute kept ≡ true → is_plain part ≡ true → is_up part ≡ true → are_kept absolute (after_up absolute kept part) ≡ true
are_kept-after_up true [] part h plain up = refl
are_kept-after_up false [] part h plain up = rw up (and_from _ _ (and_from _ _ plain refl) refl)
are_kept-after_up absolute (last ∷ kept) part h plain up =
    elim (cases_Bool (is_up last)) [
      | inl last_up ↦
          let last_follows : (not absolute && list_all is_up kept) ≡ true = rw last_up at ((and_parts (is_plain last) (follows absolute last kept) ((and_parts _ (are_kept absolute kept) h).0)).1) in
          let all_up : list_all is_up (last ∷ kept) ≡ true = and_from _ _ last_up ((and_parts (not absolute) _ last_follows).1) in
          let relative : not absolute ≡ true = (and_parts (not absolute) (list_all is_up kept) last_follows).0 in
          let part_follows : follows absolute part (last ∷ kept) ≡ true = rw up (and_from _ _ relative all_up) in
          rw last_up (and_from _ _ (and_from _ _ plain part_follows) h)
      | inr named ↦ rw named ((and_parts _ _ h).1)
    ]

are_kept-after : (absolute : Bool) (kept : List (List ℕ)) (part : List ℕ)
    → are_kept absolute kept ≡ true → has_no_slash part ≡ true → are_kept absolute (after_component absolute kept part) ≡ true
are_kept-after absolute kept part h one =
    elim (cases_Bool (is_here part)) [
      | inl here ↦ rw here h
      | inr away ↦
          let plain : is_plain part ≡ true = and_from _ _ one (rw away refl) in
          elim (cases_Bool (is_up part)) [
            | inl up ↦ rw (away, up) (are_kept-after_up absolute kept part h plain up)
            | inr named ↦
                let part_follows : follows absolute part kept ≡ true = rw named refl in
                rw (away, named) (and_from _ _ (and_from _ _ plain part_follows) h)
          ]
    ]

are_kept-fold : (absolute : Bool) (kept parts : List (List ℕ)) → are_kept absolute kept ≡ true → list_all has_no_slash parts ≡ true
    → are_kept absolute (fold (after_component absolute) kept parts) ≡ true
are_kept-fold absolute kept [] h q = h
are_kept-fold absolute kept (part ∷ parts) h q =
    are_kept-fold absolute (after_component absolute kept part) parts
    (are_kept-after absolute kept part h ((and_parts _ _ q).0)) ((and_parts _ _ q).1)

pub are_kept-kept_of : (absolute : Bool) (parts : List (List ℕ)) → list_all has_no_slash parts ≡ true → are_kept absolute (kept_of absolute parts) ≡ true
unfolding kept_of
are_kept-kept_of absolute parts q = are_kept-fold absolute [] parts refl q

after_up-stays : (absolute : Bool) (kept : List (List ℕ)) (part : List ℕ) → (not absolute && list_all is_up kept) ≡ true
    → after_up absolute kept part ≡ part ∷ kept
after_up-stays true kept part h = absurd (grind (arith, h))
after_up-stays false [] part h = refl
after_up-stays false (last ∷ kept) part h = rw ((and_parts (is_up last) _ ((and_parts true _ h).1)).0) refl

after_component-stays : (absolute : Bool) (kept : List (List ℕ)) (part : List ℕ) → are_kept absolute (part ∷ kept) ≡ true
    → after_component absolute kept part ≡ part ∷ kept
after_component-stays absolute kept part h =
    let away = not-true (is_here part) ((and_parts (has_no_slash part) _ ((and_parts _ _ ((and_parts _ _ h).0)).0)).1) in
    let part_follows : follows absolute part kept ≡ true = (and_parts _ _ ((and_parts _ _ h).0)).1 in
    elim (cases_Bool (is_up part)) [
      | inl up ↦ rw (away, up) (after_up-stays absolute kept part (rw up at part_follows))
      | inr named ↦ rw (away, named) refl
    ]

-- components that a path keeps are all kept
pub kept_of-reverse : (absolute : Bool) (kept : List (List ℕ)) → are_kept absolute kept ≡ true → kept_of absolute (reverse kept) ≡ kept
kept_of-reverse absolute [] h = kept_of-nil absolute
kept_of-reverse absolute (part ∷ kept) h =
    let turned = reverse-append (part ∷ []) kept in
    let rest = kept_of-reverse absolute kept ((and_parts (is_plain part && follows absolute part kept) (are_kept absolute kept) h).1) in
    rw (turned, kept_of-push absolute (reverse kept) part, rest) (after_component-stays absolute kept part h)

-- `a == slash`, which cuts a path
abbrev cuts : ℕ → Bool
cuts b = b == slash

has_no_slash-onto_first : (b : ℕ) (parts : List (List ℕ)) → cuts b ≡ false → list_all has_no_slash parts ≡ true
    → list_all has_no_slash (onto_first b parts) ≡ true
has_no_slash-onto_first b [] other h = rw other refl
has_no_slash-onto_first b (part ∷ parts) other h = rw other h

has_no_slash-components : (path : List ℕ) → list_all has_no_slash (components_of path) ≡ true
has_no_slash-components [] = refl
has_no_slash-components (b ∷ path) =
    elim (cases_Bool (cuts b)) [
      | inl cut ↦ rw cut (has_no_slash-components path)
      | inr other ↦ rw other (has_no_slash-onto_first b (components_of path) other (has_no_slash-components path))
    ]

components_of-one : (part : List ℕ) → has_no_slash part ≡ true → components_of part ≡ part ∷ []
components_of-one [] h = refl
components_of-one (b ∷ part) h =
    let other = not-true (cuts b) ((and_parts _ _ h).0) in
    rw other (ap (λ (parts : List (List ℕ)). onto_first b parts) (components_of-one part ((and_parts _ _ h).1)))

-- a path is cut at its first slash
pub components_of-slash : (part path : List ℕ) → has_no_slash part ≡ true → components_of (part ++ slash ∷ path) ≡ part ∷ components_of path
components_of-slash [] path h = refl
components_of-slash (b ∷ part) path h =
    let other = not-true (cuts b) ((and_parts _ _ h).0) in
    rw other (ap (λ (parts : List (List ℕ)). onto_first b parts) (components_of-slash part path ((and_parts _ _ h).1)))

components_of-join : (part : List ℕ) (parts : List (List ℕ)) → list_all has_no_slash (part ∷ parts) ≡ true
    → components_of (join_with_byte slash (part ∷ parts)) ≡ part ∷ parts
components_of-join part [] h = components_of-one part ((and_parts _ _ h).0)
components_of-join part (next ∷ parts) h =
    components_of-slash part (join_with_byte slash (next ∷ parts)) ((and_parts _ _ h).0)
    ∙ ap (λ (rest : List (List ℕ)). part ∷ rest) (components_of-join next parts ((and_parts _ _ h).1))

kept_of-empty : (absolute : Bool) (parts : List (List ℕ)) → kept_of absolute ([] ∷ parts) ≡ kept_of absolute parts
unfolding kept_of
kept_of-empty absolute parts = refl

kept_of-join : (absolute : Bool) (parts : List (List ℕ)) → list_all has_no_slash parts ≡ true
    → kept_of absolute (components_of (join_with_byte slash parts)) ≡ kept_of absolute parts
kept_of-join absolute [] h = kept_of-empty absolute []
kept_of-join absolute (part ∷ parts) h = ap (λ (ps : List (List ℕ)). kept_of absolute ps) (components_of-join part parts h)

kept_of-path_of : (absolute : Bool) (parts : List (List ℕ)) → list_all has_no_slash parts ≡ true
    → kept_of absolute (components_of (path_of absolute parts)) ≡ kept_of absolute parts
kept_of-path_of true parts h = kept_of-empty true (components_of (join_with_byte slash parts)) ∙ kept_of-join true parts h
kept_of-path_of false parts h = kept_of-join false parts h

is_absolute-first : (part rest : List ℕ) → is_plain part ≡ true → is_absolute (part ++ rest) ≡ false
is_absolute-first [] rest h = absurd (grind (arith, h))
is_absolute-first (b ∷ part) rest h = not-true (cuts b) ((and_parts _ _ ((and_parts _ _ h).0)).0)

is_absolute-path_of : (absolute : Bool) (parts : List (List ℕ)) → list_all is_plain parts ≡ true
    → is_absolute (path_of absolute parts) ≡ absolute
is_absolute-path_of true parts h = refl
is_absolute-path_of false [] h = refl
is_absolute-path_of false (part ∷ parts) h =
    rw (join_with_byte-slashed part parts) (is_absolute-first part (slashed parts) ((and_parts _ _ h).0))

pub are_plain : (absolute : Bool) (kept : List (List ℕ)) → are_kept absolute kept ≡ true → list_all is_plain kept ≡ true
are_plain absolute [] h = refl
are_plain absolute (part ∷ kept) h =
    and_from _ _ ((and_parts _ _ ((and_parts _ _ h).0)).0) (are_plain absolute kept ((and_parts _ _ h).1))

have_no_slash : (parts : List (List ℕ)) → list_all is_plain parts ≡ true → list_all has_no_slash parts ≡ true
have_no_slash [] h = refl
have_no_slash (part ∷ parts) h = and_from _ _ ((and_parts _ _ ((and_parts _ _ h).0)).0) (have_no_slash parts ((and_parts _ _ h).1))

pub normal_path_of-path_of : (absolute : Bool) (kept : List (List ℕ)) → are_kept absolute kept ≡ true
    → normal_path_of (path_of absolute (reverse kept)) ≡ path_of absolute (reverse kept)
unfolding normal_path_of
normal_path_of-path_of absolute kept h =
    let plain = list_all-reverse is_plain kept (are_plain absolute kept h) in
    let turned = reverse kept in
    let same = is_absolute-path_of absolute turned plain in
    let back = kept_of-path_of absolute turned (have_no_slash turned plain) ∙ kept_of-reverse absolute kept h in
    rw (same, back) refl

pub normal_path_of-is : (path : List ℕ)
    → normal_path_of path ≡ path_of (is_absolute path) (reverse (kept_of (is_absolute path) (components_of path)))
unfolding normal_path_of
normal_path_of-is path = refl

-- a normal path stays as it is
pub normal_path_of-normal : (path : List ℕ) → normal_path_of (normal_path_of path) ≡ normal_path_of path
normal_path_of-normal path =
    let kept = kept_of (is_absolute path) (components_of path) in
    let kept_well = are_kept-kept_of (is_absolute path) (components_of path) (has_no_slash-components path) in
    ap normal_path_of (normal_path_of-is path) ∙ normal_path_of-path_of (is_absolute path) kept kept_well
    ∙ sym (normal_path_of-is path)

pub is_normal-normal_path_of : (path : List ℕ) → is_normal (normal_path_of path) ≡ true
is_normal-normal_path_of path =
    (bytes_eq-Decides (normal_path_of (normal_path_of path)) (normal_path_of path)).1 (normal_path_of-normal path)
