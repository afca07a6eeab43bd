-- Where included files are looked for (6.10.2).
use Rattle.std.proofs.Common.{◌≡◌, ℕ, zero, suc, ◌+◌, ◌-◌, ◌≤◌, ◌<◌, max, Bool, true, false, not, if◌then◌else◌, Option, Some, None, List, [], ◌∷◌, ◌++◌, length, take, drop, get_or, filter, map, refl, sym, ◌∙◌, ap, inl, inr, arith}
use Rattle.std.specs.List.{list_any, list_all, suffix_len}
use Rattle.std.specs.Str.{is_utf8, IsUtf8, bytes_eq}
use Rattle.std.proofs.lemmas.Bool.{cases_Bool}
use Rattle.std.proofs.lemmas.List.Sums.{suffix_len_is}
use Rattle.std.proofs.lemmas.List.{map-append, length-drop}
use Rattle.std.proofs.lemmas.List.Elements.{filter-append}
use Rattle.std.proofs.lemmas.List.Folds.{list_any_at}
use Rattle.std.proofs.lemmas.Str.{IsUtf8-from_is_utf8}
use Rattle.source_files.specs.Search.{Header, is_slash, or_root, directory_of, Place, place, places_from, places_for, paths_in, can_be_asked, candidates_of, behind_in}
use Rattle.cs_base.specs.Paths.{joined_path_of}
use Rattle.cs_base.specs.Units.{UnitValue}

pub no_text : (path : List ℕ) → (IsUtf8 path → ⊥) → false ≡ is_utf8 path
no_text path h = elim (cases_Bool (is_utf8 path)) [
  | inl is ↦ absurd (h (IsUtf8-from_is_utf8 path is))
  | inr other ↦ sym other
]

none-any : (path : List ℕ) → ((k : ℕ) → k < length path → is_slash (get_or path k 0) ≡ false) → list_any is_slash path ≡ false
none-any [] h = refl
none-any (c ∷ path) h =
    let first : is_slash c ≡ false = h 0 (omega arith) in
    rw first (none-any path (λ k below. h (suc k) (omega arith)))

-- a path without a `/`
pub directory-none : (path : List ℕ) (end_ : ℕ) → end_ ≤ 0 → ((k : ℕ) → end_ ≤ k → k < length path → is_slash (get_or path k 0) ≡ false) → directory_of path ≡ []
directory-none path end_ none h = rw (none-any path (λ k below. h k (omega arith) below)) refl

-- the last `/` of a path
pub directory-found : (path front : List ℕ) (end_ : ℕ) → front ≡ take (end_ - 1) path → end_ ≤ length path → 0 < end_ → is_slash (get_or path (end_ - 1) 0) ≡ true
    → ((k : ℕ) → end_ ≤ k → k < length path → is_slash (get_or path k 0) ≡ false) → or_root front ≡ directory_of path
directory-found path front end_ is within some here h =
    let any : list_any is_slash path ≡ true = list_any_at is_slash path (end_ - 1) 0 (omega arith) here in
    let len : suffix_len (λ (c : ℕ). not (is_slash c)) path ≡ length path - end_ =
    suffix_len_is (λ (c : ℕ). not (is_slash c)) path end_ 0 within (λ k from below. ap not (h k from below)) (λ _. ap not here) in
    let n : end_ - 1 ≡ length path - suffix_len (λ (c : ℕ). not (is_slash c)) path - 1 = omega (arith, len) in
    rw any (ap or_root (is ∙ ap (λ (m : ℕ). take m path) n))

-- what a filter leaves passes
list_all-filter : (p : List ℕ → Bool) (paths : List (List ℕ)) → list_all p (filter p paths) ≡ true
list_all-filter p [] = refl
list_all-filter p (path ∷ paths) = elim (cases_Bool (p path)) [
  | inl is ↦ rw is (rw is (list_all-filter p paths))
  | inr other ↦ rw other (list_all-filter p paths)
]

-- the paths that are asked for can be asked for
pub list_all-candidates : (next : Bool) (h : Header) (behind : Option ℕ) (path : List ℕ) (unit : UnitValue)
    → list_all can_be_asked (candidates_of next h behind path unit) ≡ true
list_all-candidates next h behind path unit =
    list_all-filter can_be_asked (map (λ (p : Place). joined_path_of p.directory h.name) (places_for next h behind path unit))

-- ---- the directories of a unit, in order

-- those behind some are counted behind them
drop-places : (k before : ℕ) (ds : List (List ℕ)) → drop k (places_from before ds) ≡ places_from (before + k) (drop k ds)
drop-places zero before ds =
    let same : before ≡ before + 0 = omega arith in
    ap (λ (n : ℕ). places_from n ds) same
drop-places (suc k) before [] = refl
drop-places (suc k) before (d ∷ ds) =
    let same : before + 1 + k ≡ before + suc k = omega arith in
    drop-places k (before + 1) ds ∙ ap (λ (n : ℕ). places_from n (drop k ds)) same

-- those of two lists, some of which are passed over
drop-both : (k : ℕ) (ds es : List (List ℕ)) → drop k (ds ++ es) ≡ drop k ds ++ drop (k - length ds) es
drop-both zero [] es = refl
drop-both (suc k) [] es =
    let same : suc k ≡ suc k - 0 = omega arith in
    ap (λ (n : ℕ). drop n es) same
drop-both zero (d ∷ ds) es =
    let none : 0 ≡ 0 - suc (length ds) = omega arith in
    ap (λ (n : ℕ). (d ∷ ds) ++ drop n es) none
drop-both (suc k) (d ∷ ds) es =
    let same : k - length ds ≡ suc k - suc (length ds) = omega arith in
    drop-both k ds es ∙ ap (λ (n : ℕ). drop k ds ++ drop n es) same

places-both : (before : ℕ) (ds es : List (List ℕ)) → places_from before (ds ++ es) ≡ places_from before ds ++ places_from (before + length ds) es
places-both before [] es =
    let same : before ≡ before + 0 = omega arith in
    ap (λ (n : ℕ). places_from n es) same
places-both before (d ∷ ds) es =
    let same : before + 1 + length ds ≡ before + suc (length ds) = omega arith in
    ap (λ (ps : List Place). place (before + 1) d ∷ ps)
    (places-both (before + 1) ds es ∙ ap (λ (n : ℕ). places_from (before + 1) ds ++ places_from n es) same)

-- all of a unit, some of which are passed over
pub places-behind : (passed : ℕ) (qs ds : List (List ℕ))
    → drop passed (places_from 0 (qs ++ ds)) ≡ places_from passed (drop passed qs) ++ places_from (max passed (length qs)) (drop (passed - length qs) ds)
places-behind passed qs ds =
    let first : 0 + passed ≡ passed = omega arith in
    let end_ : passed + length (drop passed qs) ≡ max passed (length qs) = omega (arith, length-drop passed qs) in
    drop-places passed 0 (qs ++ ds)
    ∙ ap (λ (n : ℕ). places_from n (drop passed (qs ++ ds))) first
    ∙ ap (places_from passed) (drop-both passed qs ds)
    ∙ places-both passed (drop passed qs) (drop (passed - length qs) ds)
    ∙ ap (λ (n : ℕ). places_from passed (drop passed qs) ++ places_from n (drop (passed - length qs) ds)) end_

-- ---- the paths of a name in them

paths-of : (name : List ℕ) (before : ℕ) (ds : List (List ℕ))
    → map (λ (p : Place). joined_path_of p.directory name) (places_from before ds) ≡ map (λ d. joined_path_of d name) ds
paths-of name before [] = refl
paths-of name before (d ∷ ds) = ap (λ (paths : List (List ℕ)). joined_path_of d name ∷ paths) (paths-of name (before + 1) ds)

pub paths-behind : (name : List ℕ) (passed : ℕ) (qs ds : List (List ℕ))
    → filter can_be_asked (map (λ d. joined_path_of d name) (drop passed qs)) ++ filter can_be_asked (map (λ d. joined_path_of d name) (drop (passed - length qs) ds))
    ≡ paths_in name (drop passed (places_from 0 (qs ++ ds)))
paths-behind name passed qs ds =
    let path_in : List ℕ → List ℕ = λ d. joined_path_of d name in
    let front = drop passed qs in
    let back = drop (passed - length qs) ds in
    sym (filter-append can_be_asked (map path_in front) (map path_in back))
    ∙ ap (filter can_be_asked)
    (sym (map-append path_in front back)
    ∙ ap (map path_in) (sym (drop-both passed qs ds))
    ∙ sym (paths-of name (0 + passed) (drop passed (qs ++ ds)))
    ∙ ap (map (λ (p : Place). joined_path_of p.directory name)) (sym (drop-places passed 0 (qs ++ ds))))

-- that of the file first
pub own-first : (name own : List ℕ) (places : List Place)
    → filter can_be_asked (joined_path_of own name ∷ []) ++ paths_in name places ≡ paths_in name (place 0 own ∷ places)
own-first name own places =
    sym (filter-append can_be_asked (joined_path_of own name ∷ []) (map (λ (p : Place). joined_path_of p.directory name) places))

-- ---- the first of them that has a path

pub behind-front : (name found : List ℕ) (k : ℕ) (ps rs : List Place) → behind_in name found ps ≡ Some k → behind_in name found (ps ++ rs) ≡ Some k
behind-front name found k [] rs h = absurd (cc)
behind-front name found k (p ∷ ps) rs h =
    by (bytes_eq (joined_path_of p.directory name) found) (λ (is : behind_in name found ps ≡ Some k). behind-front name found k ps rs is) h
  where
    by : (b : Bool) → (behind_in name found ps ≡ Some k → behind_in name found (ps ++ rs) ≡ Some k) → (if b then Some p.behind else behind_in name found ps) ≡ Some k
        → (if b then Some p.behind else behind_in name found (ps ++ rs)) ≡ Some k
    by true more is = is
    by false more is = more is

pub behind-back : (name found : List ℕ) (ps rs : List Place) → behind_in name found ps ≡ None → behind_in name found (ps ++ rs) ≡ behind_in name found rs
behind-back name found [] rs h = refl
behind-back name found (p ∷ ps) rs h =
    by (bytes_eq (joined_path_of p.directory name) found) (λ (is : behind_in name found ps ≡ None). behind-back name found ps rs is) h
  where
    by : (b : Bool) → (behind_in name found ps ≡ None → behind_in name found (ps ++ rs) ≡ behind_in name found rs)
        → (if b then Some p.behind else behind_in name found ps) ≡ None
        → (if b then Some p.behind else behind_in name found (ps ++ rs)) ≡ behind_in name found rs
    by true more is = absurd (cc)
    by false more is = more is
