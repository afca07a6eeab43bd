-- The search, one path at a time.
use Rattle.std.proofs.Common.{◌≡◌, ℕ, zero, suc, ◌+◌, ◌<◌, true, false, List, [], ◌∷◌, length, drop, get_or, Option, None, Some, refl, arith, ◌≤◌}
use Rattle.std.specs.Str.{IsUtf8}
use Rattle.std.proofs.lemmas.Str.{IsUtf8-from_is_utf8}
use Rattle.std.proofs.lemmas.Bool.{and_parts}
use Rattle.source_files.specs.Files.{Source, Found, Lines, Absent, Unopened, Opened, Made, Table, found_at, asked}
use Rattle.source_files.specs.Search.{Searched, searched, search, search_on, can_be_asked}
use Rattle.source_files.specs.Statuses.{is_missing}

on_there : (p : List ℕ) (u : Table) (rest : Table → Searched) (o : Option Found) → is_missing o ≡ false → search_on p u rest o ≡ searched (Some p) u
on_there p u rest None h = cc
on_there p u rest (Some Lines) h = cc
on_there p u rest (Some Absent) h = cc
on_there p u rest (Some (Unopened bytes)) h = refl
on_there p u rest (Some (Opened bytes)) h = refl
on_there p u rest (Some (Made bytes)) h = refl

on_gone : (p : List ℕ) (u : Table) (rest : Table → Searched) (o : Option Found) → is_missing o ≡ true → search_on p u rest o ≡ rest u
on_gone p u rest None h = refl
on_gone p u rest (Some Lines) h = refl
on_gone p u rest (Some Absent) h = refl
on_gone p u rest (Some (Unopened bytes)) h = cc
on_gone p u rest (Some (Opened bytes)) h = cc
on_gone p u rest (Some (Made bytes)) h = cc

drop-at : {X : Type 0} (xs : List X) (i : ℕ) (d : X) → i < length xs → drop i xs ≡ get_or xs i d ∷ drop (i + 1) xs
drop-at [] i d h = absurd (omega (arith, h))
drop-at (x ∷ xs) zero d h = refl
drop-at (x ∷ xs) (suc i) d h =
    let n : suc i + 1 ≡ suc (i + 1) = omega arith in rw n (drop-at xs i d (omega (arith, h)))

-- the path at this place is there, and ends the search
pub search-there : (source : Source) (paths : List (List ℕ)) (i : ℕ) (t u : Table) → i < length paths → u ≡ asked source (get_or paths i []) t
    → is_missing (found_at (get_or paths i []) u) ≡ false → search source (drop i paths) t ≡ searched (Some (get_or paths i [])) u
unfolding search
search-there source paths i t u within e there =
    rw (drop-at paths i [] within) (rw (← e) (on_there (get_or paths i []) u (search source (drop (i + 1) paths)) (found_at (get_or paths i []) u) there))

-- it is not there, and the search goes on
pub search-gone : (source : Source) (paths : List (List ℕ)) (i : ℕ) (t u : Table) → i < length paths → u ≡ asked source (get_or paths i []) t
    → is_missing (found_at (get_or paths i []) u) ≡ true → search source (drop i paths) t ≡ search source (drop (i + 1) paths) u
unfolding search
search-gone source paths i t u within e gone =
    rw (drop-at paths i [] within) (rw (← e) (on_gone (get_or paths i []) u (search source (drop (i + 1) paths)) (found_at (get_or paths i []) u) gone))

pub drop-past : {X : Type 0} (xs : List X) (i : ℕ) → length xs ≤ i → drop i xs ≡ []
drop-past [] zero h = refl
drop-past [] (suc i) h = refl
drop-past (x ∷ xs) zero h = absurd (omega (arith, h))
drop-past (x ∷ xs) (suc i) h = drop-past xs i (omega (arith, h))

-- no path is left
pub search-end : (source : Source) (paths : List (List ℕ)) (i : ℕ) (t : Table) → length paths ≤ i → search source (drop i paths) t ≡ searched None t
unfolding search
search-end source paths i t past = rw (drop-past paths i past) refl

-- ---- paths that can be asked for

pub asked-text : (path : List ℕ) → can_be_asked path ≡ true → IsUtf8 path
asked-text path h = IsUtf8-from_is_utf8 path ((and_parts _ _ h).0)
