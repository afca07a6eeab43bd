-- Files whose bytes are ranges of a store: what a path holds, and what a put and an addition change.
use Rattle.std.proofs.Common.{◌≡◌, ◌≤◌, ◌<◌, ◌-◌, ℕ, zero, suc, Bool, true, false, ltb, List, [], ◌∷◌, ◌++◌, length, get_or, set, drop, length-append, refl, ap, sym, ◌∙◌, inl, inr, arith}
use Rattle.std.specs.Prelude.{None, Some, All, slice_get, slice_range}
use Rattle.std.specs.List.{position, position_or_len}
use Rattle.std.specs.Option.{option_map}
use Rattle.std.specs.Str.{bytes_eq}
use Rattle.std.proofs.lemmas.Bool.{cases_Bool, ltb-false}
use Rattle.std.proofs.Math.Seq.{drop-append_seam}
use Rattle.std.proofs.lemmas.List.{take-append-le, drop-append-le, take_all, length-drop, map-append}
use Rattle.std.proofs.lemmas.Option.{slice_get-get_or}
use Rattle.std.proofs.lemmas.Slice.Eq.{bytes_eq-Decides}
use Rattle.std.proofs.lemmas.List.Quantifiers.{position-Some}
use Rattle.cs_base.specs.declared.held_files.HeldFile.{HeldFile}
use Rattle.cs_base.specs.declared.held_files.LastFailed.{LastFailed}
use Rattle.cs_base.specs.declared.held_files.LastFailed.TheVariants as last
use Rattle.cs_base.specs.Outside.{FileMap, bytes_at, with_file}
use Rattle.cs_base.specs.HeldFiles.{files_in, last_path, IsRange, IsThere}

-- the test by which a path is looked up
abbrev pub has_path : List ℕ → HeldFile → Bool
has_path path f = bytes_eq f.path path

-- the bytes of a file
abbrev pub range_of : List ℕ → HeldFile → List ℕ
range_of bytes f = slice_range bytes f.start f.end

none_before : (bytes path : List ℕ) (files : List HeldFile)
    → length files ≤ position_or_len (has_path path) files → bytes_at path (files_in bytes files) ≡ None
none_before bytes path [] past = refl
none_before bytes path (f ∷ fs) past =
    elim (cases_Bool (bytes_eq f.path path)) [
      | inl here ↦ let past' = rw here at past in absurd (omega arith)
      | inr other ↦ let past' = rw other at past in rw other (none_before bytes path fs (omega arith))
    ]

-- no file of the path is found: it holds nothing
pub bytes_at-files_in-None : (bytes path : List ℕ) (files : List HeldFile)
    → position (has_path path) files ≡ None → bytes_at path (files_in bytes files) ≡ None
bytes_at-files_in-None bytes path files h =
    elim (cases_Bool (ltb (position_or_len (has_path path) files) (length files))) [
      | inl within ↦ let h' = rw within at h in cc
      | inr past ↦ none_before bytes path files (ltb-false (position_or_len (has_path path) files) (length files) past)
    ]

first_at : (bytes path : List ℕ) (files : List HeldFile) (k : ℕ) (d : HeldFile)
    → k < length files → has_path path (get_or files k d) ≡ true
    → ((j : ℕ) → j < k → has_path path (get_or files j d) ≡ false)
    → bytes_at path (files_in bytes files) ≡ Some (range_of bytes (get_or files k d))
first_at bytes path [] k d within here before = absurd (omega arith)
first_at bytes path (f ∷ fs) zero d within here before = rw here refl
first_at bytes path (f ∷ fs) (suc k) d within here before =
    let no : bytes_eq f.path path ≡ false = before 0 (omega arith) in
    rw no (first_at bytes path fs k d (omega arith) here (λ j below. before (suc j) (omega arith)))

-- the file of the path is found: the path holds its bytes
pub bytes_at-files_in-Some : (bytes path : List ℕ) (files : List HeldFile) (k : ℕ) (d : HeldFile)
    → position (has_path path) files ≡ Some k
    → bytes_at path (files_in bytes files) ≡ Some (range_of bytes (get_or files k d))
bytes_at-files_in-Some bytes path files k d h =
    let found = position-Some (has_path path) files k d h in
    first_at bytes path files k d found.0 found.1 found.2

put_at : (bytes path new : List ℕ) (files : List HeldFile) (k : ℕ) (d f' : HeldFile)
    → k < length files → has_path path (get_or files k d) ≡ true
    → ((j : ℕ) → j < k → has_path path (get_or files j d) ≡ false)
    → f'.path ≡ (get_or files k d).path → range_of bytes f' ≡ new
    → with_file path new (files_in bytes files) ≡ files_in bytes (set files k f')
put_at bytes path new [] k d f' within here before same holds = absurd (omega arith)
put_at bytes path new (f ∷ fs) zero d f' within here before same holds = rw (here, same, holds) refl
put_at bytes path new (f ∷ fs) (suc k) d f' within here before same holds =
    let no : bytes_eq f.path path ≡ false = before 0 (omega arith) in
    rw no (ap (λ (rest : FileMap). (f.path, range_of bytes f) ∷ rest)
    (put_at bytes path new fs k d f' (omega arith) here (λ j below. before (suc j) (omega arith)) same holds))

-- a range of a store stays as the store grows
range_of-append : (bytes more : List ℕ) (f : HeldFile) → IsRange (length bytes) f
    → range_of (bytes ++ more) f ≡ range_of bytes f
range_of-append bytes more f range =
    let ordered = range.ordered in
    let within = range.within in
    let starts : f.start ≤ length bytes = omega arith in
    let left : length (drop f.start bytes) ≡ length bytes - f.start = length-drop f.start bytes in
    let ends : f.end - f.start ≤ length (drop f.start bytes) = omega arith in
    rw (drop-append-le f.start bytes more starts) (take-append-le (f.end - f.start) (drop f.start bytes) more ends)

-- the files stay as the store grows
pub files_in-append : (bytes more : List ℕ) (files : List HeldFile) → All (IsRange (length bytes)) files
    → files_in (bytes ++ more) files ≡ files_in bytes files
files_in-append bytes more [] ranges = refl
files_in-append bytes more (f ∷ fs) ranges =
    let here = range_of-append bytes more f (ranges 0 f (omega arith)) in
    let rest = files_in-append bytes more fs (λ k d below. ranges (suc k) d (omega arith)) in
    cc

-- what was added last is the range at the end
pub range_of-last : (bytes more path : List ℕ) (start end : ℕ) → start ≡ length bytes → end ≡ length (bytes ++ more)
    → slice_range (bytes ++ more) start end ≡ more
range_of-last bytes more path start end starts ends =
    let enough : length more ≤ end - start = omega (arith, length-append bytes more) in
    rw (starts, drop-append_seam) (rw starts at (take_all (end - start) more enough))

-- a file that is put: its range is what was added last
pub with_file-files_in : (bytes path new : List ℕ) (files : List HeldFile) (k : ℕ) (d f' : HeldFile)
    → All (IsRange (length bytes)) files → position (has_path path) files ≡ Some k
    → f'.path ≡ (get_or files k d).path → f'.start ≡ length bytes → f'.end ≡ length (bytes ++ new)
    → files_in (bytes ++ new) (set files k f') ≡ with_file path new (files_in bytes files)
with_file-files_in bytes path new files k d f' ranges h same starts ends =
    let found = position-Some (has_path path) files k d h in
    let holds = range_of-last bytes new path f'.start f'.end starts ends in
    let put = put_at (bytes ++ new) path new files k d f' found.0 found.1 found.2 same holds in
    sym put ∙ ap (with_file path new) (files_in-append bytes new files ranges)

-- a file that is added: its range is what was added last
pub files_in-push : (bytes new : List ℕ) (files : List HeldFile) (f : HeldFile)
    → All (IsRange (length bytes)) files → f.start ≡ length bytes → f.end ≡ length (bytes ++ new)
    → files_in (bytes ++ new) (files ++ f ∷ []) ≡ files_in bytes files ++ (f.path, new) ∷ []
files_in-push bytes new files f ranges starts ends =
    let shown : HeldFile → List ℕ × List ℕ = λ g. (g.path, range_of (bytes ++ new) g) in
    let holds = range_of-last bytes new f.path f.start f.end starts ends in
    let kept = files_in-append bytes new files ranges in
    let pushed = map-append shown files (f ∷ []) in
    pushed ∙ (rw (kept, holds) refl)

path_at-set : (files : List HeldFile) (k j : ℕ) (d f' : HeldFile) → f'.path ≡ (get_or files k d).path
    → option_map (λ (f : HeldFile). f.path) (slice_get (set files k f') j)
    ≡ option_map (λ (f : HeldFile). f.path) (slice_get files j)
path_at-set [] k j d f' same = refl
path_at-set (f ∷ fs) zero zero d f' same = ap Some same
path_at-set (f ∷ fs) zero (suc j) d f' same = refl
path_at-set (f ∷ fs) (suc k) zero d f' same = refl
path_at-set (f ∷ fs) (suc k) (suc j) d f' same = path_at-set fs k j d f' same

-- a put keeps the paths, and so the one that is told
pub last_path-set : (files : List HeldFile) (last : LastFailed) (k : ℕ) (d f' : HeldFile)
    → f'.path ≡ (get_or files k d).path → last_path (set files k f') last ≡ last_path files last
last_path-set files last.Untold k d f' same = refl
last_path-set files (last.Kept path) k d f' same = refl
last_path-set files (last.Held j) k d f' same = path_at-set files k j d f' same

slice_get-append : (files more : List HeldFile) (k : ℕ) → k < length files
    → slice_get (files ++ more) k ≡ slice_get files k
slice_get-append [] more k within = absurd (omega arith)
slice_get-append (f ∷ fs) more zero within = refl
slice_get-append (f ∷ fs) more (suc k) within = slice_get-append fs more k (omega arith)

-- an addition keeps the path that is told
pub last_path-append : (files more : List HeldFile) (last : LastFailed) → IsThere files last
    → last_path (files ++ more) last ≡ last_path files last
last_path-append files more last.Untold there = refl
last_path-append files more (last.Kept path) there = refl
last_path-append files more (last.Held k) there =
    ap (option_map (λ (f : HeldFile). f.path)) (slice_get-append files more k there)

-- the path told of a file that was found is the one that was looked for
pub last_path-Held : (path : List ℕ) (files : List HeldFile) (k : ℕ) (d : HeldFile)
    → position (has_path path) files ≡ Some k → last_path files (last.Held k) ≡ Some path
last_path-Held path files k d h =
    let found = position-Some (has_path path) files k d h in
    let same : (get_or files k d).path ≡ path = (bytes_eq-Decides (get_or files k d).path path).0 found.1 in
    rw (slice_get-get_or files k d found.0, same) refl
