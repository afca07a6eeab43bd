-- Paths, normalised by their text alone: no file is asked.
use Rattle.std.specs.Prelude.{ℕ, Bool, false, ◌||◌, ◌==◌, List, [], ◌∷◌, ◌++◌, reverse, fold, codes, if◌then◌else◌}
use Rattle.std.specs.List.{slice_split, join_with_byte}
use Rattle.std.specs.Str.{bytes_eq}

-- `/`, which separates the components of a path
abbrev pub slash : ℕ
slash = 47

-- a path that begins with `/`
abbrev pub is_absolute : List ℕ → Bool
is_absolute [] = false
is_absolute (b ∷ path) = b == slash

-- the components of a path: what stands before, between and after its slashes
abbrev pub components_of : List ℕ → List (List ℕ)
components_of path = slice_split (λ b. b == slash) path

-- an empty component, or `.`
abbrev pub is_here : List ℕ → Bool
is_here part = bytes_eq part [] || bytes_eq part (codes ".")

-- the component `..`
abbrev pub is_up : List ℕ → Bool
is_up part = bytes_eq part (codes "..")

-- The components kept, the last one first, once `..` follows: it takes the last one back, unless that
-- is `..` too; with nothing before it, it stays in a relative path and goes in an absolute one.
abbrev pub after_up : Bool → List (List ℕ) → List ℕ → List (List ℕ)
after_up absolute [] part = if absolute then [] else part ∷ []
after_up absolute (last ∷ kept) part = if is_up last then part ∷ last ∷ kept else kept

-- the components kept, the last one first, once this component follows: an empty one and `.` go
abbrev pub after_component : Bool → List (List ℕ) → List ℕ → List (List ℕ)
after_component absolute kept part =
    if is_here part then kept else (if is_up part then after_up absolute kept part else part ∷ kept)

-- the components that a path keeps, the last one first
unfoldable pub kept_of : Bool → List (List ℕ) → List (List ℕ)
kept_of absolute parts = fold (after_component absolute) [] parts

-- a path of these components
abbrev pub path_of : Bool → List (List ℕ) → List ℕ
path_of absolute parts =
    if absolute then slash ∷ join_with_byte slash parts else join_with_byte slash parts

-- the normalised path
unfoldable pub normal_path_of : List ℕ → List ℕ
normal_path_of path = path_of (is_absolute path) (reverse (kept_of (is_absolute path) (components_of path)))

-- a path that is normalised
abbrev pub is_normal : List ℕ → Bool
is_normal path = bytes_eq (normal_path_of path) path

-- A name joined to a directory and normalised. A name that begins with `/` is taken alone, and so is
-- one joined to the empty directory.
abbrev pub joined_path_of : List ℕ → List ℕ → List ℕ
joined_path_of directory name =
    if bytes_eq directory [] || is_absolute name then normal_path_of name
    else normal_path_of (directory ++ slash ∷ name)
