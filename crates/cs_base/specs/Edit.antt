-- The edits of files: what contracts see of an `Edits`.
use Rattle.std.specs.Prelude.{ℕ, Bool, true, ◌&&◌, List, [], ◌∷◌, IsTrue, length, ◌<◌, ◌^◌, All, IsUtf8}
use Rattle.std.specs.Ordering.{nat_cmp, is_lt}
use Rattle.std.specs.Cmp.Lexicographic.{slice_cmp}
use Rattle.cs_base.specs.Outside.{FileMap, with_file}

-- An edit: a file's path, its new bytes, and how many places of it change.
pub record Edit : Type 0 where
  pub path : List ℕ
  pub bytes : List ℕ
  pub count : ℕ

-- an edit of these parts
abbrev pub edit : List ℕ → List ℕ → ℕ → Edit
edit path bytes count = record { path = path; bytes = bytes; count = count }

-- the files once each edit, in order, is put
abbrev pub with_edits : List Edit → FileMap → FileMap
with_edits [] files = files
with_edits (e ∷ es) files = with_edits es (with_file e.path e.bytes files)

-- a path comes before another in the order of their bytes
abbrev pub comes_before : List ℕ → List ℕ → Bool
comes_before path later = is_lt (slice_cmp nat_cmp path later)

-- a path comes after that of the last edit
abbrev pub comes_last : List ℕ → List Edit → Bool
comes_last path [] = true
comes_last path (e ∷ []) = comes_before e.path path
comes_last path (e ∷ f ∷ es) = comes_last path (f ∷ es)

-- each path comes before that of the next edit
abbrev pub are_in_order : List Edit → Bool
are_in_order [] = true
are_in_order (e ∷ []) = true
are_in_order (e ∷ f ∷ es) = comes_before e.path f.path && are_in_order (f ∷ es)

-- each path is text
abbrev pub HaveTextPaths : List Edit → Type 0
HaveTextPaths es = All (λ e. IsUtf8 e.path) es

-- What is true of every list of edits.
pub record IsKept (es : List Edit) : Type 0 where
  pub sorted : IsTrue (are_in_order es)
  pub texts : HaveTextPaths es
  pub few : length es < 2 ^ 32
