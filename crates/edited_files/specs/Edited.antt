-- Edits by path, one for each, and the files that they leave (this project's own).
use Rattle.std.specs.Prelude.{ℕ, ◌≡◌, false, Option, List, [], ◌∷◌, Some, All, slice_get, if◌then◌else◌}
use Rattle.std.specs.Str.{bytes_eq}
use Rattle.cs_base.specs.Edit.{Edit, comes_before}
use Rattle.cs_base.specs.Outside.{FileMap, bytes_at}

-- the edits, in order of path, once this one is among them: an edit of its path goes
unfoldable pub with_edit : Edit → List Edit → List Edit
with_edit e [] = e ∷ []
with_edit e (d ∷ edits) =
    if comes_before d.path e.path then d ∷ with_edit e edits
    else (if bytes_eq d.path e.path then e ∷ edits else e ∷ d ∷ edits)

-- the same for each of these, in order
unfoldable pub with_each : List Edit → List Edit → List Edit
with_each [] edits = edits
with_each (e ∷ es) edits = with_each es (with_edit e edits)

-- Between two moments these edits were put: each path of them holds its new bytes, and every other one what it held.
pub record ArePut (edits : List Edit) (before now : FileMap) : Type 0 where
  pub each : (k : ℕ) (e : Edit) → slice_get edits k ≡ Some e → bytes_at e.path now ≡ Some e.bytes
  pub others : (path : List ℕ) → All (λ e. bytes_eq e.path path ≡ false) edits → bytes_at path now ≡ bytes_at path before

-- The same between two moments at which these bytes stood at each path.
pub record AreMade (edits : List Edit) (before now : List ℕ → Option (List ℕ)) : Type 0 where
  pub each : (k : ℕ) (e : Edit) → slice_get edits k ≡ Some e → now e.path ≡ Some e.bytes
  pub others : (path : List ℕ) → ((k : ℕ) (e : Edit) → slice_get edits k ≡ Some e → bytes_eq e.path path ≡ false) → now path ≡ before path
