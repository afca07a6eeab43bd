-- Units of different numbers have different paths, and none of them is that of the header or of the workspace file.
use Rattle.std.proofs.Common.{◌≡◌, ◌<◌, ◌^◌, ◌∙◌, ℕ, zero, suc, false, ◌++◌, codes, None, inl, inr, arith, refl}
use Rattle.std.specs.Str.{bytes_eq}
use Rattle.std.specs.Fmt.{decimal}
use Rattle.std.proofs.lemmas.Bool.{cases_Bool}
use Rattle.std.proofs.lemmas.Fmt.{decimal_injective}
use Rattle.std.proofs.lemmas.List.{append_cancel_left, append_cancel_right}
use Rattle.cs_base.specs.Outside.{bytes_at}
use Rattle.cs_base.proofs.FileMapLemmas.{bytes_eq-equal, bytes_at-push_other}
use Rattle.generated.specs.Generated.{unit_path, unit_text, units_to, workspace_path}

unit_path-equal : (m n : ℕ) → m < 2 ^ 64 → n < 2 ^ 64 → unit_path m ≡ unit_path n → m ≡ n
unit_path-equal m n few few2 h =
    decimal_injective m n few few2
    (append_cancel_left (codes "u") (decimal m) (decimal n)
    (append_cancel_right (codes "u" ++ decimal m) (codes "u" ++ decimal n) (codes ".c") h))

unit_path-apart : (m n : ℕ) → m < n → n < 2 ^ 64 → bytes_eq (unit_path m) (unit_path n) ≡ false
unit_path-apart m n less few = elim (cases_Bool (bytes_eq (unit_path m) (unit_path n))) [
  | inl same ↦ absurd (let e : m ≡ n = unit_path-equal m n (omega arith) few (bytes_eq-equal (unit_path m) (unit_path n) same) in omega arith)
  | inr differs ↦ differs
]

-- no unit before has the path of a unit
pub unit-is_new : (n i : ℕ) → n < i → i < 2 ^ 64 → bytes_at (unit_path i) (units_to n) ≡ None
unit-is_new zero i less few = refl
unit-is_new (suc n) i less few =
    bytes_at-push_other (unit_path (suc n)) (unit_path i) (unit_text (suc n)) (units_to n) (unit_path-apart (suc n) i less few)
    ∙ unit-is_new n i (omega arith) few

-- no unit has the path of the workspace file
pub workspace-is_new : (n : ℕ) → bytes_at workspace_path (units_to n) ≡ None
workspace-is_new zero = refl
workspace-is_new (suc n) =
    bytes_at-push_other (unit_path (suc n)) workspace_path (unit_text (suc n)) (units_to n) refl ∙ workspace-is_new n
