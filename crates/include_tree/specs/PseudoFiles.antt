-- Pseudo files (this project's own): which of them a unit gives a number, and which it begins with.
use Rattle.std.specs.Prelude.{◌≡◌, ◌==◌, ◌<◌, ◌^◌, ℕ, Bool, false, List, None}
use Rattle.cs_base.specs.Units.{UnitValue, less_sign, begins_with, defines_of}
use Rattle.source_files.specs.Limits.{Limits}
use Rattle.source_files.specs.Files.{Source, Table, Carried, found_at, defines_path}
use Rattle.source_files.specs.Tables.{IsGrown}
use Rattle.source_files.specs.Opening.{Reader}
use Rattle.include_tree.specs.Laws.{IfDone}
use Rattle.include_tree.specs.Unit.{pseudo_path, unit_outcome}

-- the name of a pseudo file
abbrev pub is_pseudo : List ℕ → Bool
is_pseudo path = begins_with (λ c. c == less_sign) path

-- A unit whose file is no pseudo file gives no number to the pseudo files of other units.
abbrev pub OthersStay : Type 0
OthersStay = (limits : Limits) (reader : Reader) (source : Source) (number other : ℕ) (unit : UnitValue) (before : Carried)
    → is_pseudo unit.path ≡ false → number < 2 ^ 64 → other < 2 ^ 64 → (other ≡ number → ⊥)
    → found_at (defines_path other) before.table ≡ None
    → IfDone (λ toks t. found_at (defines_path other) t.table ≡ None) (unit_outcome limits reader source number unit before)

-- A later unit begins with the pseudo file of an earlier one where theirs have one text, as those of equal standards,
-- settings and files included before their own have.
abbrev pub EqualSettingsShare : Type 0
EqualSettingsShare = (limits : Limits) (reader : Reader) (source : Source) (number later : ℕ) (unit other : UnitValue) (before : Carried)
    → defines_of other ≡ defines_of unit
    → IfDone (λ toks t. (table : Table) → IsGrown t.table table → pseudo_path later other table ≡ pseudo_path number unit before.table)
    (unit_outcome limits reader source number unit before)
