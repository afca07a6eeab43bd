-- The table with which a unit begins: that of the unit before, or that with one pseudo file more.
use Rattle.std.proofs.Common.{ℕ, List, Option, None, Some}
use Rattle.cs_base.specs.Units.{UnitValue, defines_of}
use Rattle.source_files.specs.Files.{Made, Table, defines_path, made_path, numbered}
use Rattle.include_tree.specs.Unit.{table_or_more, with_defines}

or_more : (J : Table → Type 0) (number : ℕ) (unit : UnitValue) (t : Table) (found : Option (List ℕ)) → J t
    → J (numbered (defines_path number) (Made (defines_of unit)) t) → J (table_or_more found number unit t)
or_more J number unit t None here more = more
or_more J number unit t (Some path) here more = here

-- what is true of both is true of it
pub with_defines_has : (J : Table → Type 0) (number : ℕ) (unit : UnitValue) (t : Table) → J t → J (numbered (defines_path number) (Made (defines_of unit)) t)
    → J (with_defines number unit t)
with_defines_has J number unit t here more = or_more J number unit t (made_path (defines_of unit) t) here more
