-- Classes that places name (this project's): their members lie in what units take from files.
use Rattle.std.specs.Prelude.{ℕ, Some, List}
use Rattle.cs_base.specs.declared.positions.Part.{Part}
use Rattle.analysis.specs.Analysed.{Analysed}
use Rattle.analysis.specs.Naming.{Names}
use Rattle.rename_meaning.specs.Allowed.{IsAllowed}
use Rattle.rename_meaning.specs.KeptFiles.{WordsAreFree}

-- The law: no word of a directive holds a member of a class that a place names.
abbrev pub WordsAreFreeWhereNamed : Type 0
WordsAreFreeWhereNamed = (a : Analysed) (members : List Part) (name path : List ℕ) (line column : ℕ) → (h : IsAllowed a members name)
    → Names a.value path line column (Some h.class.part) → WordsAreFree a.value members
