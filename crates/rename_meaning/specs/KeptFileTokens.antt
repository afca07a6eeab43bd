-- A renaming against which nothing stands keeps the file tokens (this project's).
use Rattle.std.specs.Prelude.{ℕ, ◌≡◌, List, Some, map}
use Rattle.cs_base.specs.declared.positions.Part.{Part}
use Rattle.unit_steps.specs.Below.macro_expand.Renaming.{renamed}
use Rattle.edited_unit_laws.specs.Analyses.{renamed_analysis}
use Rattle.edited_unit_laws.specs.FileTokens.{KeepsFileTokens}
use Rattle.analysis.specs.Analysed.{Analysed}
use Rattle.analysis.specs.FileTokens.{file_tokens}
use Rattle.analysis.specs.Naming.{Names}
use Rattle.rename_meaning.specs.Allowed.{IsAllowed}
use Rattle.rename_meaning.specs.KeptFiles.{WordsAreFree}
use Rattle.rename_meaning.specs.KeptUnits.{change}

-- The law: where the words of directives hold no member, the file tokens of edited files are the renamed ones, numbers of
-- lines stay, and a unit tells of `__LINE__` where it told of it (6.10.8).
abbrev pub FileTokensAreKept : Type 0
FileTokensAreKept = (a : Analysed) (members : List Part) (name : List ℕ) → IsAllowed a members name → WordsAreFree a.value members
    → KeepsFileTokens (change a.value members name) a.value

-- The law: so for a class that a place names, the file tokens of the renamed analysis are the renamed ones, in their order.
abbrev pub FileTokensAreRenamedWhereNamed : Type 0
FileTokensAreRenamedWhereNamed = (a : Analysed) (members : List Part) (name path : List ℕ) (line column : ℕ) → (h : IsAllowed a members name)
    → Names a.value path line column (Some h.class.part)
    → file_tokens (renamed_analysis (change a.value members name) a.value) ≡ map (renamed (change a.value members name).renaming) (file_tokens a.value)
