-- Uses of parameters under a renaming against which nothing stands (ISO/IEC 9899:1999, 6.10.3).
use Rattle.std.specs.Prelude.{ℕ, Some, List}
use Rattle.cs_base.specs.declared.positions.Part.{Part}
use Rattle.analysis.specs.Analysed.{Analysed}
use Rattle.analysis.specs.Naming.{Names}
use Rattle.rename_meaning.specs.Allowed.{IsAllowed}
use Rattle.rename_meaning.specs.KeptLines.{LinesStayAlike}

-- The law: for a class that a place names, what is spelled as a parameter of a definition gets the new spelling of the
-- parameter, in each line of each kept file. In a definition that some unit reached uses of parameters are linked with
-- these; a line from which no unit takes a token holds no member.
abbrev pub LinesStayAlikeWhereNamed : Type 0
LinesStayAlikeWhereNamed = (a : Analysed) (members : List Part) (name path : List ℕ) (line column : ℕ) → (h : IsAllowed a members name)
    → Names a.value path line column (Some h.class.part) → LinesStayAlike a.value members name
