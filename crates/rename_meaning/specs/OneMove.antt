-- Where file tokens and their parts stand behind a renaming, told in two ways (this project's): by what is put for the characters
-- before them, as the edited files have it, and by the growth of the members before them, as the table of classes has it.
use Rattle.std.specs.Prelude.{ℕ, ◌≡◌, Some, List, length}
use Rattle.cs_base.specs.declared.positions.Part.{Part}
use Rattle.cs_base.specs.Token.{Token}
use Rattle.analysis.specs.Below.eclass_map.ClassTable.{Table, HasParts}
use Rattle.analysis.specs.Below.eclass_map.Positions.{end_of}
use Rattle.analysis.specs.Below.eclass_map.Resized.{Resizes, moved_to, moved_token}
use Rattle.unit_steps.specs.Below.macro_expand.Renaming.{renamed}
use Rattle.unit_laws.specs.UnitLinks.{IsIn}
use Rattle.edited_unit_laws.specs.Analyses.{renamed_analysis}
use Rattle.analysis.specs.Analysed.{Analysed}
use Rattle.analysis.specs.Classes.{AreItsClasses, HasFileTokens}
use Rattle.analysis.specs.FileTokens.{file_tokens, span_of, IsFileToken}
use Rattle.analysis.specs.Naming.{Names}
use Rattle.analysis.specs.Parts.{IsPart}
use Rattle.renamed.specs.Renamed.{move_to}
use Rattle.rename_meaning.specs.Allowed.{IsAllowed}
use Rattle.rename_meaning.specs.KeptUnits.{change}

-- The law: a part of an analysis begins at one place, whichever way it is told.
abbrev pub PartsMoveAlike : Type 0
PartsMoveAlike = (a : Analysed) (members : List Part) (name : List ℕ) → (h : IsAllowed a members name) → (part : Part) → IsPart a.value part
    → move_to a.value members name part.start ≡ moved_to h.number (length name) a.classes part.start

-- The law: so does a file token, and so it ends.
abbrev pub TokensMoveAlike : Type 0
TokensMoveAlike = (a : Analysed) (members : List Part) (name : List ℕ) → (h : IsAllowed a members name) → (token : Part) → IsFileToken a.value token
    → (move_to a.value members name token.start ≡ moved_to h.number (length name) a.classes token.start)
    × (move_to a.value members name (end_of token) ≡ moved_to h.number (length name) a.classes (end_of token))

-- The law: so the renamed token of a file stands where the table puts its old one.
abbrev pub TokensAreMoved : Type 0
TokensAreMoved = (a : Analysed) (members : List Part) (name : List ℕ) → (h : IsAllowed a members name) → (t : Token) → IsIn (file_tokens a.value) t
    → span_of (renamed (change a.value members name).renaming t) ≡ moved_token h.number (length name) a.classes (span_of t)

-- The law: so for a class that a place names, a table in which it has the new length has the file tokens of the renamed analysis.
abbrev pub FileTokensFollow : Type 0
FileTokensFollow = (a : Analysed) (members : List Part) (name path : List ℕ) (line column : ℕ) → (h : IsAllowed a members name)
    → Names a.value path line column (Some h.class.part) → (new : Table) → Resizes h.number (length name) a.classes new
    → HasFileTokens (renamed_analysis (change a.value members name) a.value) new

-- The law: and its classes are those of that analysis: a table of classes goes on with the files behind a rename.
abbrev pub ClassesFollow : Type 0
ClassesFollow = (a : Analysed) (members : List Part) (name path : List ℕ) (line column : ℕ) → (h : IsAllowed a members name)
    → Names a.value path line column (Some h.class.part) → (new : Table) → Resizes h.number (length name) a.classes new → HasParts new
    → AreItsClasses (renamed_analysis (change a.value members name) a.value) new
