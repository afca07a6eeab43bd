-- What stands against a renaming in one unit of GNU C.
use Rattle.std.specs.Prelude.{ℕ, ◌≡◌, ◌-◌, Bool, true, Option, Some, List, slice_get}
use Rattle.cs_base.specs.declared.causes.Cause.TheVariants as cause
use Rattle.cs_base.specs.declared.positions.Part.{Part}
use Rattle.cs_base.specs.declared.positions.Pos.{Pos}
use Rattle.cs_base.specs.Token.{Token}
use Rattle.cs_base.specs.Units.{is_gnu}
use Rattle.gnu_lists.specs.Lists.{listed_in}
use Rattle.analysis.specs.Analysis.{UnitAnalysis, AnalysisValue}
use Rattle.analysis.specs.Changed.{Renaming}
use Rattle.analysis.specs.GnuUnits.{begin_of}
use Rattle.offences.specs.declared.firsts.Offence.{Offence}
use Rattle.offences.specs.First.{standing, FirstThen}
use Rattle.rename_rules.specs.GnuOffences.{failing_by, is_kept, told_offences, unit_offences}
use Rattle.rename_rules.specs.GnuTexts.{HaveTexts}
use Rattle.rename_rules.specs.Undeclared.{HaveNames, ProjectName, project_at, project_unit}

-- The first offence, once those of a unit come to it; units count from 1, the tokens have the old spellings by which the assembler may know
-- the class, and the names those by which projects declare it.
abbrev pub IsAgainstUnit : AnalysisValue → List Part → List ℕ → List Token → List ProjectName → ℕ → Option Offence → Option Offence → Type 0
IsAgainstUnit a members name olds known unit first now =
    (u : UnitAnalysis) (texts : List (List ℕ)) (names : List ProjectName) → slice_get a.units (unit - 1) ≡ Some u → HaveTexts olds texts
    → HaveNames known names
    → FirstThen a.table (unit_offences members name texts names (project_unit (project_at a.workspace.units (unit - 1)) u)) first now

-- The same of what the tree of a unit tells.
abbrev pub AreTold : AnalysisValue → List Part → List ℕ → List Token → UnitAnalysis → Option Offence → Option Offence → Type 0
AreTold a members name olds u first now =
    (texts : List (List ℕ)) → HaveTexts olds texts
    → FirstThen a.table (told_offences members name texts u (listed_in u.text.toks u.tree.under)) first now

-- The same of one that would be read or bound otherwise.
abbrev pub FailsIn : AnalysisValue → Renaming → ℕ → Option Offence → Option Offence → Type 0
FailsIn a r unit first now =
    (u : UnitAnalysis) → slice_get a.units (unit - 1) ≡ Some u → FirstThen a.table (standing cause.Syntax (failing_by r u)) first now

-- the answer whether a unit is kept
abbrev pub IsKeptIn : AnalysisValue → Renaming → ℕ → Bool → Type 0
IsKeptIn a r unit answer = (u : UnitAnalysis) → slice_get a.units (unit - 1) ≡ Some u → answer ≡ is_kept r u

-- .. if it is of GNU C and begins there
abbrev pub FailsAt : AnalysisValue → Renaming → ℕ → Pos → Option Offence → Option Offence → Type 0
FailsAt a r unit at first now =
    (u : UnitAnalysis) → slice_get a.units (unit - 1) ≡ Some u → is_gnu u.standard ≡ true → begin_of u.text.toks ≡ at
    → FirstThen a.table (standing cause.Syntax (failing_by r u)) first now
