-- Names of macros in units under a renaming against which nothing stands (ISO/IEC 9899:1999, 6.10.1, 6.10.3, 6.10.3.5,
-- 6.10.8).
use Rattle.std.specs.Prelude.{ℕ, ◌≡◌, true, List}
use Rattle.cs_base.specs.declared.positions.Part.{Part}
use Rattle.cs_base.specs.Token.{Token}
use Rattle.unit_steps.specs.Below.macro_expand.Renaming.{occurs}
use Rattle.part_respell.specs.Respelled.{spelled}
use Rattle.unit_laws.specs.ToldNames.{is_first_name, IsTold}
use Rattle.analysis.specs.Analysed.{Analysed}
use Rattle.analysis.specs.Analysis.{UnitAnalysis, AnalysisValue}
use Rattle.rename_meaning.specs.Allowed.{IsAllowed}
use Rattle.rename_meaning.specs.Occurring.{occurring_in}
use Rattle.rename_meaning.specs.Renamings.{name_for}
use Rattle.unit_laws.specs.UnitLinks.{IsIn}

-- The tokens of a unit, and the names of which it tells, occur.
pub record UnitOccurs (a : AnalysisValue) (u : UnitAnalysis) : Type 0 where
  pub toks : (t : Token) → IsIn u.text.toks t → occurs (occurring_in a) t ≡ true
  pub told : (t : Token) → IsTold u.text t → occurs (occurring_in a) t ≡ true

-- The law: so it is with each unit of an analysis.
abbrev pub UnitsOccur : Type 0
UnitsOccur = (a : Analysed) (members : List Part) (name : List ℕ) → IsAllowed a members name → (u : UnitAnalysis) → IsIn a.value.units u → UnitOccurs a.value u

-- Each name of which the unit tells gets the new spelling of the macros of its spelling, and the names of the macros with
-- which it begins stay.
pub record KeepsToldNames (members : List Part) (name : List ℕ) (u : UnitAnalysis) : Type 0 where
  pub told : (t : Token) → IsTold u.text t → spelled members name t ≡ name_for members name u.text t.text
  pub first : (word : List ℕ) → is_first_name word ≡ true → name_for members name u.text word ≡ word

-- The law: so it is with each unit where nothing stands against the renaming.
abbrev pub ToldNamesAreKept : Type 0
ToldNamesAreKept = (a : Analysed) (members : List Part) (name : List ℕ) → IsAllowed a members name → (u : UnitAnalysis) → IsIn a.value.units u → KeepsToldNames members name u
