-- Units that are not kept: they are made again when someone asks for them, from files that are known (this project's, over
-- ISO/IEC 9899:1999, 5.1.1.2 phases 4 and 7).
use Rattle.std.specs.Prelude.{ℕ, ◌+◌, ◌-◌, ◌^◌, ◌≡◌, ◌≤◌, ◌<◌, ◌⊎◌, Option, None, List, [], ◌∷◌, ◌++◌, Result, Ok, Err, length, map, take, drop}
use Rattle.cs_base.specs.Answer.{result_then}
use Rattle.cs_base.specs.Limits.{most_units}
use Rattle.cs_base.specs.Token.{Token}
use Rattle.cs_base.specs.Units.{UnitValue}
use Rattle.cs_base.specs.declared.positions.Pos.{Pos}
use Rattle.include_tree.specs.Below.source_files.Faults.{Fault}
use Rattle.include_tree.specs.Below.source_files.Files.{Source, Table, carried}
use Rattle.include_tree.specs.Below.source_files.Tables.{IsGrown}
use Rattle.include_tree.specs.Preprocessed.{preprocessed, with_text}
use Rattle.analysis.specs.Analysis.{UnitAnalysis, read_unit}
use Rattle.analysis.specs.BroughtNumbers.{all_brought}
use Rattle.analysis.specs.Carrying.{IsFresh}
use Rattle.analysis.specs.GnuUnits.{gnu_begin}

-- ---- one unit

-- no file is there
abbrev pub nothing : Source
nothing path = None

-- A unit once more, over files that are known: none is asked for. Its number does not matter.
abbrev pub made_again : Table → UnitValue → Result UnitAnalysis Fault
made_again table unit =
    result_then (λ p. read_unit unit.standard table unit.path p.text) (preprocessed nothing 0 unit (carried table 0))

-- The unit is this one, whatever the files hold, over each table into which this one grows.
pub record IsMadeAgain (table : Table) (unit : UnitValue) (u : UnitAnalysis) : Type 0 where
  pub text : (source : Source) (number : ℕ) (later : Table) → IsGrown table later
      → preprocessed source number unit (carried later 0) ≡ Ok (with_text (carried later (0 + length u.text.toks)) u.text)
  pub read : (later : Table) → read_unit unit.standard later unit.path u.text ≡ Ok u

-- ---- some units

-- in front of others, where it has no fault
abbrev pub in_front : Result UnitAnalysis Fault → List UnitAnalysis → List UnitAnalysis
in_front (Ok u) us = u ∷ us
in_front (Err found) us = us

abbrev pub units_again : Table → List UnitValue → List UnitAnalysis
units_again table [] = []
units_again table (unit ∷ units) = in_front (made_again table unit) (units_again table units)

-- these are the units, each over each later table
abbrev pub AreMadeAgain : Table → List UnitValue → List UnitAnalysis → Type 0
AreMadeAgain table [] [] = Unit {0}
AreMadeAgain table [] (u ∷ us) = ⊥
AreMadeAgain table (unit ∷ units) [] = ⊥
AreMadeAgain table (unit ∷ units) (u ∷ us) = IsMadeAgain table unit u × AreMadeAgain table units us

-- ---- all units: those that are kept, and so many behind them

abbrev pub others_of : List UnitValue → ℕ → ℕ → List UnitValue
others_of units kept others = take others (drop kept units)

abbrev pub all_units : Table → List UnitValue → List UnitAnalysis → ℕ → List UnitAnalysis
all_units table units kept others = kept ++ units_again table (others_of units (length kept) others)

-- What is known of all of them: the others are made again, and one number of a pseudo file was never given; where those of
-- GNU C begin; and the numbers that they bring.
pub record AreTaken (table : Table) (units : List UnitValue) (kept : List UnitAnalysis) (others : ℕ) (starts : List (Option Pos)) (numbers : List Token) : Type 0 where
  pub few : length kept + others ≤ most_units
  pub within : others ≤ length units - length kept
  pub again : AreMadeAgain table (others_of units (length kept) others) (units_again table (others_of units (length kept) others))
  pub fresh : 0 < others → IsFresh (2 ^ 32 - 1) table
  pub begins : starts ≡ map gnu_begin (all_units table units kept others)
  pub brought : numbers ≡ all_brought (all_units table units kept others)

-- A unit more: it is kept, where all are, or not.
abbrev pub Takes : UnitAnalysis → List UnitAnalysis → List UnitAnalysis → ℕ → ℕ → Type 0
Takes u kept kept2 others others2 = ((others ≡ 0) × (others2 ≡ 0) × (kept2 ≡ kept ++ u ∷ [])) ⊎ ((kept2 ≡ kept) × (others2 ≡ others + 1))
