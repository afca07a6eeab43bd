-- What preprocessing a unit knows at each moment, and what each of its steps gives (ISO/IEC 9899:1999,
-- 5.1.1.2 phase 4).
use Rattle.std.specs.Prelude.{ℕ, Option, List, [], ◌++◌, Result, Ok, Err}
use Rattle.cs_base.specs.Token.{Token}
use Rattle.cs_base.specs.Units.{UnitValue}
use Rattle.macro_expand.specs.Below.macro_body.declared.notes.Work.{Work}
use Rattle.macro_expand.specs.Below.macro_body.Macro.{Table as Macros}
use Rattle.source_files.specs.Files.{Source, Table}
use Rattle.source_files.specs.Limits.{Limits}
use Rattle.source_files.specs.Opening.{Reader}
use Rattle.source_files.specs.Faults.{Fault}
use Rattle.unit_steps.specs.Notes.{Note}

-- What stays the same: what files hold, how they are read, the unit, the limits, and how many tokens the units
-- before had.
pub record Context : Type 0 where
  pub source : Source
  pub reader : Reader
  pub unit : UnitValue
  pub limits : Limits
  pub earlier : ℕ

abbrev pub context : Source → Reader → UnitValue → Limits → ℕ → Context
context source reader unit limits earlier =
    record { source = source; reader = reader; unit = unit; limits = limits; earlier = earlier }

-- What changes: the table of files, the macros that are defined, the work that is left, the first name of
-- each spelling among those that later ones are linked with, how many tokens were put out, where a search for the
-- next file of the present one's name begins, and the numbers of the files that are read once.
pub record State : Type 0 where
  pub table : Table
  pub macros : Macros
  pub work : Work
  pub names : List Token
  pub before : ℕ
  pub behind : Option ℕ
  pub once : List ℕ

-- What a step gives: a value, what happened, and the state behind it.
pub record Did (A : Type 0) : Type 0 where
  pub value : A
  pub notes : List Note
  pub state : State

abbrev pub did : {A : Type 0} → A → List Note → State → Did A
did value notes state = record { value = value; notes = notes; state = state }

-- that, or the first fault
abbrev pub Outcome : Type 0 → Type 0
Outcome A = Result (Did A) Fault

-- what happened before, in front
abbrev pub noted : {A : Type 0} → List Note → Outcome A → Outcome A
noted notes (Ok d) = Ok (did d.value (notes ++ d.notes) d.state)
noted notes (Err fault) = Err fault

-- the next step, unless there is a fault
abbrev pub onward : {A B : Type 0} → Outcome A → (A → State → Outcome B) → Outcome B
onward (Ok d) next = noted d.notes (next d.value d.state)
onward (Err fault) next = Err fault

-- a value, where nothing happens
abbrev pub only : {A : Type 0} → A → State → Outcome A
only value s = Ok (did value [] s)
