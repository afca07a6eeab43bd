-- What is true of all units.
use Rattle.std.specs.Prelude.{◌≡◌, ℕ, ◌+◌, ◌≤◌, List, length, None, Ok, Err}
use Rattle.cs_base.specs.Token.{Token}
use Rattle.cs_base.specs.Units.{UnitValue}
use Rattle.source_files.specs.Limits.{Limits}
use Rattle.source_files.specs.Files.{Source, Table, SourceFile, Carried, found_at, defines_path}
use Rattle.source_files.specs.Tables.{Widens}
use Rattle.unit_steps.specs.State.{Context, context, State, Did, Outcome}
use Rattle.source_files.specs.Opening.{Reader}
use Rattle.unit_steps.specs.Expanding.{most_toks}
use Rattle.include_tree.specs.Walk.{file_items}
use Rattle.include_tree.specs.Unit.{unit_outcome}

-- where there is no fault, this holds of the value and the state behind it
abbrev pub IfDone : {A : Type 0} → (A → State → Type 0) → Outcome A → Type 0
IfDone P (Ok d) = P d.value d.state
IfDone P (Err fault) = Unit {0}

-- ---- steps

-- What is true of each step that puts out so many tokens: they are counted, and within the limit; work
-- never rises; and so it is with the table of files.
pub record Leads (ctx : Context) (s : State) (toks : ℕ) (t : State) : Type 0 where
  pub counted : t.before ≡ s.before + toks
  pub few : s.before ≤ most_toks ctx → t.before ≤ most_toks ctx
  pub work : t.work.left ≤ s.work.left
  pub table : Widens ctx.source s.table t.table

-- It is true of the items of each file.
abbrev pub FilesLead : Type 0
FilesLead = (ctx : Context) (room : ℕ) (file : SourceFile) (s : State)
    → IfDone (λ toks t. Leads ctx s (length toks) t) (file_items ctx room file s)

-- Where a file is processed without a fault, more files might be open inside it: that changes nothing.
abbrev pub DepthIsALimit : Type 0
DepthIsALimit = (ctx : Context) (room more : ℕ) (file : SourceFile) (s : State) (d : Did (List Token))
    → file_items ctx room file s ≡ Ok d → file_items ctx (room + more) file s ≡ Ok d

-- What is true of a unit with these tokens: they are counted, and within the limit, and so it is with the
-- table that is carried on.
pub record UnitEnds (ctx : Context) (before : Table) (toks : ℕ) (t : State) : Type 0 where
  pub counted : t.before ≡ toks
  pub few : toks ≤ most_toks ctx
  pub work : t.work.left ≤ ctx.limits.work
  pub table : Widens ctx.source before t.table

-- It is true of each unit whose pseudo file was not met.
abbrev pub UnitsEnd : Type 0
UnitsEnd = (limits : Limits) (reader : Reader) (source : Source) (number : ℕ) (unit : UnitValue) (before : Carried)
    → found_at (defines_path number) before.table ≡ None
    → IfDone (λ toks t. UnitEnds (context source reader unit limits before.toks) before.table (length toks) t)
    (unit_outcome limits reader source number unit before)
