-- What `preprocess` answers, as contracts see it.
use Rattle.std.specs.Prelude.{◌≡◌, ℕ, true, is_some, List, Option, Some, None, Result, Ok, Err, IfSome}
use Rattle.cs_base.specs.Outside.{FileMap, ReadEnd, NoneFailed, FailedAt, MayHaveFailed}
use Rattle.source_files.specs.declared.pre_fault.PreFault.{PreFault}
use Rattle.source_files.specs.declared.pre_fault.PreFault.TheVariants as answer
use Rattle.lexer.specs.FileText.{TextValue}
use Rattle.source_files.specs.Opening.{Opening}
use Rattle.source_files.specs.Files.{Source, source_file, Table, Carried, found_at}
use Rattle.source_files.specs.Faults.{Fault, fault}
use Rattle.source_files.specs.Tables.{IsGrown, OnlyAsks, StaysHeld, Widens}

-- the fault that a refusal names: none for a failed read and for want of memory
abbrev pub fault_of : PreFault → Option Fault
fault_of (answer.Fault place cause) = Some (fault place cause)
fault_of (answer.ReadFault path) = None
fault_of answer.Memory = None

-- a read of this path failed, or memory ran out as well
abbrev pub TellsOfRead : List ℕ → PreFault → Type 0
TellsOfRead path (answer.Fault place cause) = ⊥
TellsOfRead path (answer.ReadFault told) = told ≡ path
TellsOfRead path answer.Memory = Unit {0}

-- What an answer says of reads: the fault of one is that of the last, and before want of memory one may have
-- failed; every other answer says that none did.
abbrev pub reads_of : {X : Type 0} → Result X PreFault → ReadEnd
reads_of (Ok x) = NoneFailed
reads_of (Err (answer.Fault place cause)) = NoneFailed
reads_of (Err (answer.ReadFault path)) = FailedAt path
reads_of (Err answer.Memory) = MayHaveFailed

-- A path that was asked for has a number; a refusal names no fault, and leaves the table.
abbrev pub IsAsked : {X : Type 0} → List ℕ → Table → Table → Result X PreFault → Type 0
IsAsked path old new (Ok x) = is_some (found_at path new) ≡ true
IsAsked path old new (Err e) = (new ≡ old) × (fault_of e ≡ None)

-- A cache behind a step that reads no file, over any source: its table only grows, and no tokens are counted.
pub record Keeps (old new : Carried) : Type 0 where
  pub widens : (source : Source) → Widens source old.table new.table
  pub counted : new.toks ≡ old.toks

-- A cache behind paths that were asked for: nothing is opened, and no tokens are counted.
pub record AsksOn (told : Option FileMap) (old new : Carried) : Type 0 where
  pub only : OnlyAsks told old.table new.table
  pub counted : new.toks ≡ old.toks

-- A cache behind a step over files: its table has grown and stays what they hold, where that is told, and no
-- tokens are counted.
pub record ReadsOn (told : Option FileMap) (old new : Carried) : Type 0 where
  pub grown : IsGrown old.table new.table
  pub found : StaysHeld told old.table new.table
  pub counted : new.toks ≡ old.toks

-- A file was opened, and its number is told; or the fault of opening it, which yields to want of memory.
abbrev pub OpensFile : Result ℕ PreFault → Opening → Table → List ℕ → Type 0
OpensFile (Ok number) expected table path =
    (text : TextValue) × ◌≡◌ {A = Opening} expected (Ok (source_file number path text, table))
OpensFile (Err e) expected table path = IfSome (fault_of e) (λ f. ◌≡◌ {A = Opening} expected (Err f))

-- a refusal that tells of no failed read
abbrev pub IsNoReadFault : PreFault → Type 0
IsNoReadFault (answer.Fault place cause) = Unit {0}
IsNoReadFault (answer.ReadFault path) = ⊥
IsNoReadFault answer.Memory = Unit {0}
