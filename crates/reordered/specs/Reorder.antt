-- What a new order of a function's parameters promises (this project's, over ISO/IEC 9899:1999, 5.1.1.2 phases 1 to 7, 6.5.2.2 and
-- 6.7.5.3): exactly the lists of the named functions change, and meaning is kept. Between the files before and now, in a workspace.
use Rattle.std.specs.Prelude.{ℕ, ◌≡◌, ◌≢◌, true, List, [], Some, None, Ok, All}
use Rattle.cs_base.specs.declared.positions.Part.{Part}
use Rattle.cs_base.specs.Edit.{Edit}
use Rattle.cs_base.specs.Units.{UnitValue}
use Rattle.ws_file.specs.Workspace.{WorkspaceValue}
use Rattle.analysis.specs.Below.source_files.Files.{Source}
use Rattle.analysis.specs.Below.source_files.KeptFiles.{KeptValue, kept_at}
use Rattle.analysis.specs.Analysis.{AnalysisValue, analysis_of}
use Rattle.analysis.specs.Naming.{Names}
use Rattle.analysis.specs.Parts.{AreMembers}
use Rattle.analysis.specs.Tables.{IsOpened}
use Rattle.edited_files.specs.Edited.{AreMade}
use Rattle.list_cuts.specs.Orders.{is_order}
use Rattle.offences.specs.Class.{NamedClass}
use Rattle.offences.specs.First.{IsFirst}
use Rattle.template_rules.specs.FileLists.{all_found, lists_in}
use Rattle.template_rules.specs.Functions.{has_function}
use Rattle.template_rules.specs.Lists.{count_of}
use Rattle.template_rules.specs.Offences.{offences_of}
use Rattle.reordered.specs.Reordered.{reordered_bytes, AnalysisIsReordered}

-- the file holds lists of the functions
pub record HoldsLists (a : AnalysisValue) (members : List Part) (f : KeptValue) : Type 0 where
  pub kept : kept_at a.table f.number ≡ Some f
  pub some : lists_in (all_found members a) f.number ≡ [] → ⊥

-- Files before and after: each that holds lists held the bytes that were read, and holds them with the items in the new order;
-- every other path holds what it held.
pub record AreReordered (members : List Part) (order : List ℕ) (a : AnalysisValue) (before now : Source) : Type 0 where
  pub edited : (f : KeptValue) → HoldsLists a members f
      → (before f.path ≡ Some f.bytes) × (now f.path ≡ Some (reordered_bytes members order a f.number f.bytes))
  pub others : (path : List ℕ) → ((f : KeptValue) → HoldsLists a members f → f.path ≢ path) → now path ≡ before path

-- The lists of the functions that a place names are in the new order.
pub record IsReorder (ws : WorkspaceValue) (path : List ℕ) (line column : ℕ) (order : List ℕ) (before now : Source) (r : NamedClass) : Type 0 where
  -- every unit is accepted
  pub analysed : analysis_of before ws ≡ Ok r.analysis
  -- the file of each unit is among those that were read
  pub units : All (λ (unit : UnitValue). IsOpened unit.path r.analysis.table) ws.units
  -- the place names the part
  pub named : Names r.analysis path line column (Some r.part)
  -- these are all that must be spelled as it is
  pub class : AreMembers r.analysis r.part r.members
  -- they name functions
  pub function : has_function r.members r.analysis ≡ true
  -- the numbers are an order of their parameters
  pub ordered : is_order (count_of r.analysis r.members) order ≡ true
  -- no reason stands against it
  pub clear : IsFirst r.analysis.table (offences_of r.analysis r.members (count_of r.analysis r.members)) None
  -- the items of the functions' lists are in the new order, and no other byte changed
  pub files : AreReordered r.members order r.analysis before now
  -- each unit preprocesses to the tokens that it had, in the new order; they are read to the tree that it had, in this order;
  -- and two names denote one entity, in one unit or in two of a project, exactly where they did
  pub meaning : AnalysisIsReordered now ws r.analysis r.members order

-- Edits put the lists of the functions that a place names into a new order: so it is over each source with this analysis, once
-- they are made.
abbrev pub ReordersOver : WorkspaceValue → AnalysisValue → List ℕ → ℕ → ℕ → List ℕ → List Edit → Type 0
ReordersOver ws a path line column order edits =
    (before now : Source) → analysis_of before ws ≡ Ok a → AreMade edits before now
    → (r : NamedClass) × IsReorder ws path line column order before now r
