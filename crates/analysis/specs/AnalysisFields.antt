-- The private fields of an analysis.
use Rattle.std.specs.Prelude.{◌≡◌, Bool, List, None}
use Rattle.cs_base.specs.Token.{Token}
use Rattle.include_tree.specs.Below.source_files.KeptFiles.{kept_at}
use Rattle.eclass_map.specs.ClassTable.{Table}
use Rattle.analysis.specs.Analysed.{ClassLists, AreLists}
use Rattle.analysis.specs.Analysis.{AnalysisValue}
use Rattle.analysis.specs.BroughtNumbers.{AreNumbers, all_brought}
use Rattle.analysis.specs.Classes.{AreItsClasses}
use Rattle.analysis.specs.Marking.{AreMarked}
use Rattle.analysis.specs.Naming.{names_processed}

-- What is true of the fields of every analysis.
pub record IsAnalysed (a : AnalysisValue) (classes : Table) (lists : ClassLists) (marks : List (List Bool)) (numbers : List Token) : Type 0 where
  pub own : AreItsClasses a classes
  pub listed : AreLists a classes lists
  pub marked : AreMarked a.table (names_processed a) marks
  pub numbered : AreNumbers (all_brought a.units) numbers
  -- the number of the pseudo file of lines is that of no kept file
  pub lines : kept_at a.table 0 ≡ None
