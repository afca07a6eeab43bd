-- The table of classes that an analysis has, and what is promised of both.
use Rattle.cs_base.specs.declared.positions.Part.{Part}
use Rattle.eclass_map.specs.ClassTable.{Table, IsAdded, AreLinks, HasParts}
use Rattle.analysis.specs.Analysis.{AnalysisValue}
use Rattle.analysis.specs.FileTokens.{IsFileToken}
use Rattle.analysis.specs.Links.{linked_pairs}

-- The added tokens of the table are the file tokens of the analysis.
pub record HasFileTokens (a : AnalysisValue) (classes : Table) : Type 0 where
  pub tokens : (token : Part) → IsAdded classes token → IsFileToken a token
  pub all : (token : Part) → IsFileToken a token → IsAdded classes token

-- The table has the file tokens of the analysis, and its classes are those of the links.
pub record AreItsClasses (a : AnalysisValue) (classes : Table) : Type 0 where
  pub tokens : (token : Part) → IsAdded classes token → IsFileToken a token
  pub all : (token : Part) → IsFileToken a token → IsAdded classes token
  pub links : AreLinks (linked_pairs a) classes
  pub parts : HasParts classes
