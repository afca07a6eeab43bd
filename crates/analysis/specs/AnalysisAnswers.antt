-- What is answered for units that are accepted.
use Rattle.std.specs.Prelude.{◌≡◌, Result, Ok, Err}
use Rattle.analysis.specs.declared.analyse_fault.AnalyseFault.{AnalyseFault}
use Rattle.analysis.specs.declared.analyse_fault.AnalyseFault.TheVariants as answer
use Rattle.analysis.specs.Analysed.{Analysed}
use Rattle.analysis.specs.Analysis.{AnalysisValue}
use Rattle.analysis.specs.Classes.{AreItsClasses}

-- their analysis, or want of memory
abbrev pub IsAnalysedOr : AnalysisValue → Result Analysed AnalyseFault → Type 0
IsAnalysedOr value (Ok a) = (a.value ≡ value) × AreItsClasses a.value a.classes
IsAnalysedOr value (Err answer.Memory) = Unit {0}
IsAnalysedOr value (Err _) = ⊥
