-- How the bytes of files change behind a new order, by their paths (this project's).
use Rattle.std.specs.Prelude.{ℕ, List}
use Rattle.cs_base.specs.declared.positions.Part.{Part}
use Rattle.source_files.specs.Files.{number_of}
use Rattle.analysis.specs.Analysis.{AnalysisValue}
use Rattle.unit_laws.specs.Edited.{Edit}
use Rattle.reordered.specs.Reordered.{reordered_bytes}

-- a path is edited as the file of its number is
abbrev pub edit_by : List Part → List ℕ → AnalysisValue → Edit
edit_by members order a path bytes = reordered_bytes members order a (number_of path a.table) bytes
