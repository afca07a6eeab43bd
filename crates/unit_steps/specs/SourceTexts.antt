-- A source file that is processed, as contracts see it.
use Rattle.unit_steps.specs.declared.source_text.SourceText.{SourceText}
use Rattle.source_files.specs.Files.{SourceFile, source_file}

abbrev pub source_in : SourceText → SourceFile
source_in s = source_file s.number s.path.now s.text.now
