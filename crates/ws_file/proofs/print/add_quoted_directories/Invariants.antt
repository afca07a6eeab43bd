use Rattle.std.proofs.Common.{◌≡◌, ◌++◌, drop, map}
use Rattle.ws_file.specs.Printing.{qpath_line, lines_text}
use Rattle.ws_file.proofs.print.add_quoted_directories.Given as goal

abbrev pub invariant-loop-directory : goal.invariant-loop-directory
invariant-loop-directory l =
    l.text.items ++ lines_text (map qpath_line (drop l.directory-index l.directories)) ≡ l.initial.text.items ++ lines_text (map qpath_line l.directories)
