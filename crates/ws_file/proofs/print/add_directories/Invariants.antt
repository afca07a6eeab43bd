use Rattle.std.proofs.Common.{◌≡◌, ◌++◌, drop, map}
use Rattle.ws_file.specs.Printing.{ipath_line, lines_text}
use Rattle.ws_file.proofs.print.add_directories.Given as goal

abbrev pub invariant-loop-directory : goal.invariant-loop-directory
invariant-loop-directory l =
    l.text.items ++ lines_text (map ipath_line (drop l.directory-index l.directories)) ≡ l.initial.text.items ++ lines_text (map ipath_line l.directories)
