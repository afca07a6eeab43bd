use Rattle.std.proofs.Common.{◌≡◌, ◌++◌, drop, map}
use Rattle.ws_file.specs.Printing.{included_line, lines_text}
use Rattle.ws_file.proofs.print.add_includes.Given as goal

abbrev pub invariant-loop-path : goal.invariant-loop-path
invariant-loop-path l =
    l.text.items ++ lines_text (map included_line (drop l.path-index l.includes)) ≡ l.initial.text.items ++ lines_text (map included_line l.includes)
