use Rattle.std.proofs.Common.{◌≡◌, ◌++◌, drop, map}
use Rattle.ws_file.specs.Printing.{readonly_line, lines_text}
use Rattle.ws_file.proofs.print.add_prefixes.Given as goal

abbrev pub invariant-loop-prefix : goal.invariant-loop-prefix
invariant-loop-prefix l =
    l.text.items ++ lines_text (map readonly_line (drop l.prefix-index l.prefixes)) ≡ l.initial.text.items ++ lines_text (map readonly_line l.prefixes)
