use Rattle.std.proofs.Common.{◌≡◌, ◌++◌, drop}
use Rattle.std.specs.List.{flat_map}
use Rattle.ws_file.specs.Printing.{unit_lines, lines_text}
use Rattle.ws_file.proofs.print.add_units.Given as goal

abbrev pub invariant-loop-unit : goal.invariant-loop-unit
invariant-loop-unit l =
    l.text.items ++ lines_text (flat_map unit_lines (drop l.unit-index l.units)) ≡ l.initial.text.items ++ lines_text (flat_map unit_lines l.units)
