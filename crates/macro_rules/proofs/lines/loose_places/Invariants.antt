use Rattle.std.proofs.Common.{◌≡◌, ◌++◌, drop}
use Rattle.macro_rules.specs.Files.{found_from, in_files, in_items}
use Rattle.macro_rules.specs.Macros.{in_define, loose_place}
use Rattle.macro_rules.proofs.lines.loose_places.Given as goal

abbrev pub invariant-loop-number : goal.invariant-loop-number
invariant-loop-number l = l.out ++ found_from (in_items (in_define loose_place)) l.number (drop l.number l.a.value.table) ≡ in_files (in_items (in_define loose_place)) l.a.value.table
