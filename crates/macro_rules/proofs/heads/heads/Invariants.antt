use Rattle.std.proofs.Common.{◌≡◌, ◌++◌, drop}
use Rattle.macro_rules.specs.Files.{found_from, in_files, in_items}
use Rattle.macro_rules.specs.Macros.{in_define, own_head}
use Rattle.macro_rules.proofs.heads.heads.Given as goal

abbrev pub invariant-loop-number : goal.invariant-loop-number
invariant-loop-number l = l.out.items ++ found_from (in_items (in_define (own_head l.macros))) l.number (drop l.number l.a.value.table) ≡ in_files (in_items (in_define (own_head l.macros))) l.a.value.table
