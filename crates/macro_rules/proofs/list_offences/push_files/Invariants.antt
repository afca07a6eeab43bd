use Rattle.std.proofs.Common.{◌≡◌, ◌++◌, drop}
use Rattle.macro_rules.specs.Files.{found_from, in_files}
use Rattle.macro_rules.specs.FileOffences.{file_offences}
use Rattle.macro_rules.proofs.list_offences.push_files.Given as goal

abbrev pub invariant-loop-number : goal.invariant-loop-number
invariant-loop-number l = l.out.items ++ found_from (file_offences l.a.value l.asked.macros.now l.asked.calls.now l.asked.torn.now l.asked.lines.now) l.number (drop l.number l.a.value.table) ≡ l.initial.out.items ++ in_files (file_offences l.a.value l.asked.macros.now l.asked.calls.now l.asked.torn.now l.asked.lines.now) l.a.value.table
