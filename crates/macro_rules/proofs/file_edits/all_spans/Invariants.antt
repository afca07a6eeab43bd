use Rattle.std.proofs.Common.{◌≡◌, map, take}
use Rattle.macro_rules.specs.Edits.{spans_of}
use Rattle.macro_rules.specs.Files.{toks_in}
use Rattle.macro_rules.proofs.file_edits.all_spans.Given as goal

abbrev pub invariant-loop-list : goal.invariant-loop-list
invariant-loop-list l = l.spans.items ≡ map (spans_of l.file.bytes (toks_in l.file)) (take l.list-index l.lists)
