use Rattle.std.proofs.Common.{take}
use Rattle.std.specs.Prelude.{map}
use Rattle.std.specs.List.{list_any}
use Rattle.analysis.specs.Below.include_tree.Walk.{item_text}
use Rattle.analysis.specs.Below.lexer.Tokens.{tokens_of}
use Rattle.trim_rules.specs.Judging.{told_of, unless, Learns}
use Rattle.trim_rules.specs.Staying.{is_header_line}
use Rattle.trim_rules.proofs.judging.Judging.note_file.Given as goal

abbrev pub invariant-loop-item : goal.invariant-loop-item
invariant-loop-item l =
    Learns (λ p w. unless (list_any (is_header_line p) (map (item_text (tokens_of l.file.number l.file.bytes))
    (take l.item-index l.items))) w)
    (told_of l.initial.self.whys) (told_of l.self.whys)
