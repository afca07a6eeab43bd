use Rattle.std.proofs.Common.{◌≡◌, take}
use Rattle.std.specs.Prelude.{map}
use Rattle.analysis.specs.Below.lexer.Tokens.{tokens_of}
use Rattle.template_rules.specs.FileLists.{items_of}
use Rattle.template_rules.proofs.file_lists.spans_of.Given as goal

abbrev pub invariant-loop-list : goal.invariant-loop-list
invariant-loop-list l = l.spans.items ≡ map (items_of l.file.bytes (tokens_of l.file.number l.file.bytes)) (take l.list-index l.lists)
