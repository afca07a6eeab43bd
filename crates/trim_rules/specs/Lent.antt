-- Items of kept files as code holds them.
use Rattle.analysis.specs.Below.include_tree.Walk.{ItemText, item_text}
use Rattle.analysis.specs.Below.lexer.Tokens.{tokens_of}
use Rattle.trim_rules.specs.declared.reached.Placed.{Placed}

-- an item with the tokens of its file
abbrev pub text_of : Placed → ItemText
text_of p = item_text (tokens_of p.file.now.number p.file.now.bytes) p.item.now
