use Rattle.std.proofs.Common.{◌∙◌}
use Rattle.lexer.specs.Walk.{spelled}
use Rattle.lexer.proofs.TableLemmas.{word-at_length}
use Rattle.lexer.proofs.pieces.is_spelled.Goals as goal

pub returns-then-n-word : goal.returns-then-n-word
returns-then-n-word c =
    c.begins_with.ensures ∙ word-at_length c.args.n (spelled c.args.text.now) c.args.word.now c.requires c.if-n-word.true
