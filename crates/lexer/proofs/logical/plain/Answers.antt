use Rattle.std.proofs.Common.{◌∙◌, sym, ap, arith}
use Rattle.std.specs.List.{list_all}
use Rattle.lexer.specs.Characters.{cannot_go}
use Rattle.lexer.proofs.LogicalLemmas.{plain-spelled}
use Rattle.lexer.proofs.logical.plain.Goals as goal

pub returns-then-all_stay : goal.returns-then-all_stay
returns-then-all_stay c =
    c.split_at.ensures.front
    ∙ plain-spelled c.args.n c.args.bytes.now (omega arith)
    (ap (list_all cannot_go) (sym c.split_at.ensures.front) ∙ sym c.all_stay.ensures ∙ c.if-all_stay.true)
