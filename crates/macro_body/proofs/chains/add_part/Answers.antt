use Rattle.std.proofs.Common.{sym, ◌∙◌}
use Rattle.macro_body.proofs.ChainLemmas.{part-begun}
use Rattle.macro_body.proofs.chains.add_part.Goals as goal

pub returns : goal.returns
returns c =
    rw c.if-operand.false
    (part-begun c.args.chains.now.items c.begin_chain.new.chains.items c.args.part (sym c.is_operator.ensures ∙ c.if-is_operator.false) c.in_ok-begin_chain.ensures)
