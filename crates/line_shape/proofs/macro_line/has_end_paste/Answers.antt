use Rattle.std.proofs.Common.{sym, ◌∙◌, ◌-◌, length, arith}
use Rattle.line_shape.proofs.BadLinesLemmas.{has_end_paste-last}
use Rattle.line_shape.proofs.macro_line.has_end_paste.Goals as goal

pub returns-in-len1-up-2 : goal.returns-in-len1-up-2
returns-in-len1-up-2 c =
    c.is_paste-in-len1-up-2.ensures ∙ sym (has_end_paste-last c.args.body.now (length c.args.body.now - 1) _ _ (omega arith) c.first-item.is (sym c.is_paste.ensures ∙ c.if-is_paste.false) c.last-item.is)
