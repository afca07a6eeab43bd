use Rattle.std.proofs.Common.{sym, ◌∙◌, arith}
use Rattle.std.proofs.lemmas.List.{take_rest}
use Rattle.line_shape.proofs.ParameterLemmas.{definition_cause-function}
use Rattle.line_shape.proofs.macro_line.definition_cause.Goals as goal

pub returns-in-len1-up : goal.returns-in-len1-up
returns-in-len1-up c =
    let same = definition_cause-function c.args.toks.now c.open-item.result (omega arith) c.open-item.is (sym c.is_open.ensures ∙ c.if-is_open.true) (sym c.gap.ensures ∙ c.if-not-gap.true) in
    rw same (rw (take_rest c.args.toks.now 1) at c.function_cause.ensures)
