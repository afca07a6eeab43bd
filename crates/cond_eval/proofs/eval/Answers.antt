use Rattle.std.proofs.Common.{sym, ◌∙◌, rules}
use Rattle.cond_eval.proofs.EvalLemmas.{condition-fault, condition-rest, condition-value_fault, condition-value}
use Rattle.cond_eval.proofs.eval.Goals as goal

pub returns-in_err-read : goal.returns-in_err-read
returns-in_err-read c = rw (condition-fault _ _ (sym c.conditional.ensures.answer ∙ c.in_err-read.was)) (search rules)

pub returns-then-read-toks : goal.returns-then-read-toks
returns-then-read-toks c = record {
  answer = sym (condition-rest _ _ (sym c.conditional.ensures.answer ∙ c.in_ok-read.was) c.if-read-toks.true);
}

pub returns-in_err-value : goal.returns-in_err-value
returns-in_err-value c =
    rw (condition-value_fault _ _ _ (sym c.conditional.ensures.answer ∙ c.in_ok-read.was) c.if-read-toks.false
    (sym c.conditional-2.ensures.answer ∙ c.in_err-value.was)) (search rules)

pub returns : goal.returns
returns c = record {
  answer =
      rw c.is_nonzero.ensures (sym (condition-value _ _ _ (sym c.conditional.ensures.answer ∙ c.in_ok-read.was) c.if-read-toks.false
      (sym c.conditional-2.ensures.answer ∙ c.in_ok-value.was)));
}
