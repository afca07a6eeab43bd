use Rattle.std.proofs.Common.{sym, ◌∙◌}
use Rattle.cond_eval.proofs.ConstantLemmas.{digits_onto-past, digits_onto-more, digits_onto-all, word_of-some_below}
use Rattle.cond_eval.proofs.integer_constant.digits_value.Goals as goal

pub returns-in_err-value : goal.returns-in_err-value
returns-in_err-value c =
    c.from_residual.ensures ∙ sym (digits_onto-past _ _ _ _ _ c.requires c.loop-digit-test.true
    (sym c.with_digit.ensures ∙ c.in_err-value.was) c.loop-digit.invariant.whole)

pub loop-digit-preserved : goal.loop-digit-preserved
loop-digit-preserved c =
    let fits = sym c.with_digit.ensures ∙ c.in_ok-value.was in
    record {
      whole = digits_onto-more _ _ _ _ _ _ c.loop-digit-test.true fits c.loop-digit.invariant.whole;
      fits = word_of-some_below _ _ fits;
    }

pub returns : goal.returns
returns c =
    digits_onto-all _ _ _ _ _ c.loop-digit-test.false c.loop-digit.invariant.fits c.loop-digit.invariant.whole
