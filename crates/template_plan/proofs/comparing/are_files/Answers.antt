use Rattle.std.proofs.Common.{refl, ◌∙◌, ℕ, arith, sym}
use Rattle.template_meaning.specs.Compared.{AreNumbered}
use Rattle.template_plan.proofs.ComparedLemmas.{below-next}
use Rattle.template_plan.proofs.comparing.are_files.Goals as goal

pub loop-number-init : goal.loop-number-init
loop-number-init c = λ k below. absurd (omega (arith, below))

pub loop-number-preserved : goal.loop-number-preserved
loop-number-preserved c = λ k below.
    below-next (AreNumbered c.args.a.now.value.table c.args.b.now.value.table) c.loop-number.number k below
    (λ i less. c.loop-number.invariant i less) (c.if-not-are_numbered.ensures refl)

pub returns-clause-numbers : goal.returns-clause-numbers
returns-clause-numbers c = λ passed. sym c.files.ensures.answer ∙ (c.if-files-count.false ∙ c.files-count.ensures.answer)

pub returns-clause-files : goal.returns-clause-files
returns-clause-files c = λ passed k below.
    c.loop-number.invariant k (omega (arith, below, c.files-count.ensures.answer, c.loop-number-test.false))
