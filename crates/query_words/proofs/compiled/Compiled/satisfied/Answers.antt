use Rattle.std.proofs.Common.{◌≡◌, ◌≤◌, ◌+◌, sym, ap, ◌∙◌, List, ◌∷◌, ◌++◌, Bool, [], length, take}
use Rattle.std.proofs.lemmas.List.{take_all, take_more}
use Rattle.query_words.specs.declared.steps.Step.{Step}
use Rattle.query_words.specs.Steps.{last_of, run, step_on}
use Rattle.query_words.proofs.StepLemmas.{run_none, run_one}
use Rattle.query_words.proofs.compiled.Compiled.satisfied.Goals as goal

pub loop-step-init : goal.loop-step-init
loop-step-init c = c.clear.ensures.items ∙ sym (run_none c.args.facts.now c.args.spelling.now [])

pub loop-step-preserved : goal.loop-step-preserved
loop-step-preserved c =
    let facts = c.args.facts.now in
    let spelling = c.args.spelling.now in
    let steps = c.deref-step-items.result.now in
    let k = c.loop-step.step-index in
    let x = c.step-item.result in
    let here : take (k + 1) steps ≡ take k steps ++ x ∷ [] =
    take_more steps k x c.loop-step-test.true ∙ ap (λ (y : Step). take k steps ++ y ∷ []) (sym c.step-item.is) in
    let more : take (k + 1) c.args.self.now.steps.items ≡ take k c.args.self.now.steps.items ++ x ∷ [] = rw (← c.deref-step-items.ensures.value) here in
    c.in_ok-take_step.ensures
    ∙ ap (λ (values : List Bool). step_on facts spelling values x) c.loop-step.invariant
    ∙ sym (run_one facts spelling (take k c.args.self.now.steps.items) x [])
    ∙ sym (ap (λ (xs : List Step). run facts spelling xs []) more)

pub returns : goal.returns
returns c = λ q means.
    let facts = c.args.facts.now in
    let spelling = c.args.spelling.now in
    let past : length c.args.self.now.steps.items ≤ c.loop-step.step-index = rw (← c.deref-step-items.ensures.value) c.loop-step-test.false in
    c.taken.ensures.last
    ∙ ap last_of (
    c.loop-step.invariant
    ∙ ap (λ (xs : List Step). run facts spelling xs []) (take_all c.loop-step.step-index c.args.self.now.steps.items past)
    ∙ means.says facts spelling
    )
