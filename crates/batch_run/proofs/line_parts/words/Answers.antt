use Rattle.std.proofs.Common.{◌∙◌, eqb, rules, tests}
use Rattle.std.proofs.lemmas.Iterator.Consumers.{YieldsList-end}
use Rattle.std.proofs.lemmas.Iterator.Splits.{YieldsList-from_slice_split}
use Rattle.batch_run.specs.Reading.{space}
use Rattle.batch_run.proofs.line_parts.words.Goals as goal

pub returns : goal.returns
returns c =
    let all =
    YieldsList-end
    (YieldsList-from_slice_split _ (λ b. eqb b space) c.args.line.now (cc) (cc) (cc) (λ x b q k. search (rules, tests)))
    c.loop-word.yielded _ c.loop-word.yielded_by _ _ c.in-None.is c.next.ensures.steps in
    c.loop-word.invariant ∙ all.0
