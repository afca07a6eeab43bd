use Rattle.std.proofs.Common.{◌∙◌, ap, eqb, map, rules, tests}
use Rattle.std.specs.Str.{byte}
use Rattle.std.proofs.lemmas.Iterator.Consumers.{YieldsList-end}
use Rattle.std.proofs.lemmas.Iterator.Splits.{YieldsList-from_slice_split}
use Rattle.command_words.specs.Request.{number_or_zero}
use Rattle.command_words.proofs.orders.order_of.Goals as goal

pub returns : goal.returns
returns c =
    let all =
    YieldsList-end
    (YieldsList-from_slice_split _ (λ b. eqb b (byte ",")) c.args.word.now (cc) (cc) (cc) (λ x b q k. search (rules, tests)))
    c.loop-item.yielded _ c.loop-item.yielded_by _ _ c.in-None.is c.next.ensures.steps in
    c.loop-item.invariant ∙ ap (map number_or_zero) all.0
