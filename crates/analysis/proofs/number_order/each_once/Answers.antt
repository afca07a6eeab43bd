use Rattle.std.proofs.lemmas.Result.{IfOk-weaker}
use Rattle.analysis.proofs.NumberLemmas.{numbers_moved}
use Rattle.analysis.proofs.number_order.each_once.Goals as goal

pub returns : goal.returns
returns c =
    IfOk-weaker c.one_by_one.result _ _
    (λ numbers. numbers_moved c.args.brought.items c.sort_unstable_by_key.new.self.items numbers.items c.sort_unstable_by_key.ensures.permutation)
    c.one_by_one.ensures
