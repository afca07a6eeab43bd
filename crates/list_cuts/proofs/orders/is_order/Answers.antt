use Rattle.std.proofs.Common.{ℕ, ◌≡◌, ◌<◌, arith, sym, length, take, get_or, false, true}
use Rattle.std.proofs.lemmas.List.{take_all}
use Rattle.list_cuts.proofs.MetLemmas.{IsMet, all_met, one_missed}
use Rattle.list_cuts.proofs.OrderLemmas.{orders_permute}
use Rattle.list_cuts.proofs.orders.is_order.Goals as goal

pub returns-then-not-there : goal.returns-then-not-there
returns-then-not-there c =
    let whole : take c.loop-number.number-index c.args.order.now ≡ c.args.order.now = take_all c.loop-number.number-index c.args.order.now c.loop-number-test.false in
    let met : IsMet c.args.count c.args.order.now c.loop-number.met.items = rw whole at c.loop-number.invariant in
    let missed = one_missed c.args.count c.loop-there.there-index c.args.order.now c.loop-number.met.items c.if-order-count.false met
    (rw c.deref-there-items.ensures.value at c.loop-there-test.true) (rw c.deref-there-items.ensures.value at c.if-not-there.true) in
    record { answer = missed; permutes = λ no. absurd cc }

pub returns : goal.returns
returns c =
    let whole : take c.loop-number.number-index c.args.order.now ≡ c.args.order.now = take_all c.loop-number.number-index c.args.order.now c.loop-number-test.false in
    let met : IsMet c.args.count c.args.order.now c.loop-number.met.items = rw whole at c.loop-number.invariant in
    let each : (k : ℕ) → k < length c.deref-there-items.result.now → get_or c.deref-there-items.result.now k false ≡ true =
    λ k lt. c.loop-there.invariant k (omega (arith, lt, c.loop-there-test.false)) in
    let all = all_met c.args.count c.args.order.now c.loop-number.met.items c.if-order-count.false met (rw c.deref-there-items.ensures.value at each) in
    record { answer = all; permutes = λ yes. orders_permute c.args.count c.args.order.now (sym all) }
