use Rattle.std.proofs.Common.{ℕ, ◌≡◌, ◌<◌, true, false, [], take, get_or}
use Rattle.list_cuts.proofs.MetLemmas.{IsMet}
use Rattle.list_cuts.proofs.orders.is_order.Given as goal

abbrev pub invariant-loop : goal.invariant-loop
invariant-loop l = IsMet l.counter [] l.met.items

abbrev pub invariant-loop-number : goal.invariant-loop-number
invariant-loop-number l = IsMet l.count (take l.number-index l.order) l.met.items

abbrev pub invariant-loop-there : goal.invariant-loop-there
invariant-loop-there l = (k : ℕ) → k < l.there-index → get_or l.there-items k false ≡ true
