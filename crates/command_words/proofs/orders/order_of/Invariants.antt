use Rattle.std.proofs.Common.{◌≡◌, ℕ, List, map}
use Rattle.std.specs.Borrow.{Bor}
use Rattle.command_words.specs.Request.{number_or_zero}
use Rattle.command_words.proofs.orders.order_of.Given as goal

abbrev pub invariant-loop-item : goal.invariant-loop-item
invariant-loop-item l = l.order.items ≡ map number_or_zero (map (λ (word : Bor (List ℕ)). word.now) l.yielded)
