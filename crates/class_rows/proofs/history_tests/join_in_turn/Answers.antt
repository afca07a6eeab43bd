use Rattle.std.proofs.Common.{◌+◌, ◌-◌, ◌≤◌, ℕ, arith}
use Rattle.class_rows.proofs.history_tests.join_in_turn.Goals as goal

-- ticks in turn are ticks in sum
in_sum : (n a b c d most : ℕ) → a ≤ b → b ≤ c → c ≤ d → n + (b - a) + (c - b) + (d - c) ≤ most → n + (d - a) ≤ most
in_sum n a b c d most first second third few = omega (arith, first, second, third, few)

pub returns : goal.returns
returns g c = record {
  few = λ r n h.
      let first = c.join-first.ensures.history r n h in
      let second = c.join-second.ensures.history first.0 _ first.1 in
      let done = c.in_ok-done.ensures.history _ _ second.1 in
      let third = c.join-third.ensures.history second.0 _ done in
      in_sum n c.args.steps.now c.join-first.new.steps c.join-second.new.steps c.join-third.new.steps _
      c.join-first.ensures.more c.join-second.ensures.more c.join-third.ensures.more
      (c.joins_relabel_little.ensures _ _ _ third.1).1;
}
