use Rattle.std.proofs.Common.{◌≡◌, ℕ, length, subst, arith}
use Rattle.unused_names.specs.LastUses.{last_at, AreLast}
use Rattle.unused_names.proofs.UseLemmas.{no_events}
use Rattle.unused_names.proofs.last_uses.LastUses.of.Goals as goal

pub loop-k-init : goal.loop-k-init
loop-k-init c = no_events c.args.events.now (last_at c.new-uses.result.numbers) c.new-uses.ensures

pub returns : goal.returns
returns c =
    let events = c.args.events.now in
    let all : c.loop-k.k ≡ length events = omega (arith, c.loop-k-test.false, c.loop-k.auto.k-end) in
    subst (λ (n : ℕ). AreLast events n (last_at c.loop-k.uses.numbers)) all c.loop-k.invariant
