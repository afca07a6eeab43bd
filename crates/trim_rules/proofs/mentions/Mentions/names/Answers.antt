use Rattle.std.proofs.Common.{◌≡◌, ℕ, length, subst, arith}
use Rattle.trim_rules.specs.Mentions.{told_at, HasNames}
use Rattle.trim_rules.proofs.MentionLemmas.{names-begin}
use Rattle.trim_rules.proofs.mentions.Mentions.names.Goals as goal

pub loop-k-init : goal.loop-k-init
loop-k-init c = names-begin c.args.events.now (told_at c.new-mentions.result.spans) c.new-mentions.ensures

pub returns : goal.returns
returns c =
    let events = c.args.events.now in
    let all : c.loop-k.k ≡ length events = omega (arith, c.loop-k-test.false, c.loop-k.auto.k-end) in
    subst (λ (n : ℕ). HasNames events n (told_at c.loop-k.mentions.spans)) all c.loop-k.invariant
