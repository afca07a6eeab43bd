use Rattle.std.proofs.Common.{◌≡◌, ◌∙◌, true, false, sym, arith}
use Rattle.trim_rules.specs.Held.{held_giving}
use Rattle.trim_rules.specs.Mentions.{told_at}
use Rattle.trim_rules.proofs.NumberLemmas.{first-yes, first-no, first-none}
use Rattle.trim_rules.proofs.mentions.Mentions.first_giving.Goals as goal

pub returns-then-is_giving : goal.returns-then-is_giving
returns-then-is_giving c =
    sym (c.loop-i.invariant
    ∙ first-yes (held_giving (told_at c.args.self.now.spans) c.args.events.now c.args.k c.args.end) c.loop-i.i c.args.end (omega (arith, c.loop-i-test.true))
    (sym c.if-is_giving.ensures))

pub loop-i-preserved : goal.loop-i-preserved
loop-i-preserved c =
    c.loop-i.invariant
    ∙ first-no (held_giving (told_at c.args.self.now.spans) c.args.events.now c.args.k c.args.end) c.loop-i.i c.args.end (omega (arith, c.loop-i-test.true))
    (sym c.if-is_giving.ensures)

pub returns : goal.returns
returns c =
    sym (c.loop-i.invariant
    ∙ first-none (held_giving (told_at c.args.self.now.spans) c.args.events.now c.args.k c.args.end) c.loop-i.i c.args.end (omega (arith, c.loop-i-test.false)))
