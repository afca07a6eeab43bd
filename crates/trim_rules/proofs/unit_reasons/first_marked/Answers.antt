use Rattle.std.proofs.Common.{◌≡◌, ◌∙◌, true, false, sym, arith}
use Rattle.trim_rules.specs.Walks.{is_marked}
use Rattle.trim_rules.proofs.NumberLemmas.{first-yes, first-no, first-none}
use Rattle.trim_rules.proofs.unit_reasons.first_marked.Goals as goal

pub returns-then-is_marked : goal.returns-then-is_marked
returns-then-is_marked c =
    sym (c.loop-k.invariant ∙ first-yes (is_marked c.args.marks.now) c.loop-k.k c.args.to (omega (arith, c.loop-k-test.true)) (sym c.if-is_marked.ensures))

pub loop-k-preserved : goal.loop-k-preserved
loop-k-preserved c =
    c.loop-k.invariant ∙ first-no (is_marked c.args.marks.now) c.loop-k.k c.args.to (omega (arith, c.loop-k-test.true)) (sym c.if-is_marked.ensures)

pub returns : goal.returns
returns c = sym (c.loop-k.invariant ∙ first-none (is_marked c.args.marks.now) c.loop-k.k c.args.to (omega (arith, c.loop-k-test.false)))
