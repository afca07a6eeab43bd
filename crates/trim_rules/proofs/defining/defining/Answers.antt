use Rattle.std.proofs.Common.{◌+◌, rules, arith}
use Rattle.trim_rules.specs.Defining.{names_for_others}
use Rattle.trim_rules.proofs.DefiningLemmas.{marks-begin, marks-next, marks-all, past-begin, past-later}
use Rattle.trim_rules.proofs.defining.defining.Goals as goal

pub loop-k-init : goal.loop-k-init
loop-k-init c = (
  marks-begin (names_for_others c.args.tree.now.under c.args.bound.now.names c.args.bound.now.functions) c.in_ok-marks.marks.items (search rules),
  past-begin c.args.tree.now.under,
)

pub loop-k-preserved : goal.loop-k-preserved
loop-k-preserved c = (
  marks-next (names_for_others c.args.tree.now.under c.args.bound.now.names c.args.bound.now.functions) c.loop-k.k c.loop-k.marks.items c.push.new.self.items
      c.names_for_others.result c.loop-k.invariant.0 (search rules) c.names_for_others.ensures.answer,
  past-later c.args.tree.now.under c.names_for_others.new.child c.loop-k.k c.names_for_others.ensures.past,
)

pub returns : goal.returns
returns c = record {
  each =
      marks-all (names_for_others c.args.tree.now.under c.args.bound.now.names c.args.bound.now.functions) c.loop-k.k c.args.count c.loop-k.marks.items
      (omega (arith, c.loop-k-test.false, c.loop-k.auto.k-end)) c.loop-k.invariant.0;
}
