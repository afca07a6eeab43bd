use Rattle.std.proofs.Common.{◌-◌, ◌≤◌, arith}
use Rattle.macro_rules.specs.FileOffences.{bare_name}
use Rattle.macro_rules.proofs.WalkLemmas.{range_first, range_next, range_all}
use Rattle.macro_rules.proofs.name_offences.push_bare_names.Goals as goal

pub loop-k-init : goal.loop-k-init
loop-k-init c = (omega arith, range_first (bare_name c.args.calls.now c.args.toks.now) c.args.from (c.args.to - c.args.from) c.args.out.now.items)

pub loop-k-preserved : goal.loop-k-preserved
loop-k-preserved c =
    let low : c.args.from ≤ c.loop-k.k = c.loop-k.invariant.0 in (
      omega (arith, low),
      range_next (bare_name c.args.calls.now c.args.toks.now) c.args.from (c.args.to - c.args.from) c.loop-k.k c.args.out.now.items c.loop-k.out.items _ low (omega (arith, low, c.loop-k-test.true)) c.loop-k.invariant.1 c.in_ok-push_bare_name.ensures,
    )

pub returns : goal.returns
returns c =
    let low : c.args.from ≤ c.loop-k.k = c.loop-k.invariant.0 in
    range_all (bare_name c.args.calls.now c.args.toks.now) c.args.from (c.args.to - c.args.from) c.loop-k.k c.args.out.now.items c.loop-k.out.items low (omega (arith, low, c.loop-k-test.false)) c.loop-k.invariant.1
