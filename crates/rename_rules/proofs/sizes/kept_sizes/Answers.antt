use Rattle.std.proofs.Common.{arith}
use Rattle.std.specs.Prelude.{min}
use Rattle.rename_rules.specs.Runs.{kept_sizes, most_size}
use Rattle.rename_rules.proofs.SizeLemmas.{sizes_next, sizes_end}
use Rattle.rename_rules.proofs.sizes.kept_sizes.Goals as goal

pub loop-number-preserved : goal.loop-number-preserved
loop-number-preserved c = record {
  within = omega (arith, c.sum-total.ensures);
  total = sizes_next c.args.members.now c.args.a.now.value.table c.loop-number.number c.loop-number.total c.kept_size_of.result c.sum-total.result
      (min (kept_sizes c.args.members.now 0 c.args.a.now.value.table) most_size) (omega (arith, c.files-number-end.ensures.answer)) c.kept_size_of.ensures c.sum-total.ensures c.loop-number.invariant.total;
}

pub returns : goal.returns
returns c =
    sizes_end c.args.members.now c.args.a.now.value.table c.loop-number.number c.loop-number.total (min (kept_sizes c.args.members.now 0 c.args.a.now.value.table) most_size)
    (omega (arith, c.files-number-end.ensures.answer)) c.loop-number.invariant.within c.loop-number.invariant.total
