use Rattle.std.proofs.Common.{length-append, refl, arith}
use Rattle.class_marks.proofs.ReadOnlyLemmas.{files_more}
use Rattle.class_marks.proofs.read_only.read_only_files.Goals as goal

pub loop-number-init : goal.loop-number-init
loop-number-init c = rw c.new-files.ensures.items (refl, λ n d within. absurd (omega (arith, within)))

pub loop-number-preserved : goal.loop-number-preserved
loop-number-preserved c = (
  rw (c.in_ok-push.ensures.items, length-append) (omega (arith, c.loop-number.invariant.0)),
  files_more c.args.a.now.value c.loop-number.files.items c.push.new.self.items c.loop-number.number c.read_only.result
      c.loop-number.invariant.0 c.read_only.ensures c.in_ok-push.ensures.items c.loop-number.invariant.1,
)
