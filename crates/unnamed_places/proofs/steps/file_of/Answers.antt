use Rattle.std.proofs.Common.{◌≡◌, ◌≤◌, false, length, sym, below_more, arith}
use Rattle.unnamed_places.specs.Unnamed.{has_path_at}
use Rattle.unnamed_places.proofs.FileLemmas.{file_here, file_nowhere}
use Rattle.unnamed_places.proofs.steps.file_of.Goals as goal

pub returns-then-has_path_at : goal.returns-then-has_path_at
returns-then-has_path_at c =
    file_here c.args.a.now.value c.args.path.now c.loop-number.number _ (sym c.if-has_path_at.ensures) c.file.ensures

pub loop-number-preserved : goal.loop-number-preserved
loop-number-preserved c =
    below_more (λ k. has_path_at c.args.a.now.value c.args.path.now k ≡ false) c.loop-number.number c.loop-number.invariant (sym c.if-has_path_at.ensures)

pub returns : goal.returns
returns c =
    let past : length c.args.a.now.value.table ≤ c.loop-number.number = omega (arith, c.loop-number-test.false, c.files-number-end.ensures.answer) in
    file_nowhere c.args.a.now.value c.args.path.now c.loop-number.number past c.loop-number.invariant
