use Rattle.std.proofs.Common.{arith}
use Rattle.query_report.proofs.NamedLemmas.{not_named}
use Rattle.query_report.proofs.class_lines.is_kept.Goals as goal

pub returns : goal.returns
returns c = λ same.
    not_named c.args.path.now c.args.a.now.value.table (λ k below. c.loop-number.invariant k (omega (arith, c.files-number-end.ensures.answer)))
