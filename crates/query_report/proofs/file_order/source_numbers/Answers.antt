use Rattle.std.proofs.Common.{◌++◌, ◌∙◌, ◌≤◌, List, ℕ, ap, sym, arith, length}
use Rattle.std.proofs.lemmas.List.{append-nil}
use Rattle.query_report.specs.Order.{numbers_from}
use Rattle.query_report.proofs.FileLemmas.{numbers-more, numbers-end}
use Rattle.query_report.proofs.file_order.source_numbers.Goals as goal

pub loop-number-preserved : goal.loop-number-preserved
loop-number-preserved c =
    numbers-more c.args.t.now.table c.loop-number.number c.loop-number.numbers.items c.push_source.new.numbers.items
    (numbers_from 0 c.args.t.now.table) (omega (arith, c.files-number-end.ensures.answer)) c.loop-number.invariant c.in_ok-push_source.ensures

pub returns : goal.returns
returns c =
    let past : length c.args.t.now.table ≤ c.loop-number.number = omega (arith, c.files-number-end.ensures.answer) in
    sym (append-nil c.loop-number.numbers.items)
    ∙ ap (λ (rest : List ℕ). c.loop-number.numbers.items ++ rest) (sym (numbers-end c.args.t.now.table c.loop-number.number past))
    ∙ c.loop-number.invariant
