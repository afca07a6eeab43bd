use Rattle.std.proofs.Common.{◌∙◌, ap, rules}
use Rattle.query_report.specs.Order.{file_cmp, in_order}
use Rattle.query_report.proofs.FileLemmas.{file_cmp-strict}
use Rattle.query_report.proofs.SortLemmas.{in_order-sorted, sorted-by}
use Rattle.query_report.proofs.file_order.ordered_numbers.Goals as goal

pub returns : goal.returns
returns c =
    let strict = file_cmp-strict c.args.t.now.table in
    in_order-sorted (file_cmp c.args.t.now.table) c.in_ok-numbers.numbers.items c.sort_by.new.self.items strict
    c.in_ok-sort_by.ensures.permutation
    (sorted-by (file_cmp c.args.t.now.table) c.sort_by.new.self.items strict c.in_ok-sort_by.ensures.sorted (λ a r q k. search rules))
    ∙ ap (in_order (file_cmp c.args.t.now.table)) c.in_ok-numbers.ensures
