use Rattle.std.proofs.Common.{◌≤◌, ◌-◌, ◌∙◌, length, arith}
use Rattle.line_diff.specs.Pairs.{rows_in}
use Rattle.line_diff.proofs.PairLemmas.{near-end, near-within}
use Rattle.line_diff.proofs.rows.is_near.Goals as goal

pub returns-then-left-le-CONTEXT : goal.returns-then-left-le-CONTEXT
returns-then-left-le-CONTEXT c =
    let rows = rows_in c.args.olds.now c.args.news.now in
    let few : length rows - c.args.k ≤ 3 = omega arith in
    c.is_changed_within.ensures
    ∙ rw c.row_count-count.ensures (near-end rows c.args.k c.first_near.result c.first_near.ensures c.requires few)

pub returns : goal.returns
returns c =
    c.is_changed_within-2.ensures
    ∙ near-within (rows_in c.args.olds.now c.args.news.now) c.args.k c.first_near-2.result c.first_near-2.ensures
