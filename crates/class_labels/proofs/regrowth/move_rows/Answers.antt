use Rattle.std.proofs.Common.{◌≡◌, get_or, set, ap, ◌∙◌, arith, rules}
use Rattle.std.proofs.lemmas.List.Edits.{map_over_more}
use Rattle.class_labels.specs.Held.{no_row}
use Rattle.class_labels.specs.Regrown.{moved_row}
use Rattle.class_labels.proofs.regrowth.move_rows.Goals as goal

pub loop-index-preserved : goal.loop-index-preserved
loop-index-preserved c =
    let rows = c.loop-index.rows in
    let index = c.loop-index.index in
    let row = get_or rows index no_row in
    let moved : record { size = row.size; first = c.new_number.result; last = c.new_number-in-loop-index.result; len = row.len } ≡ moved_row c.args.numbers.now row =
    λ i. record { size = row.size; first = c.new_number.ensures i; last = c.new_number-in-loop-index.ensures i; len = row.len } in
    ap (λ v. set rows index v) moved ∙ map_over_more (moved_row c.args.numbers.now) c.args.rows.now rows index row (omega (arith, c.loop-index-test.true)) c.loop-index.invariant (search rules)
