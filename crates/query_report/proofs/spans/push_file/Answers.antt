use Rattle.std.proofs.Common.{◌≡◌, ◌++◌, List, ℕ, Bool, arith}
use Rattle.std.specs.List.{flat_map}
use Rattle.query_report.specs.Skipped.{span_line, ended, file_lines}
use Rattle.query_report.specs.Marks.{is_marked}
use Rattle.query_report.proofs.SequenceLemmas.{lines-more, lines-end, on_ok-then}
use Rattle.query_report.proofs.spans.push_file.Goals as goal

pub loop-k-preserved : goal.loop-k-preserved
loop-k-preserved c =
    let reached : ℕ → Bool = is_marked c.args.marks.now c.args.file in
    let whole : List ℕ = c.args.text.now.items ++ file_lines c.args.path.now reached c.args.items.now in
    let added : c.push_ended.new.text.items ≡ c.loop-k.text.items ++ flat_map (span_line c.args.path.now) (ended (reached c.loop-k.k) c.loop-k.before) =
    rw (← c.is_marked-reached.ensures) c.in_ok-push_ended.ensures in
    let goes_on = rw c.is_marked-reached.ensures at c.going_on-before.ensures in
    lines-more c.args.path.now reached c.args.items.now c.loop-k.k c.loop-k.before c.going_on-before.result _ c.loop-k.text.items c.push_ended.new.text.items whole
    c.loop-k-test.true c.loop-k.invariant added goes_on

pub returns : goal.returns
returns c =
    let reached : ℕ → Bool = is_marked c.args.marks.now c.args.file in
    let whole : List ℕ = c.args.text.now.items ++ file_lines c.args.path.now reached c.args.items.now in
    on_ok-then c.push_sequence.result _ _ c.push_sequence.ensures
    (λ added. lines-end c.args.path.now reached c.args.items.now c.loop-k.k c.loop-k.before c.loop-k.text.items c.push_sequence.new.text.items whole (omega arith) c.loop-k.invariant added)
