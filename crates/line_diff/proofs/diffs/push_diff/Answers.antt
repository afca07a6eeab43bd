use Rattle.std.proofs.Common.{sym}
use Rattle.line_diff.proofs.PushLemmas.{file-same, file-text}
use Rattle.line_diff.proofs.diffs.push_diff.Goals as goal

pub returns-then-is_same : goal.returns-then-is_same
returns-then-is_same c = file-same c.args.path.now c.args.old.now c.args.new.now c.args.text.now.items (sym c.if-is_same.ensures)

pub returns : goal.returns
returns c =
    let hunks = c.in_ok-push_hunks.ensures in
    file-text c.args.path.now c.args.old.now c.args.new.now c.args.text.now.items c.push_names.new.text.items c.push_hunks.new.text.items
    c.in_ok-olds.olds.items c.in_ok-news.news.items (sym c.if-is_same.ensures) c.in_ok-olds.ensures c.in_ok-news.ensures c.in_ok-push_names.ensures
    (rw (c.as_slice.ensures.value, c.as_slice-2.ensures.value) at hunks)
