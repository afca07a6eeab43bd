use Rattle.std.proofs.Common.{ℕ, subst, sym}
use Rattle.line_diff.specs.Pairs.{IsRowTold}
use Rattle.line_diff.proofs.TellingLemmas.{alike-line, row-alike, row-changed}
use Rattle.line_diff.proofs.entries.push_row.Goals as goal

pub returns-then-is_changed : goal.returns-then-is_changed
returns-then-is_changed c =
    row-changed c.args.olds.now c.args.news.now c.args.told c.args.j c.args.text.now.items c.push_loss.new.text.items c.requires.in_order c.requires.within
    (sym c.if-is_changed.ensures) c.in_ok-push_loss.ensures

pub returns : goal.returns
returns c =
    let line = alike-line c.args.olds.now c.args.news.now c.args.j c.requires.within (sym c.if-is_changed.ensures) in
    let P : ℕ → Type 0 = λ n. IsRowTold c.args.olds.now c.args.news.now c.args.told c.args.j n c.args.text.now.items c.push_kept.new.text.items in
    subst P (sym c.requires.follows)
    (row-alike c.args.olds.now c.args.news.now c.args.told c.args.j line.0 c.args.text.now.items c.push_gains.new.text.items c.push_kept.new.text.items
    line.1.0 line.1.1 c.in_ok-push_gains.ensures c.in_ok-push_kept.ensures)
