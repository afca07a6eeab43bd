use Rattle.std.proofs.Common.{◌<◌, ◌≤◌, length, sym, ◌∙◌}
use Rattle.line_diff.specs.Pairs.{texts_of}
use Rattle.line_diff.proofs.PairLemmas.{length-rows-less, length-rows-more, length-texts}
use Rattle.line_diff.proofs.rows.row_count.Goals as goal

pub returns-then-olds-news : goal.returns-then-olds-news
returns-then-olds-news c =
    let a = texts_of c.args.olds.now in
    let b = texts_of c.args.news.now in
    let less : length a < length b = rw (length-texts c.args.olds.now, length-texts c.args.news.now) c.if-olds-news.true in
    sym (length-texts c.args.news.now) ∙ sym (length-rows-less a b less)

pub returns-else-olds-news : goal.returns-else-olds-news
returns-else-olds-news c =
    let a = texts_of c.args.olds.now in
    let b = texts_of c.args.news.now in
    let more : length b ≤ length a = rw (length-texts c.args.olds.now, length-texts c.args.news.now) c.if-olds-news.false in
    sym (length-texts c.args.olds.now) ∙ sym (length-rows-more a b more)
